-- What a family is given of a play, without the losses of a selection that it does not have.
use Rattle.std.specs.Prelude.{ℕ, cond, List, [], ◌∷◌, is_some, None}
use Rattle.law_family.specs.model_device.specs.Card.{App}
use Rattle.law_family.specs.model_play.specs.Given.{Event, Arrives, Departs, Commands, Dumps, Leaves, Given}
use Rattle.law_family.specs.model_play.specs.Solo.{Solo, hears}

-- an event on the card of its own, before those that are needed after it: a loss counts if an application is selected
abbrev pub needed_first : Solo → Event → List Event → List Event
needed_first t Leaves rest = cond (is_some t.selected) (Leaves ∷ rest) rest
needed_first t (Arrives n a) rest = Arrives n a ∷ rest
needed_first t (Departs n) rest = Departs n ∷ rest
needed_first t (Commands b budget s) rest = Commands b budget s ∷ rest
needed_first t (Dumps n) rest = Dumps n ∷ rest

-- the events that are needed, from a state of the card of its own on
unfoldable pub needed : Solo → List Event → List Event
needed t [] = []
needed t (e ∷ es) = needed_first t e (needed (hears t e).after es)

-- the card of its own at the start
abbrev pub solo_at : List (List ℕ × App) → Solo
solo_at apps = record { map = apps; selected = None }

-- what is given, with the events that are needed
abbrev pub needed_of : Given → Given
needed_of g = record { start = g.start; events = needed (solo_at g.start) g.events }
