-- The card of its own does the same without the losses of a selection that it does not have.
use Rattle.std.proofs.Common.{◌≡◌, ℕ, cond, List, [], ◌∷◌, Option, Some, None, refl, sym, ap, ◌∙◌, arith}
use Rattle.std.specs.Prelude.{is_some}
use Rattle.law_family.specs.model_device.specs.Card.{App}
use Rattle.law_family.specs.model_card.specs.Manager.{Selected}
use Rattle.law_family.specs.model_play.specs.Given.{Event, Leaves, Given, given_of_play}
use Rattle.law_family.specs.model_play.specs.Play.{Step, start}
use Rattle.law_family.specs.model_play.specs.Solo.{Heard, Solo, heard_before, hears, hears_all, solo}
use Rattle.law_family.specs.model_play.specs.View.{View, IsIsolated, rest_of}
use Rattle.law_family.proofs.PlayLaw.{isolation_law}
use Rattle.law_closed.specs.Needed.{needed, needed_first, needed_of, solo_at}
use Rattle.law_closed.specs.ApartLaws.{NeededLaw, SameNeededLaw, SeesTheSame, front_of_play}

-- a card with nothing selected is as it was after a loss
lost_nothing : (map : List (List ℕ × App)) (es : List Event) → hears_all (record { map = map; selected = None }) (Leaves ∷ es) ≡ hears_all (record { map = map; selected = None }) es
unfolding hears_all hears
lost_nothing map es = refl

-- an event before others
with_event : (t : Solo) (e : Event) (es fs : List Event) → hears_all (hears t e).after es ≡ hears_all (hears t e).after fs → hears_all t (e ∷ es) ≡ hears_all t (e ∷ fs)
unfolding hears_all
with_event t e es fs h = ap (λ (r : Heard). heard_before (hears t e) r) h

loss_by : (map : List (List ℕ × App)) (s : Option Selected) (es fs : List Event) → hears_all (hears (record { map = map; selected = s }) Leaves).after es ≡ hears_all (hears (record { map = map; selected = s }) Leaves).after fs
    → hears_all (record { map = map; selected = s }) (cond (is_some s) (Leaves ∷ es) es) ≡ hears_all (record { map = map; selected = s }) (Leaves ∷ fs)
loss_by map (Some x) es fs h = with_event (record { map = map; selected = Some x }) Leaves es fs h
loss_by map None es fs h = sym (lost_nothing map es) ∙ with_event (record { map = map; selected = None }) Leaves es fs h

first_by : (t : Solo) (e : Event) (es fs : List Event) → hears_all (hears t e).after es ≡ hears_all (hears t e).after fs → hears_all t (needed_first t e es) ≡ hears_all t (e ∷ fs)
first_by t e es fs h = grind (arith, loss_by, with_event)

needed_alike : (es : List Event) (t : Solo) → hears_all t (needed t es) ≡ hears_all t es
unfolding needed
needed_alike [] t = refl
needed_alike (e ∷ es) t = first_by t e (needed (hears t e).after es) es (needed_alike es (hears t e).after)

-- the card of its own does the same without the losses of a selection that it does not have
pub needed_law : NeededLaw
needed_law g = needed_alike g.events (solo_at g.start)

-- ---- two plays

solo_same : (g h : Given) → needed_of g ≡ needed_of h → solo g ≡ solo h
solo_same g h same = sym (needed_law g) ∙ ap (λ (x : Given). solo x) same ∙ needed_law h

-- the view of what was heard
abbrev view_of : List (List ℕ) → Heard → View
view_of K h = record { answers = h.answer; rest = rest_of K h.after.map }

seen_alike : (K m d : List (List ℕ)) (us vs : List Step) → IsIsolated K (start m) us → IsIsolated K (start d) vs → solo (given_of_play K us) ≡ solo (given_of_play K vs) → SeesTheSame K m d us vs
seen_alike K m d us vs here there same = grind arith

-- two plays that give a closed family what it needs show it the same
pub same_needed_law : SameNeededLaw
same_needed_law K ls m ws may js d vs may_there n k here there same =
    seen_alike K m d (front_of_play ls m ws n) (front_of_play js d vs k) ((isolation_law ls m ws may n).family K here) ((isolation_law js d vs may_there k).family K there) (solo_same (given_of_play K (front_of_play ls m ws n)) (given_of_play K (front_of_play js d vs k)) same)
