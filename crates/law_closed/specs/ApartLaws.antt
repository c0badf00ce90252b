-- A neighbour's number of commands is no input.
use Rattle.std.specs.Prelude.{◌≡◌, ℕ, List, take, Option}
use Rattle.law_family.specs.model_play.specs.DeckGrammar.{DeckLine}
use Rattle.law_family.specs.model_play.specs.Family.{Closed}
use Rattle.law_family.specs.model_play.specs.Given.{Given, apps_in, given_of_play}
use Rattle.law_family.specs.model_play.specs.Play.{FailedWrite, Step, Possible, last_state, plays, start}
use Rattle.law_family.specs.model_play.specs.Solo.{solo}
use Rattle.law_family.specs.model_play.specs.View.{answers, rest_of, work}
use Rattle.law_closed.specs.Needed.{needed_of}

-- The card of its own does the same on what is needed as on all that is given.
abbrev pub NeededLaw : Type 0
NeededLaw = (g : Given) → solo (needed_of g) ≡ solo g

-- a front of a play from an image
abbrev pub front_of_play : List (ℕ × DeckLine) → List (List ℕ) → List (Option FailedWrite) → ℕ → List Step
front_of_play ls m ws n = take n (plays (start m) ls ws)

-- the family sees the same in the lines of two plays
pub record SeesTheSame (K : List (List ℕ)) (m d : List (List ℕ)) (us vs : List Step) : Type 0 where
  -- the results of its commands and dumps
  pub answers : answers K us ≡ answers K vs
  -- its static bytes at the end
  pub rest : rest_of K (apps_in (last_state (start m) us)) ≡ rest_of K (apps_in (last_state (start d) vs))
  -- the items of its commands, and the stops that hit them
  pub work : work K us ≡ work K vs

-- Noninterference. Whatever two decks, images, lists of possible failed writes and fronts of the two plays: if the family
-- is closed in both, and both give it the same (the applications that it has at the first power line, its commands with
-- budgets and stops, its dumps, its creations and deletions that are durable, and the losses of a selection that it has),
-- it sees the same. How often strangers are selected or sent commands, and how often power goes while nothing of the
-- family is selected, is no input.
abbrev pub SameNeededLaw : Type 0
SameNeededLaw =
    (K : List (List ℕ))
    (ls : List (ℕ × DeckLine)) (m : List (List ℕ)) (ws : List (Option FailedWrite)) → Possible (start m) ls ws
    → (js : List (ℕ × DeckLine)) (d : List (List ℕ)) (vs : List (Option FailedWrite)) → Possible (start d) js vs
    → (n k : ℕ) → let here = front_of_play ls m ws n in let there = front_of_play js d vs k in
    Closed K here → Closed K there → needed_of (given_of_play K here) ≡ needed_of (given_of_play K there) → SeesTheSame K m d here there
