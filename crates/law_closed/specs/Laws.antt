-- The laws of closed families: how they combine, what they see, and which ones are closed whatever is played.
use Rattle.std.specs.Prelude.{◌≡◌, ◌↔◌, ℕ, true, false, not, ◌&&◌, ◌||◌, List, [], ◌∷◌, take, Option, ⊤}
use Rattle.std.specs.List.{AllByRecursion}
use Rattle.law_family.specs.model_device.specs.Bytes.{has_name}
use Rattle.law_family.specs.model_device.specs.Card.{App}
use Rattle.law_family.specs.model_machine.specs.Apdu.{ApduParts}
use Rattle.law_family.specs.model_machine.specs.Chain.{run}
use Rattle.law_family.specs.model_play.specs.DeckGrammar.{DeckLine}
use Rattle.law_family.specs.model_play.specs.Family.{Closed, is_own}
use Rattle.law_family.specs.model_play.specs.Given.{apps_in, first_apps, given_of_play}
use Rattle.law_family.specs.model_play.specs.Laws.{creations_among}
use Rattle.law_family.specs.model_play.specs.Play.{FailedWrite, Step, Possible, last_state, plays, start}
use Rattle.law_family.specs.model_play.specs.View.{answers, rest_of, work, IsIsolated}
use Rattle.law_closed.specs.Families.{in_either, in_both, in_first_alone}
use Rattle.law_closed.specs.Delegations.{CannotDelegate, can_delegate, CanCall, NoneOutsideCan}

-- ---- families made of two others

-- a name is in these families by whether it is in each of the two
pub record AreNamesOf (K J : List (List ℕ)) : Type 0 where
  pub either : (n : List ℕ) → has_name n (in_either K J) ≡ has_name n K || has_name n J
  pub both : (n : List ℕ) → has_name n (in_both K J) ≡ has_name n K && has_name n J
  pub alone : (n : List ℕ) → has_name n (in_first_alone K J) ≡ has_name n K && not (has_name n J)

-- these families are closed
pub record AreClosed (K J : List (List ℕ)) (steps : List Step) : Type 0 where
  pub either : Closed (in_either K J) steps
  pub both : Closed (in_both K J) steps
  pub alone : Closed (in_first_alone K J) steps

-- the law of families that are made of two closed ones
pub record FamiliesLaw : Type 0 where
  pub names : (K J : List (List ℕ)) → AreNamesOf K J
  pub closed : (K J : List (List ℕ)) (steps : List Step) → Closed K steps → Closed J steps → AreClosed K J steps

-- ---- two plays

-- a front of a play from an image
abbrev pub front_of_play : List (ℕ × DeckLine) → List (List ℕ) → List (Option FailedWrite) → ℕ → List Step
front_of_play ls m ws n = take n (plays (start m) ls ws)

-- the family sees the same in the lines of two plays
pub record SeesTheSame (K : List (List ℕ)) (m d : List (List ℕ)) (us vs : List Step) : Type 0 where
  -- the results of its commands and dumps
  pub answers : answers K us ≡ answers K vs
  -- its static bytes at the end
  pub rest : rest_of K (apps_in (last_state (start m) us)) ≡ rest_of K (apps_in (last_state (start d) vs))
  -- the items of its commands, and the stops that hit them
  pub work : work K us ≡ work K vs

-- Whatever two decks, images, lists of possible failed writes and fronts of the two plays: if the family is closed in
-- both, and both give it the same (the applications that it has at the first power line, its commands with budgets and
-- stops, its dumps, its creations and deletions that are durable, the losses of its selection), it sees the same.
abbrev pub SameGivenLaw : Type 0
SameGivenLaw =
    (K : List (List ℕ))
    (ls : List (ℕ × DeckLine)) (m : List (List ℕ)) (ws : List (Option FailedWrite)) → Possible (start m) ls ws
    → (js : List (ℕ × DeckLine)) (d : List (List ℕ)) (vs : List (Option FailedWrite)) → Possible (start d) js vs
    → (n k : ℕ) → let here = front_of_play ls m ws n in let there = front_of_play js d vs k in
    Closed K here → Closed K there → given_of_play K here ≡ given_of_play K there → SeesTheSame K m d here there

-- ---- closed by code

-- the pairs of a command: who delegates
pub record DelegatesByCode (map : List (List ℕ × App)) (first : List ℕ) (pairs : List (List ℕ × List ℕ)) : Type 0 where
  -- each caller was on the card when the command began, and can delegate
  pub callers : AllByRecursion (λ p. CanCall map p.0) pairs
  -- there is none if the application that the command is passed to cannot
  pub none : (CanCall map first → ⊥) → pairs ≡ []

-- each delegation of a line comes from an application that was on the card before the line, and can delegate
abbrev pub EachCallerCan : List Step → Type 0
EachCallerCan [] = ⊤
EachCallerCan (t ∷ ts) = AllByRecursion (λ p. CanCall (apps_in t.before) p.0) t.pairs × EachCallerCan ts

-- the law of delegations
pub record DelegationLaw : Type 0 where
  -- the test is right
  pub test : (a : App) → can_delegate a ≡ false ↔ CannotDelegate a
  -- every command to an application
  pub runs :
      (map : List (List ℕ × App)) (first session : List ℕ) (apdu : ApduParts) (budget : ℕ)
      → DelegatesByCode map first (run map first session apdu budget).pairs
  -- every line of every play, for every list of failed writes, possible or not
  pub plays :
      (ls : List (ℕ × DeckLine)) (m : List (List ℕ)) (ws : List (Option FailedWrite)) (n : ℕ)
      → EachCallerCan (front_of_play ls m ws n)

-- of the applications that the lines create none outside the family can delegate
abbrev pub NoneNewCan : List (List ℕ) → List Step → Type 0
NoneNewCan K [] = ⊤
NoneNewCan K (t ∷ ts) = NoneOutsideCan K (creations_among t.whole) × NoneNewCan K ts

-- of all applications that are ever on the card none outside the family can delegate: none of those that the first
-- power line finds, and none that a line creates
pub record NoStrangerCan (K : List (List ℕ)) (steps : List Step) : Type 0 where
  pub first : NoneOutsideCan K (first_apps steps)
  pub created : NoneNewCan K steps

-- no line delegates
abbrev pub NoPairs : List Step → Type 0
NoPairs [] = ⊤
NoPairs (t ∷ ts) = (t.pairs ≡ []) × NoPairs ts

-- each family is closed, and so isolated
pub record AllClosed (m : List (List ℕ)) (steps : List Step) : Type 0 where
  pub none : NoPairs steps
  pub closed : (K : List (List ℕ)) → Closed K steps
  pub isolated : (K : List (List ℕ)) → IsIsolated K (start m) steps

-- the family's own commands delegate to its own names alone
abbrev pub OwnPairsStay : List (List ℕ) → List Step → Type 0
OwnPairsStay K [] = ⊤
OwnPairsStay K (t ∷ ts) = (is_own K t ≡ true → AllByRecursion (λ p. has_name p.1 K ≡ true) t.pairs) × OwnPairsStay K ts

-- a family is closed, and so isolated
pub record IsClosed (K : List (List ℕ)) (m : List (List ℕ)) (steps : List Step) : Type 0 where
  pub closed : Closed K steps
  pub isolated : IsIsolated K (start m) steps

-- what a front of a play has of closedness by its applications' code
pub record ClosedByCode (m : List (List ℕ)) (steps : List Step) : Type 0 where
  -- if no application that is ever on the card can delegate, every family is closed
  pub all : NoStrangerCan [] steps → AllClosed m steps
  -- if none outside the family can, the family is closed once its own commands delegate to its own names alone
  pub own : (K : List (List ℕ)) → NoStrangerCan K steps → OwnPairsStay K steps → IsClosed K m steps

-- The law of closedness by code, for every deck, image, list of possible failed writes and front of the play.
abbrev pub ClosedByCodeLaw : Type 0
ClosedByCodeLaw =
    (ls : List (ℕ × DeckLine)) (m : List (List ℕ)) (ws : List (Option FailedWrite)) → Possible (start m) ls ws
    → (n : ℕ) → ClosedByCode m (front_of_play ls m ws n)
