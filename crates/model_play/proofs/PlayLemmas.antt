-- What a step of a play keeps of its line: the number, the line, and the state before it.
use Rattle.std.specs.Prelude.{◌≡◌, ℕ, Option, refl}
use Rattle.model_play.specs.DeckGrammar.{DeckLine}
use Rattle.model_play.specs.Play.{State, FailedWrite, Step, step}
use Rattle.model_play.proofs.LineKinds.{StepKind, Early, Quiet, Powers, Sends, by_kind}

-- a step of this line, from this state
pub record IsStepOf (s : State) (n : ℕ) (l : DeckLine) (t : Step) : Type 0 where
  pub number : t.number ≡ n
  pub line : t.line ≡ l
  pub before : t.before ≡ s

kind_is : {w : Option FailedWrite} {s : State} {n : ℕ} {l : DeckLine} {t : Step} → StepKind w s n l t → IsStepOf s n l t
kind_is (Early p) = record { number = refl; line = refl; before = refl }
kind_is (Quiet p q) = record { number = refl; line = refl; before = refl }
kind_is (Powers z) = record { number = refl; line = refl; before = refl }
kind_is (Sends k c session_state) = record { number = refl; line = refl; before = refl }

pub step_is : (s : State) (l : ℕ × DeckLine) (w : Option FailedWrite) → IsStepOf s l.0 l.1 (step s l w)
step_is s l w = kind_is (by_kind s l w)
