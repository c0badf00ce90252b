-- Every line leaves the card before it with the whole items of that line, all of them if it was not stopped.
use Rattle.std.specs.Prelude.{◌≡◌, ℕ, zero, suc, List, [], ◌∷◌, take, drop, Option, Some, None}
use Rattle.std.proofs.Common.{refl}
use Rattle.model_play.specs.model_device.specs.Card.{Card}
use Rattle.model_play.specs.model_device.specs.Image.{Journal}
use Rattle.model_play.specs.model_card.specs.Items.{StopAt}
use Rattle.model_play.specs.Play.{Armed, Live, Running, State, BeforePower, AfterPower, command_step, hit_of, FailedWrite, step, power_moves, plays, first_failure, Step}
use Rattle.model_play.specs.model_device.specs.PowerUp.{OnCard}
use Rattle.model_play.specs.model_card.specs.Commands.{Command}
use Rattle.model_play.specs.Laws.{KeepsLine, KeepsLines, whole_of}
use Rattle.model_play.specs.DeckGrammar.{DeckLine}
use Rattle.law_family.proofs.AfterPowerLines.{powered}
use Rattle.model_play.proofs.LineKinds.{past_power, StepKind, Early, Quiet, Powers, Sends, by_kind}

whole_of_none : (t : Option StopAt) → [] ≡ whole_of [] t
whole_of_none None = refl
whole_of_none (Some t) = refl

-- one command or the commands of a load
command_whole : (n : ℕ) (l : DeckLine) (c : Card) (o : ℕ) (j : Journal) (v : Live) (g : ℕ) (a : Armed) (r : Command) (t : Option StopAt) → KeepsLine (command_step n l (past_power (OnCard c) o j v g a) c r t)
command_whole n l c o j v g a r None = record { whole = refl; apps = refl }
command_whole n l c o j v g a r (Some t) = record { whole = refl; apps = refl }

kind_whole : {w : Option FailedWrite} {z : State} {n : ℕ} {l : DeckLine} {u : Step} → StepKind w z n l u → KeepsLine u
kind_whole (Early p) = record { whole = refl; apps = refl }
kind_whole (Quiet p h) = record { whole = refl; apps = refl }
kind_whole (Powers (BeforePower m b a)) = record { whole = whole_of_none _; apps = refl }
kind_whole {w} (Powers (AfterPower s)) = let t = hit_of s.armed (power_moves s) w in record { whole = whole_of_none t; apps = (powered [] s t).map }
kind_whole (Sends k c session_state) = command_whole _ _ c _ _ (Running session_state) _ _ _ _

step_whole : (s : State) (l : ℕ × DeckLine) (w : Option FailedWrite) → KeepsLine (step s l w)
step_whole s l w = kind_whole (by_kind s l w)

-- for every front of a play
pub whole_lines : (n : ℕ) (s : State) (ls : List (ℕ × DeckLine)) (ws : List (Option FailedWrite)) → KeepsLines (take n (plays s ls ws))
unfolding plays
whole_lines zero s ls ws = tt
whole_lines (suc n) s [] ws = tt
whole_lines (suc n) s (l ∷ ls) ws = (step_whole s l (first_failure ws), whole_lines n (step s l (first_failure ws)).after ls (drop 1 ws))
