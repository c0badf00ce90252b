-- A line by the step that its play takes, with its recorded turns.
use Rattle.std.proofs.Common.{arith, ◌≡◌, ℕ, List, [], Option, Some, sym, subst}
use Rattle.model_play.specs.model_device.specs.Device.{DeviceState, BenchState}
use Rattle.model_play.specs.DeckGrammar.{DeckLine}
use Rattle.model_play.specs.model_machine.specs.Chain.{Turn}
use Rattle.model_play.specs.Play.{State, BeforePower, AfterPower, FailedWrite, Step, step, StandsForState}
use Rattle.model_play.specs.TraceText.{shown_turns}
use Rattle.mc_script.specs.declared.answer.Answer.{Answer}
use Rattle.mc_script.specs.declared.player.Player.{Player}
use Rattle.mc_script.specs.Players.{device_of, IsPlayerAt}
use Rattle.mc_script.specs.Lines.{Stepped, SilentDone, Lined, LineDone}
use Rattle.mc_script.proofs.AccountLemmas.{stands_after_power}

-- the words of a player hold the state of its play
pub at_stands : {N : Type 0} (state : N → DeviceState) (bench : N → BenchState) (p : Player N) (s : State) → IsPlayerAt state bench p s → StandsForState (state (device_of p)).words s
at_stands state bench p (BeforePower m b a) at = at.stands.1
at_stands state bench p (AfterPower w) at = stands_after_power (state (device_of p)).words w at.stands.1

module _ {N R : Type 0} (state : N → DeviceState) (bench : N → BenchState) (reported : R → List Turn → R → Type 0) where
  -- a line by the step that its play takes
  pub lined : (p q : Player N) (s : State) (l : ℕ × DeckLine) (w : Option FailedWrite) (t : Step) (r : Option Answer) (before after : R) → step s l w ≡ t → Stepped state bench p s l w t r q
      → reported before (shown_turns t.turns t.stop) after → Lined state bench reported p s l w before after r q
  lined p q s l w t r before after is stepped reports = grind arith

  -- a line without turns, of which nothing is recorded
  pub silent_line : ((r : R) → reported r [] r) → (p q : Player N) (l : DeckLine) (x : Option Answer) (r : R) → SilentDone state bench p l x q → LineDone state bench reported p l r r x q
  silent_line silent p q l x r done s n at = grind (arith, done s n at, step s (n, l) (done s n at).0)

  -- the line that is played is the one that was given
  pub given_line : (p q : Player N) (l k : DeckLine) (x : Option Answer) (before after : R) → l ≡ k → LineDone state bench reported p k before after x q → LineDone state bench reported p l before after x q
  given_line p q l k x before after is done = subst (λ (y : DeckLine). LineDone state bench reported p y before after x q) (sym is) done

  -- a line, with another expression for its player and its answer
  pub same_line : (p q e : Player N) (l : DeckLine) (x y : Answer) (before after : R) → LineDone state bench reported p l before after (Some x) q → e ≡ q → y ≡ x → LineDone state bench reported p l before after (Some y) e
  same_line p q e l x y before after done same says =
      subst (λ (z : Player N). LineDone state bench reported p l before after (Some y) z) (sym same) (subst (λ (z : Answer). LineDone state bench reported p l before after (Some z) q) (sym says) done)

-- a line with what is recorded of its command, which is that of the line that was given
pub given_sent : {N R : Type 0} (state : N → DeviceState) (bench : N → BenchState) (reported : DeckLine → R → List Turn → R → Type 0) (p q : Player N) (l k : DeckLine) (x : Option Answer) (before after : R) → l ≡ k → LineDone state bench (reported k) p k before after x q → LineDone state bench (reported l) p l before after x q
given_sent state bench reported p q l k x before after is done = subst (λ (y : DeckLine). LineDone state bench (reported y) p y before after x q) (sym is) done
