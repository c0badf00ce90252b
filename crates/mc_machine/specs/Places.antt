-- A place for a chain: the chain that runs in it, if one runs, and what a turn in it does.
use Rattle.std.specs.Prelude.{◌≡◌, ℕ, ◌+◌, Bool, true, false, List, Option, Some, None, Result}
use Rattle.law_machine.specs.model_device.specs.declared.device.Stop.{Stop}
use Rattle.law_machine.specs.model_machine.specs.Chain.{Chain, turn_of}
use Rattle.mc_bank.specs.Bank.{BankState, AreApps}
use Rattle.mc_machine.specs.Chains.{Chained, RunsAs}
use Rattle.mc_machine.specs.Turns.{TurnDone, WritesFew}
use Rattle.mc_machine.specs.declared.outcome.Turn.{Turn}
use Rattle.mc_bank.specs.declared.bank.Bank.{Ghosts}

-- the chain that runs in a place, by whether one runs and the last chain that was begun there
abbrev pub chain_if_running : Bool → Option Chained → Option Chained
chain_if_running true c = c
chain_if_running false c = None

-- a chain runs in a place, and the given statement holds of it
abbrev pub Runs : Option Chained → (Chained → Type 0) → Type 0
Runs None P = ⊥
Runs (Some c) P = P c

-- a chain runs in a place that runs as a chain of the definitions, with an instruction budget
pub record IsBegun (s : BankState) (named : ℕ → Option (List ℕ)) (ch : Chain) (budget : ℕ) (c : Chained) : Type 0 where
  pub runs : RunsAs s named c ch
  pub left : c.left ≡ budget

-- a turn of the chain that runs in a place, by its result and the number of steps before and after it
pub record TurnsTo {B : Type 0} (ghosts : Ghosts B) (b e : B) (result : Result Turn Stop) (old new : ℕ) (c d : Chained) : Type 0 where
  pub done : (ch : Chain) → RunsAs (ghosts.state b) (ghosts.named b) c ch → TurnDone ghosts b e c d ch (turn_of c.left ch) result
  pub steps : (ch : Chain) → RunsAs (ghosts.state b) (ghosts.named b) c ch → new ≡ old + (turn_of c.left ch).count
  pub few : (ch : Chain) → RunsAs (ghosts.state b) (ghosts.named b) c ch → AreApps (ghosts.state b).apps → WritesFew (turn_of c.left ch)
