-- The end of a command over a bank.
use Rattle.std.specs.Prelude.{◌≡◌, ℕ, false, List, Result, IfOk, OnOk}
use Rattle.model_card.specs.model_device.specs.declared.device.Stop.{Stop}
use Rattle.model_card.specs.model_device.specs.Orders.{Answer, answer_of, InOrder}
use Rattle.model_card.specs.Items.{BankItem}
use Rattle.mc_bank.specs.Bank.{Changes}
use Rattle.mc_manager.specs.declared.routed.Routed.{Routed}
use Rattle.mc_manager.specs.ManagerState.{BankView, ManagerState, ManagerFits}
use Rattle.mc_manager.specs.CommandDue.{CommandDue, items_of, apps_after, CommandLeaves}

-- The end of a command whose verdict may depend on the session bytes, which the manager does not know: its items are
-- done in order and change the applications; without a stop it is answered, the manager fits the bank again, and the
-- bank has not stopped.
pub record CommandEnds {B : Type 0} (did : B → BankItem → Answer → B → Type 0) (of : List ℕ → CommandDue) (v : BankView) (m : ManagerState) (b : B) (result : Result Routed Stop) (v' : BankView) (m' : ManagerState) (b' : B) : Type 0 where
  pub items : (s : List ℕ) → InOrder did b (items_of (of s)) (answer_of result) b'
  pub apps : (s : List ℕ) → Changes v.state (apps_after (of s) v.state.apps) (answer_of result) v'.state
  pub leaves : (s : List ℕ) → IfOk result (λ r. CommandLeaves (of s) s v m r v' m')
  pub fits : OnOk result (ManagerFits v' m')
  pub going : OnOk result (v'.state.stopped ≡ false)
