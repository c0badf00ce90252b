use Rattle.std.proofs.Common.{◌≡◌, ℕ, List, Some, subst}
use Rattle.std.specs.Prelude.{◌≢◌}
use Rattle.mc_bank.specs.declared.entries.Entry.{Entry}
use Rattle.mc_bank.specs.Bank.{name_or}
use Rattle.mc_bank.specs.Memory.{memory_named}
use Rattle.mc_bank.proofs.memory.MemBankBank.delete.Goals as goal

pub returns-clause-slots : goal.returns-clause-slots
returns-clause-slots c =
    subst (λ (m : List Entry). (k : ℕ) (n : List ℕ) → memory_named m k ≡ Some n → n ≢ name_or (memory_named m c.args.slot) → memory_named c.delete.new.entries.items k ≡ Some n) c.self.view_is c.delete.ensures.left.slots
