use Rattle.std.proofs.Common.{◌≡◌, length}
use Rattle.mc_lab.proofs.sweep_account.Account.new.Given as goal

-- one place for each name up to here
abbrev pub invariant-loop-name : goal.invariant-loop-name
invariant-loop-name l = length l.held.items ≡ l._name
