use Rattle.std.proofs.Common.{◌≡◌, false}
use Rattle.mc_card_tests.proofs.stores.changes.make_all.Given as goal

-- the bank has not stopped after each change
abbrev pub invariant-loop-i : goal.invariant-loop-i
invariant-loop-i g l = record { going : (g.B.Bank.state l.bank).stopped ≡ false }
