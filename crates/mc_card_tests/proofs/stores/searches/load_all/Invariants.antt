use Rattle.std.proofs.Common.{◌≡◌, false}
use Rattle.mc_card_tests.proofs.stores.searches.load_all.Given as goal

-- the bank has not stopped after each change
abbrev pub invariant-loop-last : goal.invariant-loop-last
invariant-loop-last g l = record { going : (g.B.Bank.state l.bank).stopped ≡ false }
