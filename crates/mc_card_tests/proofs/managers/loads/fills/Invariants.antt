use Rattle.std.proofs.Common.{◌≡◌, false}
use Rattle.mc_manager.specs.ManagerState.{view_of, ManagerFits}
use Rattle.mc_card_tests.proofs.managers.loads.fills.Given as goal

-- the manager fits the bank after each piece
abbrev pub invariant-loop-bytes : goal.invariant-loop-bytes
invariant-loop-bytes g l =
    record {
      going : (g.B.Bank.state l.bank).stopped ≡ false;
      fits : ManagerFits (view_of g.B.Bank l.bank) l.manager;
    }
