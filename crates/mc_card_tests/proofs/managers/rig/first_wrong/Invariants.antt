use Rattle.std.proofs.Common.{◌≡◌, false}
use Rattle.mc_manager.specs.ManagerState.{view_of, ManagerFits}
use Rattle.mc_card_tests.proofs.managers.rig.first_wrong.Given as goal

-- the manager fits the bank after each row
abbrev pub invariant-loop-i : goal.invariant-loop-i
invariant-loop-i g l =
    record {
      going : (g.B.Bank.state l.bank).stopped ≡ false;
      fits : ManagerFits (view_of g.B.Bank l.bank) l.manager;
    }
