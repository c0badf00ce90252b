use Rattle.std.proofs.Common.{◌≡◌, ◌-◌, ◌≤◌, length, take}
use Rattle.mc_bank.specs.Bank.{app_of}
use Rattle.desk_cover.proofs.looking.has_code.Given as goal

-- the bytes before a place are alike
abbrev pub invariant-loop-at : goal.invariant-loop-at
invariant-loop-at g l =
    record {
      at : l.at ≤ length l.code;
      alike : take l.at (app_of (g.B.Bank.state l.bank).apps (g.B.Bank.named l.bank l.slot)).code ≡ take l.at l.code;
    }

abbrev pub decreases-loop-at : goal.decreases-loop-at
decreases-loop-at g l = length l.code - l.at
