use Rattle.std.proofs.Common.{◌≡◌, length, map, drop}
use Rattle.mc_lab.specs.Sweeps.{are_same_held}
use Rattle.mc_lab.specs.SweepBodies.{held_value}
use Rattle.mc_lab.proofs.sweep_account.are_same_held.Given as goal

-- the rests are equal exactly if the lists are
abbrev pub invariant-loop-i : goal.invariant-loop-i
invariant-loop-i l =
    record {
      long : length l.a ≡ length l.b;
      rest : are_same_held (map held_value (drop l.i l.a)) (map held_value (drop l.i l.b)) ≡ are_same_held (map held_value l.a) (map held_value l.b);
    }
