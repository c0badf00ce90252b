-- the first range that is broken is one of those that are left
use Rattle.std.proofs.Common.{◌≡◌, drop}
use Rattle.lab_history.specs.Standings.{first_range}
use Rattle.lab_history.proofs.standing.broken_range.Given as goal

abbrev pub invariant-loop-i : goal.invariant-loop-i
invariant-loop-i l = first_range l.fixed (drop l.i l.ranges) l.i ≡ first_range l.fn.fixed l.fn.ranges 0
