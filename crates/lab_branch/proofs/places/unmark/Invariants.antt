use Rattle.std.proofs.Common.{◌≡◌, drop, length}
use Rattle.lab_branch.specs.Branches.{MarksAreListed}
use Rattle.lab_branch.proofs.places.unmark.Given as goal

abbrev pub invariant-loop-place : goal.invariant-loop-place
invariant-loop-place l = record { left : MarksAreListed l.marks (drop l.place-index l.list); len : length l.marks ≡ length l.fn.marks }
