use Rattle.std.proofs.Common.{◌≡◌, ◌++◌, drop}
use Rattle.lab_branch.specs.Branches.{differences_at}
use Rattle.lab_branch.proofs.branch.differences_at.Given as goal

-- the differences so far, and those at the places that are left
abbrev pub invariant-loop-place : goal.invariant-loop-place
invariant-loop-place l =
    l.differences.items ++ differences_at l.device.words l.root (drop l.place-index l.places) ≡ differences_at l.device.words l.root l.places
