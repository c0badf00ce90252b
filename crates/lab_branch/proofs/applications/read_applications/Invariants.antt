use Rattle.std.proofs.Common.{◌-◌, ◌≤◌, length}
use Rattle.lab_branch.proofs.Gathering.{Gathers}
use Rattle.lab_branch.proofs.applications.read_applications.Given as goal

-- the applications of the blocks before the place were read
abbrev pub invariant-loop-place : goal.invariant-loop-place
invariant-loop-place g l =
    let m = (g.N.Nvm.state l.device).words in
    record {
      high : l.place ≤ length m;
      gathers : Gathers m l.place l.applications.items;
    }

abbrev pub decreases-loop-place : goal.decreases-loop-place
decreases-loop-place g l = l.size - l.place
