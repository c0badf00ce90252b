use Rattle.std.proofs.Common.{◌≡◌, ◌++◌, drop}
use Rattle.lab_branch.specs.Rosters.{statics_of}
use Rattle.lab_branch.proofs.roster.static_bytes.Given as goal

-- the bytes of the applications before this one, and those of the rest
abbrev pub invariant-loop-application : goal.invariant-loop-application
invariant-loop-application l = l.bytes.items ++ statics_of (drop l.application-index l.applications) ≡ statics_of l.applications
