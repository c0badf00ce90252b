use Rattle.std.proofs.Common.{◌≡◌, map}
use Rattle.lab_branch.specs.Rosters.{resident_value, roster_of}
use Rattle.lab_branch.proofs.roster.Roster.new.Given as goal

-- the applications so far are residents
abbrev pub invariant-loop-application : goal.invariant-loop-application
invariant-loop-application l = map resident_value l.residents.items ≡ roster_of l.yielded
