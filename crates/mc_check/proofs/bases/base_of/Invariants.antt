use Rattle.mc_check.proofs.CallReporting.{ReportsUpTo}
use Rattle.mc_check.proofs.bases.base_of.Given as goal

abbrev pub invariant-loop-call : goal.invariant-loop-call
invariant-loop-call l = ReportsUpTo l.progress l.calls l.routine l.call-index l.greatest
