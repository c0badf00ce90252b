-- there is no call before the place
use Rattle.mc_check.specs.Judging.{HasNoCall}
use Rattle.mc_check.proofs.judging.has_call.Given as goal

abbrev pub invariant-loop-place : goal.invariant-loop-place
invariant-loop-place l = HasNoCall l.code l.table l.place
