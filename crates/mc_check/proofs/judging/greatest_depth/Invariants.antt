-- no entry before the place breaks a rule
use Rattle.mc_check.proofs.TablePasses.{Passes}
use Rattle.mc_check.proofs.judging.greatest_depth.Given as goal

abbrev pub invariant-loop-place : goal.invariant-loop-place
invariant-loop-place l = Passes l.code l.session l.table l.bases l.has_calls l.place l.most
