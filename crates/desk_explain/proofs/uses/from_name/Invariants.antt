use Rattle.std.proofs.Common.{length}
use Rattle.desk_explain.proofs.uses.from_name.Given as goal

abbrev pub decreases-loop-rest : goal.decreases-loop-rest
decreases-loop-rest l = length l.rest
