use Rattle.std.proofs.Common.{refl}
use Rattle.std.specs.Fmt.{digits}
use Rattle.desk_explain.proofs.rows.a_line.Goals as goal

-- src/rows.rt:9:1
pub returns : goal.returns
unfolding digits
returns c = refl
