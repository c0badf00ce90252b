use Rattle.law_rows.proofs.RowShapes.{shapes}
use Rattle.law_rows.proofs.rows_have_shapes.Goals as goal

pub returns : goal.returns
returns c = record { shapes = shapes }
