use Rattle.std.proofs.Common.{sym}
use Rattle.prove_scenes.proofs.coarse_rows.pair_coarse_shape.Goals as goal

pub returns-in-Some : goal.returns-in-Some
returns-in-Some c = λ k. rw (sym c.of.ensures, c.in-Some.is) (c.prim_coarse_shape.ensures k)
