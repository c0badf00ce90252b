use Rattle.std.proofs.Common.{◌∙◌, sym}
use Rattle.std.proofs.lemmas.Bool.{eqb-true}
use Rattle.prove_scenes.proofs.SegmentLemmas.{laid_zeros}
use Rattle.prove_scenes.proofs.segment.laid.Goals as goal

pub returns-then-is_empty : goal.returns-then-is_empty
returns-then-is_empty c = laid_zeros c.args.size c.args.kept.now (eqb-true _ _ (sym c.is_empty.ensures ∙ c.if-is_empty.true)) c.requires
