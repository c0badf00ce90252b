use Rattle.model_machine.specs.Shapes.{prim_shape}
use Rattle.prove_scenes.specs.Heads.{around_value}
use Rattle.prove_scenes.proofs.prim_shaping.primitive_shape.Goals as goal

pub returns-in-StoreCcr : goal.returns-in-StoreCcr
unfolding prim_shape
returns-in-StoreCcr c = rw c.in-StoreCcr.is (c.store_flags.ensures c.args.args.now (around_value c.args.around.now))

pub returns-in-Digest : goal.returns-in-Digest
returns-in-Digest c = rw c.in-Digest.is (c.digest.ensures c.args.args.now (around_value c.args.around.now))

pub returns-in-Sign : goal.returns-in-Sign
returns-in-Sign c = rw c.in-Sign.is (c.sign.ensures (around_value c.args.around.now))
