use Rattle.prove_scenes.proofs.SceneLemmas.{made}
use Rattle.prove_scenes.proofs.scene.Scene.of.Goals as goal

pub returns : goal.returns
returns c = made c.args.sizes.now c.args.place.now _ _ _ c.new.ensures c.in_ok-stack_of.ensures c.new-2.ensures
