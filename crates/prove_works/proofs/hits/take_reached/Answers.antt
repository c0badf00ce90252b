use Rattle.std.proofs.Common.{◌∙◌, false, sym}
use Rattle.prove_scenes.specs.Scenes.{frame_to}
use Rattle.prove_works.specs.Reaches.{reach_value}
use Rattle.prove_works.proofs.HitLemmas.{taken}
use Rattle.prove_works.proofs.hits.take_reached.Goals as goal

pub returns : goal.returns
returns c =
    taken (frame_to c.args.scene.now c.args.dt) (reach_value c.args.reach.now) c.args.at c.args.facts.now false (sym c.if-is_reached.false ∙ c.is_reached.ensures)
