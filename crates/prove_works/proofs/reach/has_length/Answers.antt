use Rattle.prove_scenes.specs.Scenes.{frame_to}
use Rattle.prove_works.proofs.ReachLemmas.{lengths_are}
use Rattle.prove_works.proofs.reach.has_length.Goals as goal

pub returns : goal.returns
returns c =
    lengths_are (frame_to c.args.scene.now c.args.dt) c.args.lengths.now c.long_lengths-long.result c.args.at c.end_of-end.result c.args.after c.are_apart.result
    c.end_of-end.ensures c.long_lengths-long.ensures c.are_apart.ensures
