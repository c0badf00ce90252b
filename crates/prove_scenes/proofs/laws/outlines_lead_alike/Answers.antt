use Rattle.prove_scenes.proofs.OutlineLemmas.{outline_law}
use Rattle.prove_scenes.proofs.laws.outlines_lead_alike.Goals as goal

pub returns : goal.returns
returns c = outline_law
