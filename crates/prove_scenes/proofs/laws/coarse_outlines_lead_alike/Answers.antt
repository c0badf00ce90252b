use Rattle.prove_scenes.proofs.OutlineLemmas.{coarse_outline_law}
use Rattle.prove_scenes.proofs.laws.coarse_outlines_lead_alike.Goals as goal

pub returns : goal.returns
returns c = coarse_outline_law
