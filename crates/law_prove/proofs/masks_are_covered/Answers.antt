use Rattle.law_prove.proofs.Masks.{mask_laws}
use Rattle.law_prove.proofs.masks_are_covered.Goals as goal

pub returns : goal.returns
returns c = mask_laws
