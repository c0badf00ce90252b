use Rattle.lab_history.proofs.SumLemmas.{block_is}
use Rattle.lab_history.proofs.laws.blocks_are_sums.Goals as goal

pub returns : goal.returns
returns c = λ sums l public ts place takes constant old new distinct named within adds moved before. block_is l public sums place takes distinct named adds ts constant old new within moved before
