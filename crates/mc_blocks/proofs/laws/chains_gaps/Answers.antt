use Rattle.std.proofs.Common.{sym, ap, ◌∙◌}
use Rattle.mc_words.specs.model_device.specs.Layout.{first_place}
use Rattle.mc_blocks.proofs.Search.{chain_of}
use Rattle.mc_blocks.proofs.Links.{gaps_chain}
use Rattle.mc_blocks.proofs.laws.chains_gaps.Goals as goal

pub returns-clause-root : goal.returns-clause-root
returns-clause-root c = λ m image closed h. (chain_of m image closed h).first ∙ sym (ap first_place (chain_of m image closed h).gaps)

pub returns-clause-holes : goal.returns-clause-holes
returns-clause-holes c = gaps_chain
