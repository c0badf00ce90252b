use Rattle.mc_asm.specs.Forms.{addressed_byte}
use Rattle.mc_asm.proofs.ItemLemmas.{no_addressed_byte}
use Rattle.mc_asm.proofs.item.addressed_byte.Goals as goal

pub returns-in_default-2-clause-value : goal.returns-in_default-2-clause-value
returns-in_default-2-clause-value c = no_addressed_byte (addressed_byte c.args.name) c.args.operands.now c.in_default.len_at_least
