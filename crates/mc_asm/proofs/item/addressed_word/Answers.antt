use Rattle.mc_asm.specs.Forms.{addressed_word}
use Rattle.mc_asm.proofs.ItemLemmas.{no_addressed_word}
use Rattle.mc_asm.proofs.item.addressed_word.Goals as goal

pub returns-in_default-2-clause-value : goal.returns-in_default-2-clause-value
returns-in_default-2-clause-value c = no_addressed_word (addressed_word c.args.name) c.args.operands.now c.in_default.len_at_least
