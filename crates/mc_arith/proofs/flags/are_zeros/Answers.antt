use Rattle.std.proofs.Common.{arith, sym, ◌∙◌}
use Rattle.law_rows.proofs.ResultLemmas.{not_zero}
use Rattle.mc_arith.proofs.flags.are_zeros.Goals as goal

pub returns-then-b-ne0 : goal.returns-then-b-ne0
returns-then-b-ne0 c = sym (c.loop-b.invariant ∙ not_zero c.args.block.now c.loop-b.b-index (omega arith) c.if-b-ne0.true)
