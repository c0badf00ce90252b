use Rattle.std.proofs.Common.{arith, sym, ◌∙◌}
use Rattle.mc_arith.specs.law_rows.proofs.ResultLemmas.{not_zero}
use Rattle.mc_rows.proofs.bytes.is_zero.Goals as goal

pub returns-then-byte-ne0 : goal.returns-then-byte-ne0
returns-then-byte-ne0 c = sym (c.loop-byte.invariant ∙ not_zero c.args.block.now c.loop-byte.byte-index (omega arith) c.if-byte-ne0.true)
