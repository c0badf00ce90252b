use Rattle.std.proofs.Common.{arith}
use Rattle.mc_text.specs.model_text.specs.Text.{hex_bytes}
use Rattle.desk_draft.proofs.StatementLemmas.{counted_none, counted_zero, counted_high, counted_good}
use Rattle.desk_draft.proofs.statement.counted.Goals as goal

pub returns-in_default : goal.returns-in_default
returns-in_default c = counted_none c.args.hex.now (hex_bytes c.args.hex.now) c.in_default.ensures

pub returns-then-count-eq0 : goal.returns-then-count-eq0
returns-then-count-eq0 c = counted_zero c.args.hex.now (hex_bytes c.args.hex.now) c.in-Some.count c.in-Some.ensures (grind (arith, c.if-count-eq0.true))

pub returns-then-count-gt255 : goal.returns-then-count-gt255
returns-then-count-gt255 c = counted_high c.args.hex.now (hex_bytes c.args.hex.now) c.in-Some.count c.in-Some.ensures (grind (arith, c.if-count-gt255.true))

pub returns : goal.returns
returns c = counted_good c.args.hex.now (hex_bytes c.args.hex.now) c.in-Some.count c.in-Some.ensures (grind (arith, c.if-count-eq0.false)) (grind (arith, c.if-count-gt255.false))
