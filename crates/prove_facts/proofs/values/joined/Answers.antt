use Rattle.std.proofs.Common.{arith}
use Rattle.prove_facts.proofs.MoveLemmas.{joined_bit, kept_bit}
use Rattle.prove_facts.proofs.values.joined.Goals as goal

pub returns-then-by-eq0 : goal.returns-then-by-eq0
returns-then-by-eq0 c h i n = kept_bit c.args.word c.args.lower c.args.by i (omega arith)

pub returns : goal.returns
returns c h i n = joined_bit c.args.word c.args.lower c.args.by i (omega arith) h n
