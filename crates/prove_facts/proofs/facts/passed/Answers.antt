use Rattle.std.proofs.Common.{arith}
use Rattle.prove_facts.specs.Facts.{facts_of}
use Rattle.prove_facts.proofs.FactLemmas.{sparse_lower, sparse_from_here, below_more}
use Rattle.prove_facts.proofs.facts.passed.Goals as goal

pub returns-then-fact-at-clause-above : goal.returns-then-fact-at-clause-above
returns-then-fact-at-clause-above c k s =
    sparse_from_here _ c.args.at c.args.list.now _ (sparse_lower 0 k (facts_of c.args.list.now) (omega arith) s) (omega arith) c.if-fact-at.true

pub loop-index-preserved : goal.loop-index-preserved
loop-index-preserved c = below_more _ c.args.at c.args.list.now _ c.loop-index.invariant (omega arith) c.if-fact-at.false
