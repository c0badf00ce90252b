use Rattle.std.proofs.Common.{arith}
use Rattle.prove_facts.specs.model_prove.specs.Reach.{greatest_value}
use Rattle.prove_facts.specs.Sets.{has_value, set_of}
use Rattle.prove_steps.proofs.TargetLemmas.{greatest_first, greatest_next, greatest_end}
use Rattle.prove_steps.proofs.branching.greatest_of.Goals as goal

pub loop-value-init : goal.loop-value-init
loop-value-init c = (omega arith, greatest_first c.args.values.now)

pub loop-value-preserved : goal.loop-value-preserved
loop-value-preserved c =
    greatest_next (has_value c.args.values.now) c.loop-value.value 256 c.loop-value.greatest _ (greatest_value (set_of c.args.values.now)) (omega arith)
    c.loop-value.invariant.0 c.greater_of-greatest.ensures c.loop-value.invariant.1

pub returns : goal.returns
returns c =
    greatest_end (has_value c.args.values.now) c.loop-value.value 256 c.loop-value.greatest (greatest_value (set_of c.args.values.now)) (omega arith) c.loop-value.invariant.1
