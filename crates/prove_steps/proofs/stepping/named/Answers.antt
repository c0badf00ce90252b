use Rattle.std.proofs.Common.{arith, map}
use Rattle.prove_facts.specs.model_prove.specs.Sets.{numbers_from}
use Rattle.prove_scenes.specs.Heads.{around_value}
use Rattle.prove_steps.specs.Steps.{named_value}
use Rattle.prove_steps.proofs.TargetLemmas.{mapped_next, mapped_end}
use Rattle.prove_steps.proofs.stepping.named.Goals as goal

pub loop-len-preserved : goal.loop-len-preserved
loop-len-preserved c =
    mapped_next named_value c.loop-len.len 17 (map around_value c.loop-len.list.items) _ (map named_value (numbers_from 5 12)) (omega arith)
    c.in_ok-add_named.ensures c.loop-len.invariant

pub returns : goal.returns
returns c =
    mapped_end named_value c.loop-len.len 17 (map around_value c.loop-len.list.items) (map named_value (numbers_from 5 12)) (omega arith) c.loop-len.invariant
