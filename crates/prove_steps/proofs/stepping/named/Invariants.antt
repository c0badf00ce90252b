use Rattle.std.proofs.Common.{◌≡◌, ◌++◌, ◌-◌, map}
use Rattle.prove_facts.specs.model_prove.specs.Sets.{numbers_from}
use Rattle.prove_scenes.specs.Heads.{around_value}
use Rattle.prove_steps.specs.Steps.{named_value}
use Rattle.prove_steps.proofs.stepping.named.Given as goal

-- with the lengths that are left, these are all
abbrev pub invariant-loop-len : goal.invariant-loop-len
invariant-loop-len l = map around_value l.list.items ++ map named_value (numbers_from l.len (17 - l.len)) ≡ map named_value (numbers_from 5 12)
