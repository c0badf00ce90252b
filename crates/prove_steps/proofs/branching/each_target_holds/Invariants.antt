use Rattle.std.proofs.Common.{◌-◌, flat_map, filter}
use Rattle.prove_facts.specs.model_prove.specs.Sets.{numbers_from}
use Rattle.prove_steps.specs.Steps.{Leaves, by_target, is_target}
use Rattle.prove_steps.proofs.branching.each_target_holds.Given as goal

-- with the addresses that are left, all is accepted
abbrev pub invariant-loop-target : goal.invariant-loop-target
invariant-loop-target l =
    Leaves l.subject l.fetched.amounts.now
    (λ names s. flat_map (by_target names s l.subject l.fetched l.at) (filter (is_target l.fetched.before.now.bytes l.at) (numbers_from l.target (l.limit - l.target))))
    (λ names s. flat_map (by_target names s l.subject l.fetched l.at) (filter (is_target l.fetched.before.now.bytes l.at) (numbers_from 0 l.limit)))
