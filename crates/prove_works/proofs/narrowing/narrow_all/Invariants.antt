use Rattle.std.proofs.Common.{◌≡◌, ◌+◌, Some, drop}
use Rattle.prove_facts.specs.model_prove.specs.Facts as known
use Rattle.prove_works.specs.Searches.{sets_of}
use Rattle.prove_works.proofs.narrowing.narrow_all.Given as goal

-- narrowing by what is left makes of the facts what narrowing by all makes of those at the start
abbrev pub invariant-loop-index : goal.invariant-loop-index
invariant-loop-index l = known.narrow_all (l.at + l.index) (drop l.index (sets_of l.list)) (Some l.facts) ≡ known.narrow_all l.at (sets_of l.list) (Some l.fn.facts)
