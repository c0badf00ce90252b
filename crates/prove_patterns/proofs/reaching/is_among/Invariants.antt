use Rattle.std.proofs.Common.{◌≡◌, drop}
use Rattle.prove_facts.specs.model_prove.specs.Texts.{is_among}
use Rattle.prove_patterns.specs.Opens.{opens_of, many_of}
use Rattle.prove_patterns.proofs.reaching.is_among.Given as goal

-- what is left of them decides
abbrev pub invariant-loop-one : goal.invariant-loop-one
invariant-loop-one l = is_among (opens_of l.opens) (many_of l.many) ≡ is_among (opens_of l.opens) (many_of (drop l.one-index l.many))
