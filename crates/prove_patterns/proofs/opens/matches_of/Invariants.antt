use Rattle.std.proofs.Common.{◌≡◌, ◌++◌, drop}
use Rattle.prove_facts.specs.model_prove.specs.Texts.{matches_of}
use Rattle.prove_patterns.specs.Opens.{opens_of}
use Rattle.prove_patterns.proofs.opens.matches_of.Given as goal

-- those so far, and those of the rest, are all
abbrev pub invariant-loop-open : goal.invariant-loop-open
invariant-loop-open l = l.matches.items ++ matches_of (opens_of (drop l.open-index l.opens)) ≡ matches_of (opens_of l.opens)
