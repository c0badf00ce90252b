use Rattle.std.proofs.Common.{◌≡◌, drop}
use Rattle.model_prove.specs.Facts.{follow}
use Rattle.prove_facts.specs.Facts.{facts_of, AreSparse, Agree}
use Rattle.prove_facts.proofs.facts.are_covered.Given as goal

-- what is left of the facts decides, and what is left of the list has what they look up
abbrev pub invariant-loop-fact : goal.invariant-loop-fact
invariant-loop-fact l =
    AreSparse 0 (facts_of l.facts) → AreSparse 0 (facts_of l.list)
    → AreSparse 0 (facts_of l.rest) × Agree (drop l.fact-index (facts_of l.facts)) (facts_of l.rest) (facts_of l.list)
    × (follow (facts_of l.list) (facts_of l.facts) ≡ follow (facts_of l.list) (drop l.fact-index (facts_of l.facts)))
