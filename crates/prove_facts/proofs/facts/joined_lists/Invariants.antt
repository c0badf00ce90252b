use Rattle.std.proofs.Common.{◌≡◌, ◌++◌, drop}
use Rattle.model_prove.specs.Facts.{join}
use Rattle.prove_facts.specs.Facts.{facts_of, AreSparse, Agree}
use Rattle.prove_facts.proofs.facts.joined_lists.Given as goal

-- the facts so far, and the join of what is left, are the join of all
abbrev pub invariant-loop-fact : goal.invariant-loop-fact
invariant-loop-fact l =
    AreSparse 0 (facts_of l.list) → AreSparse 0 (facts_of l.other)
    → AreSparse 0 (facts_of l.rest) × Agree (drop l.fact-index (facts_of l.list)) (facts_of l.rest) (facts_of l.other)
    × (facts_of l.both.items ++ join (drop l.fact-index (facts_of l.list)) (facts_of l.other) ≡ join (facts_of l.list) (facts_of l.other))
