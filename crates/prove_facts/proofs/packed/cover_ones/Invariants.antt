use Rattle.std.proofs.Common.{◌≡◌, drop}
use Rattle.model_prove.specs.Facts.{follow}
use Rattle.prove_facts.specs.Facts.{facts_of, AreSparse, Agree}
use Rattle.prove_facts.specs.Packed.{ones_of}
use Rattle.prove_facts.proofs.packed.cover_ones.Given as goal

-- what is left of the facts decides, and what is left of the list has what they look up
abbrev pub invariant-loop-one : goal.invariant-loop-one
invariant-loop-one l =
    AreSparse 0 (ones_of l.ones) → AreSparse 0 (facts_of l.list)
    → AreSparse 0 (facts_of l.rest) × Agree (drop l.one-index (ones_of l.ones)) (facts_of l.rest) (facts_of l.list)
    × (follow (facts_of l.list) (ones_of l.ones) ≡ follow (facts_of l.list) (drop l.one-index (ones_of l.ones)))
