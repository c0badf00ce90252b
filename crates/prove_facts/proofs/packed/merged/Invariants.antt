use Rattle.std.proofs.Common.{◌≡◌, ◌++◌, drop}
use Rattle.prove_facts.specs.Facts.{facts_of, AreSparse}
use Rattle.prove_facts.specs.Packed.{ones_of, among, AreApart}
use Rattle.prove_facts.proofs.packed.merged.Given as goal

-- the facts so far, and what is left put among each other, are all facts
abbrev pub invariant-loop-one : goal.invariant-loop-one
invariant-loop-one l =
    AreSparse 0 (ones_of l.ones) → AreSparse 0 (facts_of l.sets) → AreApart (ones_of l.ones) (facts_of l.sets)
    → AreSparse 0 (facts_of l.rest) × AreApart (drop l.one-index (ones_of l.ones)) (facts_of l.rest)
    × (facts_of l.list.items ++ among (drop l.one-index (ones_of l.ones)) (facts_of l.rest) ≡ among (ones_of l.ones) (facts_of l.sets))
