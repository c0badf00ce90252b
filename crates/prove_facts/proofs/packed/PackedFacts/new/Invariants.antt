use Rattle.std.proofs.Common.{take, drop}
use Rattle.prove_facts.specs.Facts.{facts_of}
use Rattle.prove_facts.specs.Packed.{ones_of}
use Rattle.prove_facts.specs.Packing.{Packs}
use Rattle.prove_facts.proofs.packed.PackedFacts.new.Given as goal

-- the facts so far are packed
abbrev pub invariant-loop-fact : goal.invariant-loop-fact
invariant-loop-fact l = Packs (take l.fact-index (facts_of l.list)) (drop l.fact-index (facts_of l.list)) (ones_of l.ones.items) (facts_of l.sets.items)
