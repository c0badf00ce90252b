use Rattle.std.proofs.Common.{take}
use Rattle.prove_facts.specs.Facts.{facts_of, AreBelow}
use Rattle.prove_facts.proofs.facts.passed.Given as goal

-- the facts so far are below the address
abbrev pub invariant-loop-index : goal.invariant-loop-index
invariant-loop-index l = AreBelow l.at (take l.index (facts_of l.list))
