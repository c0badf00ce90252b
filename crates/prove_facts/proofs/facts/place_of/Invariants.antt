use Rattle.std.proofs.Common.{◌≤◌, ◌-◌, length, take, drop}
use Rattle.prove_facts.specs.Facts.{facts_of, AreSparse, AreBelow}
use Rattle.prove_facts.proofs.facts.place_of.Given as goal

-- what is before the first place is below the address, what is from the second on is not
abbrev pub invariant-loop-low : goal.invariant-loop-low
invariant-loop-low l =
    record {
      order : l.low ≤ l.high;
      bound : l.high ≤ length l.list;
      below : AreSparse 0 (facts_of l.list) → AreBelow l.at (take l.low (facts_of l.list));
      above : AreSparse 0 (facts_of l.list) → AreSparse l.at (drop l.high (facts_of l.list));
    }

abbrev pub decreases-loop-low : goal.decreases-loop-low
decreases-loop-low l = l.high - l.low
