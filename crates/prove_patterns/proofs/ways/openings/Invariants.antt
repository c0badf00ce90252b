use Rattle.std.proofs.Common.{◌≡◌, ◌≤◌, drop}
use Rattle.prove_facts.specs.model_prove.specs.Texts.{openings}
use Rattle.prove_patterns.specs.Ways.{texts}
use Rattle.prove_patterns.proofs.ways.openings.Given as goal

-- the openings from a place on are there
abbrev pub invariant-loop-i : goal.invariant-loop-i
invariant-loop-i l = record { within : l.i ≤ l.initial.i; ways : texts l.ways.items ≡ openings (drop l.i l.pattern) }

abbrev pub decreases-loop-i : goal.decreases-loop-i
decreases-loop-i l = l.i
