use Rattle.std.proofs.Common.{◌≡◌, ◌≤◌, length, drop}
use Rattle.prove_facts.specs.model_prove.specs.Texts.{after_character}
use Rattle.prove_patterns.specs.Ways.{texts}
use Rattle.prove_patterns.proofs.ways.after_character.Given as goal

-- what the ways from a place on lead to is there
abbrev pub invariant-loop-i : goal.invariant-loop-i
invariant-loop-i l =
    record { within : l.i ≤ length l.ways; found : texts l.found.items ≡ after_character l.character (texts (drop l.i l.ways)) }

abbrev pub decreases-loop-i : goal.decreases-loop-i
decreases-loop-i l = l.i
