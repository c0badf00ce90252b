use Rattle.std.proofs.Common.{◌≡◌, ◌≤◌, length, map, drop}
use Rattle.prove_facts.specs.model_prove.specs.Between.{with_classes}
use Rattle.prove_facts.specs.Sets.{set_of}
use Rattle.prove_patterns.specs.Opens.{many_of}
use Rattle.prove_patterns.specs.Classes.{class_values}
use Rattle.prove_patterns.proofs.command_classes.add_classes.Given as goal

-- the classes from a place on are there
abbrev pub invariant-loop-i : goal.invariant-loop-i
invariant-loop-i l =
    record {
      within : l.i ≤ length l.many;
      classes : class_values l.classes.items ≡ with_classes (map set_of l.sets) (many_of (drop l.i l.many)) (class_values l.initial.classes.items);
    }

abbrev pub decreases-loop-i : goal.decreases-loop-i
decreases-loop-i l = l.i
