use Rattle.std.proofs.Common.{◌≡◌, ◌+◌, drop}
use Rattle.prove_patterns.specs.Classes.{class_values, class_place}
use Rattle.prove_patterns.proofs.command_classes.place_of.Given as goal

-- the place is among those that are left
abbrev pub invariant-loop-i : goal.invariant-loop-i
invariant-loop-i l = class_place l.matches (class_values l.classes) ≡ l.i + class_place l.matches (class_values (drop l.i l.classes))
