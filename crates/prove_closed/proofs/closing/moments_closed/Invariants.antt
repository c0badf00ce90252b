use Rattle.std.proofs.Common.{◌≡◌, ℕ, true, List, length, drop, map}
use Rattle.std.specs.List.{AllByRecursion}
use Rattle.prove_facts.specs.model_prove.specs.Arrivals.{Setting}
use Rattle.prove_facts.specs.model_prove.specs.Tables.{moments_closed}
use Rattle.lab_app_rules.specs.Rules.{range_of}
use Rattle.prove_keys.specs.Tables.{moments_of, IsWholeMoment}
use Rattle.prove_patterns.specs.Classes.{class_values}
use Rattle.prove_arrivals.specs.Subjects.{IsSubject, tables_in}
use Rattle.prove_closed.proofs.closing.moments_closed.Given as goal

-- if the moments that are left are closed, all are
abbrev pub invariant-loop-number : goal.invariant-loop-number
invariant-loop-number l =
    (names : List (List ℕ)) (s : Setting) → IsSubject names s l.subject → AllByRecursion (IsWholeMoment (length names)) l.keys
    → s.rules.ranges ≡ map range_of l.lines
    → moments_closed s (class_values l.classes) (tables_in names l.subject) (moments_of names (drop l.number l.keys) (drop l.number l.facts)) ≡ true
    → moments_closed s (class_values l.classes) (tables_in names l.subject) (moments_of names l.keys l.facts) ≡ true
