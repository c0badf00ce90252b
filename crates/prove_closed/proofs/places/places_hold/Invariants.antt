use Rattle.std.proofs.Common.{◌≡◌, ℕ, true, List, length, drop}
use Rattle.std.specs.List.{AllByRecursion}
use Rattle.prove_facts.specs.model_prove.specs.Arrivals.{Setting}
use Rattle.prove_facts.specs.model_prove.specs.Tables.{places_closed}
use Rattle.prove_keys.specs.Tables.{places_of, IsWholePlace}
use Rattle.prove_arrivals.specs.Subjects.{IsSubject, classes_in, tables_in}
use Rattle.prove_closed.proofs.places.places_hold.Given as goal

-- if the places that are left are closed, all are
abbrev pub invariant-loop-number : goal.invariant-loop-number
invariant-loop-number l =
    (names : List (List ℕ)) (s : Setting) → IsSubject names s l.subject
    → AllByRecursion (IsWholePlace (length names) (length (classes_in l.subject))) l.keys
    → places_closed s (tables_in names l.subject) (places_of names (classes_in l.subject) l.subject.sizes.fixed (drop l.number l.keys) (drop l.number l.known)) ≡ true
    → places_closed s (tables_in names l.subject) (places_of names (classes_in l.subject) l.subject.sizes.fixed l.keys l.known) ≡ true
