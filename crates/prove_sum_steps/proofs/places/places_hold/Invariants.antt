use Rattle.std.proofs.Common.{◌≡◌, ℕ, true, List, drop}
use Rattle.prove_facts.specs.model_prove.specs.Arrivals.{Setting}
use Rattle.prove_sums.specs.model_sums.specs.Closed.{places_closed}
use Rattle.prove_arrivals.specs.Subjects.{classes_in}
use Rattle.prove_keys.specs.Tables.{places_of}
use Rattle.prove_sum_steps.specs.Places.{IsStand, table_in}
use Rattle.prove_sum_steps.proofs.places.places_hold.Given as goal

-- if the places that are left are closed, all are
abbrev pub invariant-loop-number : goal.invariant-loop-number
invariant-loop-number l =
    (names : List (List ℕ)) (s : Setting) → IsStand names s l.stand
    → places_closed s (table_in names l.stand) (places_of names (classes_in l.stand.subject.now) l.stand.subject.now.sizes.fixed (drop l.number l.keys) (drop l.number l.known)) ≡ true
    → places_closed s (table_in names l.stand) (places_of names (classes_in l.stand.subject.now) l.stand.subject.now.sizes.fixed l.keys l.known) ≡ true
