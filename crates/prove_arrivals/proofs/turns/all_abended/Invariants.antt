use Rattle.std.proofs.Common.{ℕ, List, flat_map, drop}
use Rattle.prove_facts.specs.model_prove.specs.Arrivals as arrivals
use Rattle.prove_facts.specs.model_prove.specs.Arrivals.{Setting}
use Rattle.prove_keys.specs.Keys.{amounts_of}
use Rattle.prove_arrivals.specs.Subjects.{Accepts, IsOver, known_in, start_in}
use Rattle.prove_arrivals.proofs.turns.all_abended.Given as goal

-- with the abends that are left all are included
abbrev pub invariant-loop-cause : goal.invariant-loop-cause
invariant-loop-cause l =
    (names : List (List ℕ)) (s : Setting) → IsOver names s l.subject l.amounts
    → Accepts names l.subject (flat_map (arrivals.abended s (start_in l.subject l.begun) (amounts_of names l.amounts) (known_in l.spot)) (drop l.cause-index l.causes))
    → Accepts names l.subject (flat_map (arrivals.abended s (start_in l.subject l.begun) (amounts_of names l.amounts) (known_in l.spot)) l.causes)
