use Rattle.std.proofs.Common.{ℕ, List, flat_map, drop}
use Rattle.prove_facts.specs.model_prove.specs.Arrivals.{Setting}
use Rattle.prove_arrivals.specs.Replying.{reply_arrivals}
use Rattle.prove_arrivals.specs.Subjects.{Accepts, IsOver}
use Rattle.prove_arrivals.proofs.replies.all_answered.Given as goal

-- with the answers that are left all are included
abbrev pub invariant-loop-results : goal.invariant-loop-results
invariant-loop-results l =
    (names : List (List ℕ)) (s : Setting) → IsOver names s l.subject l.amounts
    → Accepts names l.subject (flat_map (λ m. reply_arrivals names s l.subject l.number l.amounts l.spot m.items) (drop l.results-index l.list))
    → Accepts names l.subject (flat_map (λ m. reply_arrivals names s l.subject l.number l.amounts l.spot m.items) l.list)
