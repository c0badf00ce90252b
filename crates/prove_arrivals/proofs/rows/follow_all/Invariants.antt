use Rattle.std.proofs.Common.{ℕ, List, flat_map, drop}
use Rattle.mc_arith.specs.model_machine.specs.declared.instruction.Ins.{Ins}
use Rattle.prove_facts.specs.model_prove.specs.Arrivals.{Setting}
use Rattle.prove_arrivals.specs.Following.{IsText, followed}
use Rattle.prove_arrivals.specs.Subjects.{Accepts, IsOver}
use Rattle.prove_arrivals.proofs.rows.follow_all.Given as goal

-- with the places that are left all are included
abbrev pub invariant-loop-after : goal.invariant-loop-after
invariant-loop-after l =
    (names : List (List ℕ)) (s : Setting) (i : Ins) → IsOver names s l.subject l.amounts → IsText l.row i
    → Accepts names l.subject (flat_map (followed names s i l.subject l.row l.amounts) (drop l.after-index l.places))
    → Accepts names l.subject (flat_map (followed names s i l.subject l.row l.amounts) l.places)
