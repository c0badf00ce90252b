use Rattle.std.proofs.Common.{◌≡◌, ℕ, List, drop}
use Rattle.std.specs.Prelude.{flat_map}
use Rattle.prove_facts.specs.model_prove.specs.Facts as known
use Rattle.prove_facts.specs.model_prove.specs.Arrivals.{Setting}
use Rattle.prove_facts.specs.model_prove.specs.Between as between
use Rattle.prove_keys.specs.Keys.{amounts_of}
use Rattle.prove_patterns.specs.Classes.{class_values}
use Rattle.prove_arrivals.specs.Subjects.{Accepts, IsOver}
use Rattle.prove_closed.proofs.moments.all_commanded.Given as goal

-- if the tables include the commands of the classes that are left, they include all
abbrev pub invariant-loop-class : goal.invariant-loop-class
invariant-loop-class l =
    (names : List (List ℕ)) (s : Setting) (f : known.Facts) → IsOver names s l.subject l.amounts → l.own ≡ between.own_facts s f
    → Accepts names l.subject (flat_map (between.commanded s (amounts_of names l.amounts) f) (class_values (drop l.class-index l.classes)))
    → Accepts names l.subject (flat_map (between.commanded s (amounts_of names l.amounts) f) (class_values l.classes))
