use Rattle.std.proofs.Common.{◌≡◌, ℕ, ◌<◌, ◌||◌, drop}
use Rattle.prove_facts.specs.model_prove.specs.Sets.{is_in}
use Rattle.prove_facts.specs.model_prove.specs.Steps as steps
use Rattle.prove_facts.specs.Sets.{has_value}
use Rattle.prove_works.specs.Searches.{sets_of}
use Rattle.prove_works.proofs.searches.found_at.Given as goal

-- the indices so far, and those of what is left of the table, are all
abbrev pub invariant-loop-index : goal.invariant-loop-index
invariant-loop-index l =
    (w : ℕ) → w < 256 → (has_value l.found w || is_in w (steps.found_at l.value l.index (drop l.index (sets_of l.table))))
    ≡ is_in w (steps.found_at l.value 0 (sets_of l.table))
