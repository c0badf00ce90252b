use Rattle.std.proofs.Common.{◌≡◌, ◌++◌, drop, map}
use Rattle.law_explore.specs.model_events.specs.Matching.{plain}
use Rattle.lab_rules.specs.Occasions.{row_of}
use Rattle.lab_rules.proofs.occasions.rows.Given as goal

-- the rows so far, and those of the moves that are left, are all
abbrev pub invariant-loop-chosen : goal.invariant-loop-chosen
invariant-loop-chosen l =
    map (λ r. r.items) l.rows.items ++ map (λ m. row_of l.ons (plain m.text.now)) (drop l.chosen-index l.moves) ≡ map (λ m. row_of l.fn.ons (plain m.text.now)) l.fn.moves
