use Rattle.std.proofs.Common.{◌≡◌, ◌≤◌, length, drop}
use Rattle.prove_forms.specs.Forms.{terms_value, wrapped_terms}
use Rattle.prove_forms.proofs.forms.add_terms.Given as goal

-- the terms from a place on are added
abbrev pub invariant-loop-left : goal.invariant-loop-left
invariant-loop-left l =
    record { within : l.left ≤ length l.more; added : terms_value l.terms.items ≡ wrapped_terms (terms_value (drop l.left l.more)) (terms_value l.fn.terms.items) }

abbrev pub decreases-loop-left : goal.decreases-loop-left
decreases-loop-left l = l.left
