use Rattle.std.proofs.Common.{◌≡◌, ◌++◌, drop}
use Rattle.prove_forms.specs.Forms.{terms_value, multiples}
use Rattle.prove_forms.proofs.forms.multiplied.Given as goal

-- the terms so far and the multiples of what is left are all
abbrev pub invariant-loop-term : goal.invariant-loop-term
invariant-loop-term l = terms_value l.many.items ++ multiples l.factor (terms_value (drop l.term-index l.terms)) ≡ multiples l.factor (terms_value l.terms)
