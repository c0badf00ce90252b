use Rattle.std.proofs.Common.{◌≡◌, drop}
use Rattle.model_sums.specs.Forms as forms
use Rattle.prove_forms.specs.Forms.{terms_value}
use Rattle.prove_forms.proofs.forms.are_zero.Given as goal

-- what is left of the terms decides
abbrev pub invariant-loop-term : goal.invariant-loop-term
invariant-loop-term l = forms.are_zero l.n (terms_value l.terms) ≡ forms.are_zero l.n (terms_value (drop l.term-index l.terms))
