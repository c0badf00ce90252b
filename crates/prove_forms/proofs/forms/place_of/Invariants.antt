use Rattle.std.proofs.Common.{◌≡◌, ◌+◌, drop}
use Rattle.prove_forms.specs.Forms.{terms_value, place_in}
use Rattle.prove_forms.proofs.forms.place_of.Given as goal

-- the place is as many terms on as were passed
abbrev pub invariant-loop-index : goal.invariant-loop-index
invariant-loop-index l = place_in l.at (terms_value l.terms) ≡ l.index + place_in l.at (terms_value (drop l.index l.terms))
