use Rattle.std.proofs.Common.{◌∙◌, ◌+◌, ℕ, List, None, length, ap, sym, subst}
use Rattle.std.proofs.lemmas.List.{length-map}
use Rattle.prove_forms.specs.model_sums.specs.Origins as model
use Rattle.prove_forms.specs.model_sums.specs.Writes as writes
use Rattle.prove_forms.specs.Origins.{origin_value}
use Rattle.prove_sums.specs.Values.{SumsAre}
use Rattle.prove_sums.proofs.acts.returned.Goals as goal

pub returns : goal.returns
returns c names ts gs u are e s =
    subst (λ (n : ℕ). SumsAre c.in_ok-popped.field-0 (writes.popped (c.args.to + n) (writes.wrote ts c.args.to gs None u)))
    (sym (length-map c.args.bytes.now origin_value) ∙ ap (λ (x : List model.Origin). length x) e)
    (c.in_ok-popped.ensures (writes.wrote ts c.args.to gs None u) (c.in_ok-after.ensures names ts gs None u are e tt s))
