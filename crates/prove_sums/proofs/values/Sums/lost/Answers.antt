use Rattle.std.proofs.Common.{◌∙◌, List, None, ap}
use Rattle.prove_forms.specs.model_sums.specs.Origins as model
use Rattle.prove_forms.specs.declared.origins.Origin.{Origin}
use Rattle.prove_forms.specs.Origins.{origin_values}
use Rattle.prove_sums.proofs.values.Sums.lost.Goals as goal

pub returns : goal.returns
returns c names ts u are s =
    c.in_ok-after.ensures names ts (model.unknowns c.args.n) None u are
    (ap (λ (x : List Origin). origin_values x) c.as_slice.ensures.value ∙ c.in_ok-bytes.ensures.values) tt s
