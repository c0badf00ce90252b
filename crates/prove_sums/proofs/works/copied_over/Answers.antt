use Rattle.std.proofs.Common.{◌∙◌, List, ap, sym, subst}
use Rattle.prove_forms.specs.model_sums.specs.Origins as model
use Rattle.prove_forms.specs.model_sums.specs.Writes as writes
use Rattle.prove_forms.specs.declared.origins.Origin.{Origin}
use Rattle.prove_forms.specs.Origins.{origin_values}
use Rattle.prove_sums.specs.declared.values.More.{More}
use Rattle.prove_sums.specs.Values.{MoresAre}
use Rattle.prove_sums.proofs.works.copied_over.Goals as goal

pub returns : goal.returns
returns c names ts u are s =
    c.in_ok-after.ensures names ts (model.origins_from u.origins c.args.from c.args.n) (writes.more_of u.mores c.args.from c.args.to c.args.n) (writes.popped c.args.dt u) are
    (ap (λ (x : List Origin). origin_values x) c.as_slice-2.ensures.value ∙ c.in_ok-bytes.ensures.values
    ∙ ap (λ (o : model.Origins). model.origins_from o c.args.from c.args.n) (sym s.origins))
    (c.in_ok-by.ensures u.mores (subst (λ (x : List More). MoresAre x u.mores) (sym c.as_slice.ensures.value) s.mores)) (c.in_ok-low.ensures u s)
