use Rattle.std.proofs.Common.{◌∙◌, Bool, List, None, ap, sym, subst}
use Rattle.prove_forms.specs.model_sums.specs.Origins as model
use Rattle.prove_forms.specs.model_sums.specs.Writes as writes
use Rattle.prove_forms.specs.declared.origins.Origin.{Origin}
use Rattle.prove_forms.specs.Origins.{origin_values}
use Rattle.prove_sums.specs.Values.{SumsAre}
use Rattle.prove_sums.proofs.works.copied_to_top.Goals as goal

pub returns : goal.returns
returns c names ts u are s =
    let gs = model.origins_from u.origins c.args.from c.args.n in
    let v = writes.wrote ts c.args.dt gs None (writes.popped c.args.dt u) in
    subst (λ (b : Bool). SumsAre c.in_ok-last.last (writes.loaded b c.args.dt c.args.from c.args.n v)) (c.is_total_block-is.ensures names ts are)
    (c.in_ok-last.ensures v
    (c.in_ok-after.ensures names ts gs None (writes.popped c.args.dt u) are
    (ap (λ (x : List Origin). origin_values x) c.as_slice.ensures.value ∙ c.in_ok-bytes.ensures.values
    ∙ ap (λ (o : model.Origins). model.origins_from o c.args.from c.args.n) (sym s.origins)) tt (c.in_ok-low.ensures u s)))
