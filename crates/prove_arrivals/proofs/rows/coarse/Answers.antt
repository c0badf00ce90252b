use Rattle.std.proofs.Common.{◌&&◌, not, nat_lt, Bool, map, ap, ◌∙◌}
use Rattle.prove_facts.specs.model_prove.specs.Arrivals.{static_size}
use Rattle.prove_scenes.specs.ShapeValues.{shape_value}
use Rattle.prove_arrivals.specs.Subjects.{spot_in, tables_in}
use Rattle.prove_arrivals.proofs.OutcomeLemmas.{coarse_included}
use Rattle.prove_arrivals.proofs.rows.coarse.Goals as goal

pub returns : goal.returns
returns c t names s f d q o r e =
    let u = c.args.subject.now in
    let amounts = c.args.amounts.now in
    let h = shape_value c.args.shape.now in
    let static = c.args.fixed_too in
    coarse_included (tables_in names u) s c.args.ins.now f h d (spot_in names u c.args.begun amounts c.args.before.now) q (map (spot_in names u c.args.begun amounts) c.args.places.now)
    c.is_coarse_late-late.result c.is_coarse_write.result static r
    (c.is_coarse_late-late.ensures s o.subject.sized.fixed ∙ ap (λ (b : Bool). static && b && nat_lt 512 (static_size s)) c.protected-protected.ensures)
    (c.is_coarse_write.ensures ∙ ap (λ (b : Bool). static && not b) c.protected-protected.ensures)
    e (c.in_ok-holds.ensures t names s c.args.ins.now o (c.as_slice.ensures.value ∙ c.text_of-text.ensures))
