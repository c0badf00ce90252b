use Rattle.std.proofs.Common.{Bool, map, sym, ap, ◌∙◌}
use Rattle.prove_facts.specs.model_prove.specs.Steps as steps
use Rattle.prove_scenes.specs.ShapeValues.{shape_value}
use Rattle.prove_arrivals.specs.Subjects.{spot_in, tables_in}
use Rattle.prove_arrivals.proofs.OutcomeLemmas.{row_included}
use Rattle.prove_arrivals.proofs.rows.row.Goals as goal

pub returns : goal.returns
returns c t names s w q o e =
    let u = c.args.subject.now in
    let amounts = c.args.amounts.now in
    let h = shape_value c.args.shape.now in
    let protected = c.args.before.now.protected in
    row_included (tables_in names u) s c.args.ins.now h w (spot_in names u c.args.begun amounts c.args.before.now) q (map (spot_in names u c.args.begun amounts) c.args.places.now)
    c.may_wait_too_long-late.result c.makes_write.result (sym c.is_lost.ensures ∙ c.if-is_lost.false)
    (c.may_wait_too_long-late.ensures s o.subject.sized.fixed ∙ ap (λ (b : Bool). steps.may_wait_too_long s b h.act) c.protected-protected.ensures)
    (c.makes_write.ensures s o.subject.sized.fixed ∙ ap (λ (b : Bool). steps.makes_write s b h.act) c.protected-protected.ensures)
    e (c.in_ok-holds.ensures t names s c.args.ins.now o (c.as_slice.ensures.value ∙ c.text_of-text.ensures))
