use Rattle.std.proofs.Common.{◌∙◌, List, ap, sym, subst}
use Rattle.prove_forms.specs.model_sums.specs.Operations as operations
use Rattle.prove_forms.specs.model_sums.specs.Origins as model
use Rattle.prove_forms.specs.declared.origins.Origin.{Origin}
use Rattle.prove_forms.specs.Forms.{OptionalIs}
use Rattle.prove_forms.specs.Origins.{origin_values}
use Rattle.prove_scenes.specs.Works.{operand_value, operation_value}
use Rattle.prove_sums.proofs.works.operation_written.Goals as goal

pub returns : goal.returns
returns c names ts u are s =
    let d = c.args.digitwise.now in
    let f = operations.form_of_operand u.origins d.n (operand_value d.operand) in
    c.in_ok-after.ensures names ts (model.unknowns d.n) (operations.moved_by (operation_value d.op) d.n f) u are
    (ap (λ (x : List Origin). origin_values x) c.as_slice.ensures.value ∙ c.in_ok-bytes.ensures.values)
    (c.in_ok-by.ensures f
    (subst (λ (o : model.Origins). OptionalIs c.in_ok-operand.operand (operations.form_of_operand o d.n (operand_value d.operand))) (sym s.origins) c.in_ok-operand.ensures)) s
