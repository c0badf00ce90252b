-- An offset in its range is unchanged.
use Rattle.std.proofs.Common.{ℤ, sym, subst, w16}
use Rattle.std.proofs.lemmas.Int.{to_z-of_z}
use Rattle.model_machine.specs.declared.instruction.Ins.{Ins}
use Rattle.model_machine.specs.declared.instruction.Ins.TheVariants.{Loada, Index}
use Rattle.model_machine.specs.Code.{Shaped}
use Rattle.mc_rows.specs.FrameRows.{FrameActs}
use Rattle.mc_rows.proofs.stepping.step_frame.Goals as goal

pub returns-in-Loada : goal.returns-in-Loada
returns-in-Loada c =
    let shaped = subst (λ (i : Ins). Shaped i) c.in-Loada.is c.requires.shaped in
    let acts = subst (λ (off : ℤ). FrameActs (Loada c.in-Loada.tag off) c.args.frame.now c.load_address.new.frame c.load_address.result) (to_z-of_z w16 c.in-Loada.off shaped.offset) c.load_address.ensures in
    subst (λ (i : Ins). FrameActs i c.args.frame.now c.load_address.new.frame c.load_address.result) (sym c.in-Loada.is) acts

pub returns-in-Index : goal.returns-in-Index
returns-in-Index c =
    let shaped = subst (λ (i : Ins). Shaped i) c.in-Index.is c.requires.shaped in
    let acts = subst (λ (off : ℤ). FrameActs (Index c.in-Index.tag off c.in-Index.size) c.args.frame.now c.index.new.frame c.index.result) (to_z-of_z w16 c.in-Index.off shaped.0.offset) c.index.ensures in
    subst (λ (i : Ins). FrameActs i c.args.frame.now c.index.new.frame c.index.result) (sym c.in-Index.is) acts
