use Rattle.std.proofs.Common.{None, sym, subst}
use Rattle.law_machine.specs.model_machine.specs.Primitives.{Around}
use Rattle.law_machine.specs.model_machine.specs.Row.{RowEnd}
use Rattle.mc_segs.specs.HeldFrames.{frame_on_bank}
use Rattle.mc_segs.specs.Ends.{EndActs, scene}
use Rattle.mc_rows.specs.Rows.{row_result}
use Rattle.mc_rows.proofs.AloneLemmas.{row_alone}
use Rattle.mc_machine.proofs.RowFacts.{no_primitive}
use Rattle.mc_machine.proofs.lone.perform_lone.Goals as goal

pub step-requires-clause-row : goal.step-requires-clause-row
step-requires-clause-row g c = no_primitive c.args.ins.now c.in_default.not-Prim

pub returns-in_default-clause-acts : goal.returns-in_default-clause-acts
returns-in_default-clause-acts g c =
    let b = c.args.bank.now in
    let now = c.args.frame.now in
    let i = c.args.ins.now in
    let x : Around = record { case = c.args.case; delegator = None } in
    let sc = scene b c.step.new.bank now c.step.new.frame c.args.public.now c.step.new.public in
    let o = row_result c.step.result in
    record {
      done = o;
      acts = subst (λ (r : RowEnd). EndActs g.B.Bank sc r o) (sym (row_alone i (frame_on_bank g.B.Bank b now) c.args.public.now x (no_primitive i c.in_default.not-Prim))) c.step.ensures;
      value = c.after_row.ensures.value;
      called = c.after_row.ensures.called c.args.callee.now;
    }
