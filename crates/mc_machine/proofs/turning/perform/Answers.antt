use Rattle.std.proofs.Common.{Result, sym, ap, subst}
use Rattle.law_machine.specs.model_machine.specs.Primitives.{Around}
use Rattle.law_machine.specs.model_machine.specs.Row.{RowEnd, row}
use Rattle.mc_segs.specs.HeldFrames.{frame_on_bank}
use Rattle.mc_segs.specs.Ends.{EndActs, RowActs, scene}
use Rattle.mc_segs.specs.declared.ends.Halt.{Halt}
use Rattle.mc_segs.specs.declared.ends.Next.{Next}
use Rattle.mc_rows.specs.Rows.{alone, row_result}
use Rattle.mc_machine.specs.Chains.{Chained}
use Rattle.mc_machine.specs.Turns.{delegator_of}
use Rattle.mc_rows.proofs.AloneLemmas.{row_alone}
use Rattle.mc_machine.proofs.RowFacts.{no_primitive}
use Rattle.mc_machine.proofs.turning.perform.Goals as goal

pub step-requires-clause-row : goal.step-requires-clause-row
step-requires-clause-row g c = no_primitive c.args.ins.now c.in_default.not-Prim

pub returns-in_default : goal.returns-in_default
returns-in_default g c =
    let named = g.B.Bank.named in
    let b = c.args.bank.now in
    let e = c.step.new.bank in
    let now = c.args.chain.now in
    let i = c.args.ins.now in
    let x : Around = record { case = now.case; delegator = delegator_of (named b) now.below } in
    let sc = scene b e now.running c.step.new.frame now.public c.step.new.public in
    let o = row_result c.step.result in
    let acts : RowActs g.B.Bank sc i alone o =
    subst (λ (k : Chained). RowActs g.B.Bank (scene b e k.running c.step.new.frame k.public c.step.new.public) i alone o) c.chain.view_is c.step.ensures in
    let around = subst (λ (r : RowEnd). EndActs g.B.Bank sc r o) (sym (row_alone i (frame_on_bank g.B.Bank b now.running) now.public x (no_primitive i c.in_default.not-Prim))) acts in
    record {
      acts = subst (λ (a : Result Next Halt). EndActs g.B.Bank sc (row i (frame_on_bank g.B.Bank b now.running) now.public x) a) (sym c.next_of.ensures) around;
      others = ap (λ (k : Chained). record k { running = c.step.new.frame; public = c.step.new.public }) c.chain.view_is;
    }
