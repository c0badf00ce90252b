use Rattle.std.proofs.Common.{◌≡◌, ◌∙◌, ℕ, List, ap, refl, sym, subst, Ok, Err}
use Rattle.std.specs.Prelude.{OnOk}
use Rattle.std.proofs.lemmas.Result.{IfOk-at_ok}
use Rattle.mc_streams.specs.declared.refusals.WriteFault.{WriteFault as Fault}
use Rattle.mc_deck.specs.model_play.specs.DeckGrammar.{DeckLine, deck_read}
use Rattle.mc_script.specs.declared.job.JobFault.{JobFault}
use Rattle.mc_lab.specs.declared.remark.Mark.TheVariants as mark
use Rattle.mc_lab.specs.Remarks.{Remark, remarks}
use Rattle.mc_lab.specs.Remarked.{remark_values}
use Rattle.mc_lab.specs.Sweeps.{sweep_text}
use Rattle.mc_lab.specs.SweepEnds.{ReportsSweep}
use Rattle.mc_filter.specs.declared.status.Status.TheVariants.{WriteFault}
use Rattle.mc_filter.specs.Outside.{outside, Outside}
use Rattle.mellab.specs.Statuses.{status_by}
use Rattle.mellab.proofs.ReportedLemmas.{says_swept}
use Rattle.mellab.proofs.running.sweep_input.Goals as goal

-- the marks of a text that is a deck
marks_found : (text : List ℕ) (ls : List (ℕ × DeckLine)) (ms : List Remark) → deck_read text ≡ Ok ls → OnOk (deck_read text) (ms ≡ remarks mark.Whole text) → ms ≡ remarks mark.Whole text
marks_found text ls ms deck h = IfOk-at_ok (λ (ls : List (ℕ × DeckLine)). ms ≡ remarks mark.Whole text) deck h

pub returns-in-Ok-clause-done : goal.returns-in-Ok-clause-done
returns-in-Ok-clause-done g c =
    let a : Outside = outside g.S.Source g.T.Sink c.args.input.now c.read_input.new.input c.args.out.now c.sweep.new.out in
    let ls = c.in_ok-deck.deck in
    let marks = remark_values c.as_slice-3.result.now in
    let is = ap deck_read (sym c.as_slice.ensures.value) ∙ c.in_ok-deck.ensures.deck in
    let found = marks_found c.as_slice-2.result.now ls (remark_values c.in_ok-marks.marks.items) (ap deck_read c.as_slice-2.ensures.value ∙ is) c.in_ok-marks.ensures in
    let marked = ap remark_values c.as_slice-3.ensures.value ∙ found ∙ ap (remarks mark.Whole) c.as_slice-2.ensures.value in
    let status = c.status_by.ensures ∙ ap status_by c.in-Ok.ensures.whole in
    says_swept a c.in_ok-text.text.items marks ls (Ok tt) c.status_by.result c.in_ok-text.ensures.read is marked status c.in-Ok.ensures.reported

pub returns-in-Err-WriteFault-clause-done : goal.returns-in-Err-WriteFault-clause-done
returns-in-Err-WriteFault-clause-done g c =
    let a : Outside = outside g.S.Source g.T.Sink c.args.input.now c.read_input.new.input c.args.out.now c.sweep.new.out in
    let ls = c.in_ok-deck.deck in
    let marks = remark_values c.as_slice-3.result.now in
    let is = ap deck_read (sym c.as_slice.ensures.value) ∙ c.in_ok-deck.ensures.deck in
    let found = marks_found c.as_slice-2.result.now ls (remark_values c.in_ok-marks.marks.items) (ap deck_read c.as_slice-2.ensures.value ∙ is) c.in_ok-marks.ensures in
    let marked = ap remark_values c.as_slice-3.ensures.value ∙ found ∙ ap (remarks mark.Whole) c.as_slice-2.ensures.value in
    let failed : Fault = record {} in
    let reported = subst (λ (e : JobFault). ReportsSweep a.out_old (sweep_text marks ls) (Err e) a.out) c.in-Err-WriteFault.field-0-is c.in-Err-WriteFault.ensures.reported in
    says_swept a c.in_ok-text.text.items marks ls (Err failed) WriteFault c.in_ok-text.ensures.read is marked refl reported
