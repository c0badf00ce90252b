use Rattle.std.proofs.Common.{◌≡◌, ◌+◌, ◌++◌, arith, ℕ, List, [], Bor, Bool, Option, false, sym, ap, subst, ◌∙◌}
use Rattle.std.specs.Prelude.{option_map}
use Rattle.std.proofs.lemmas.Result.{on_ok_weaker}
use Rattle.law_explore.specs.model_text.specs.Text.{fields}
use Rattle.law_explore.specs.model_play.specs.DeckGrammar.{deck_read}
use Rattle.mc_lab.specs.declared.remark.Remark.{Remark as Found}
use Rattle.mc_lab.specs.Remarks.{Remark, just}
use Rattle.mc_lab.specs.Remarked.{line_value, remark_values}
use Rattle.model_events.specs.model_text.specs.Text.{stays_inside}
use Rattle.mc_lab.specs.Scanning.{scanned}
use Rattle.mc_lab.proofs.SectionLemmas.{scanned_is}
use Rattle.mc_lab.proofs.RemarkLemmas.{with_left, line_read, lines_done, scanned_are}
use Rattle.mc_lab.proofs.scanning.remarks.Goals as goal

pub loop-line-init : goal.loop-line-init
loop-line-init c = record {
  all = ap (λ (v : List Found). with_left c.args.mark (remark_values v) false (0, []) 1 c.args.text.now) c.new-found.ensures.items ∙ scanned_are c.args.mark c.args.text.now;
  few = omega arith;
}

pub loop-line-preserved : goal.loop-line-preserved
loop-line-preserved c =
    let k = c.args.mark in
    let whole = scanned k c.args.text.now in
    let n = c.loop-line.number + 1 in
    let l = c.in-Some.line.now in
    let rest = c.in-Some.behind.now in
    let above = line_value c.loop-line.above in
    let inside = c.loop-line.inside in
    let so = remark_values c.loop-line.found.items in
    let next = ap (option_map (λ (l : Bor (List ℕ) × Bor (List ℕ)). (l.0.now, l.1.now))) (sym c.in-Some.is) ∙ c.next_line.ensures.line in
    let now = remark_values c.push_some.new.found.items in
    let more = c.in_ok-push_some.ensures ∙ ap (λ (o : Option Remark). so ++ just o) c.remark_at.ensures in
    let read = line_read k so now whole inside above n c.loop-line.rest.now l rest next more c.loop-line.invariant.all in
    record {
      all =
          subst (λ (b : Bool). with_left k now b (line_value c.above_after-above.result) (n + 1) rest ≡ whole) (sym c.stays_inside-inside.ensures)
          (subst (λ (a : ℕ × List ℕ). with_left k now (stays_inside inside (fields l)) a (n + 1) rest ≡ whole) (sym c.above_after-above.ensures) read);
      few = omega (arith, c.in-Some.ensures.shorter, c.loop-line.invariant.few);
    }

pub returns : goal.returns
returns c =
    let next = ap (option_map (λ (l : Bor (List ℕ) × Bor (List ℕ)). (l.0.now, l.1.now))) (sym c.in_default.is) ∙ c.next_line.ensures.line in
    let all = lines_done c.args.mark (remark_values c.loop-line.found.items) (scanned c.args.mark c.args.text.now) c.loop-line.inside (line_value c.loop-line.above) (c.loop-line.number + 1) c.loop-line.rest.now next c.loop-line.invariant.all in
    on_ok_weaker (deck_read c.args.text.now) (λ same. all ∙ same) (scanned_is c.args.mark c.args.text.now)
