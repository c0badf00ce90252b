use Rattle.std.proofs.Common.{ℕ, List, ap, inr, subst, ◌∙◌}
use Rattle.mc_text.specs.Texts.{sunk}
use Rattle.mc_filter.specs.Statuses.{status_after_writing}
use Rattle.mc_filter.proofs.Statuses.{puts_by}
use Rattle.meldesk.specs.Jobs.{text_value}
use Rattle.meldesk.specs.Verdicts.{IsTextOf, Whole}
use Rattle.meldesk.proofs.running.write.Goals as goal

pub returns-clause-done : goal.returns-clause-done
returns-clause-done g c =
    let from = sunk g.T.Sink c.args.out.now in
    let to = sunk g.T.Sink c.put_all.new.sink in
    let said = c.put_all.ensures in
    let text = c.in_ok-made.made.text.items in
    let is = subst (λ (t : List ℕ). IsTextOf (text_value c.args.text) t (Whole c.in_ok-made.made.passes text)) c.as_slice.ensures.value c.in_ok-made.ensures in
    record {
      passes = c.in_ok-made.made.passes;
      text = text;
      due = inr (record { input = c.in_ok-draft.draft.items; read = c.in_ok-draft.ensures.read; is = is });
      written = record {
        result = c.put_all.result;
        status = c.ended.ensures ∙ ap (λ good. status_after_writing good c.put_all.result) c.status_if-status.ensures;
        written = puts_by from to c.as_slice-2.result.now text c.put_all.result c.as_slice-2.ensures.value said.bytes said.fault said.part said.quiet;
      };
    }
