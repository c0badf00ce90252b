use Rattle.std.proofs.Common.{ℕ, List, inr, subst}
use Rattle.mc_text.specs.Texts.{sunk}
use Rattle.mc_filter.proofs.Statuses.{puts_by}
use Rattle.melcard.specs.Verdicts.{IsTextOf, Whole}
use Rattle.melcard.proofs.running.write.Goals as goal

pub returns-clause-done : goal.returns-clause-done
returns-clause-done g c =
    let from = sunk g.T.Sink c.args.out.now in
    let to = sunk g.T.Sink c.put_all.new.sink in
    let said = c.put_all.ensures in
    let text = c.in_ok-text.text.items in
    let is = subst (λ (t : List ℕ). IsTextOf c.args.form t (Whole text)) c.as_slice.ensures.value c.in_ok-text.ensures.text in
    record {
      text = text;
      due = inr (record { input = c.in_ok-bytes.bytes.items; read = c.in_ok-bytes.ensures.read; is = is });
      written = record {
        result = c.put_all.result;
        status = c.ended.ensures;
        written = puts_by from to c.as_slice-2.result.now text c.put_all.result c.as_slice-2.ensures.value said.bytes said.fault said.part said.quiet;
      };
    }
