use Rattle.std.proofs.Common.{subst, sym}
use Rattle.mc_text.specs.Texts.{sunk_in}
use Rattle.mc_filter.specs.declared.rejection.Rejection.{Rejection}
use Rattle.mc_filter.specs.Statuses.{RejectionEnds}
use Rattle.mc_filter.proofs.Statuses.{puts_by}
use Rattle.mc_filter.proofs.writing.reject.Goals as goal

pub returns-in-Refusal : goal.returns-in-Refusal
returns-in-Refusal g c =
    let before = sunk_in g.T.Sink.taken g.T.Sink.faults c.args.out.now in
    let after = sunk_in g.T.Sink.taken g.T.Sink.faults c.put_all.new.sink in
    let said = c.put_all.ensures in
    let put = puts_by before after c.as_slice.result.now c.in-Refusal.line.items c.put_all.result c.as_slice.ensures.value said.bytes said.fault said.part said.quiet in
    subst (λ (e : Rejection). RejectionEnds e before c.ended.result after) (sym c.in-Refusal.is) (record { result = c.put_all.result; status = c.ended.ensures; written = put })
