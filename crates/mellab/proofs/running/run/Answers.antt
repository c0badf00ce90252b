use Rattle.std.proofs.Common.{subst}
use Rattle.mc_text.specs.Texts.{sunk_in, Sunk}
use Rattle.mc_filter.specs.Statuses.{RejectionEnds}
use Rattle.mc_filter.specs.Outside.{outside, Outside}
use Rattle.mellab.proofs.StatusLemmas.{says_rejected}
use Rattle.mellab.proofs.running.run.Goals as goal

pub returns-in-Err : goal.returns-in-Err
returns-in-Err g c =
    let taken = g.T.Sink.taken in
    let writes = g.T.Sink.faults in
    let a : Outside = outside g.S.Source g.T.Sink c.args.input.now c.attempt.new.input c.args.out.now c.reject.new.out in
    let end = subst (λ (y : Sunk). RejectionEnds c.in-Err.rejection y c.reject.result (sunk_in taken writes c.reject.new.out)) c.in-Err.ensures.out c.reject.ensures in
    says_rejected c.args.job a (sunk_in taken writes c.attempt.new.out) c.in-Err.rejection c.reject.result c.in-Err.ensures.rejected end
