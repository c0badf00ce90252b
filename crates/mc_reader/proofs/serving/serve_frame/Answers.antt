use Rattle.std.proofs.Common.{subst}
use Rattle.mc_machine.specs.declared.outcome.Outcome.{Outcome}
use Rattle.mc_text.specs.Texts.{sunk_in, Puts}
use Rattle.mc_reader.specs.Meanings.{Meaning}
use Rattle.mc_reader.specs.Requests.{meaning_of}
use Rattle.mc_reader.specs.Results.{reply_to_frame, answer_frame}
use Rattle.mc_reader.specs.Serving.{ServesFrame}
use Rattle.mc_reader.proofs.ServingLemmas.{frame_served}
use Rattle.mc_reader.proofs.serving.serve_frame.Goals as goal

pub returns-clause-serves : goal.returns-clause-serves
returns-clause-serves g c =
    let state = g.N.Nvm.state in
    let bench = g.N.Bench.bench in
    let out = sunk_in g.T.Sink.taken g.T.Sink.faults in
    let q = c.play_request-answer.new.player in
    let puts = subst (λ (o : Outcome). Puts (out c.args.out.now) (answer_frame (reply_to_frame (meaning_of c.of-request.result) o c.play_request-answer.result)) c.put_answer.result (out c.put_answer.new.out)) c.outcome.ensures c.put_answer.ensures in
    λ s n at.
    subst (λ (m : Meaning). ServesFrame state bench c.args.player.now s n m (out c.args.out.now) c.put_answer.result q (out c.put_answer.new.out)) c.of-request.ensures.meaning
    (frame_served state bench c.args.player.now q s n (meaning_of c.of-request.result) c.play_request-answer.result (out c.args.out.now) (out c.put_answer.new.out) c.put_answer.result at c.play_request-answer.ensures.plays puts)
