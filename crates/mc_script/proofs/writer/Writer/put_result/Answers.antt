use Rattle.std.proofs.Common.{◌≡◌, ◌++◌, None, Result, sym, ap, subst, ◌∙◌, rules}
use Rattle.std.specs.Prelude.{option_map}
use Rattle.model_play.specs.Transcript.{line_text}
use Rattle.mc_streams.specs.declared.refusals.WriteFault.{WriteFault}
use Rattle.mc_text.specs.Texts.{sunk_in, Puts}
use Rattle.mc_script.specs.Players.{answer_value}
use Rattle.mc_script.specs.Writers.{write_result, reported_turns, turns_text}
use Rattle.mc_script.proofs.LoggedLemmas.{line_behind, ended_err}
use Rattle.mc_script.proofs.writer.Writer.put_result.Goals as goal

pub returns-then-is_none-clause-reports : goal.returns-then-is_none-clause-reports
returns-then-is_none-clause-reports g c before ts none reported =
    let at = sunk_in g.T.Sink.taken g.T.Sink.faults before.out.now in
    let now = sunk_in g.T.Sink.taken g.T.Sink.faults c.put_answer.new.out in
    let line = line_text c.args.number (option_map (answer_value g.N.Nvm.state c.args.player.now) c.args.answer.now) in
    let free : c.args.self.now.fault ≡ None = search rules in
    let is = sym (ap write_result c.err-self.ensures.value ∙ ended_err c.put_answer.result) in
    subst (λ (r : Result (Unit {0}) WriteFault). Puts at (turns_text before.reporting ts ++ line) r now) is
    (line_behind before.fault c.args.self.now.fault at (sunk_in g.T.Sink.taken g.T.Sink.faults c.args.self.now.out.now) now (reported_turns before.reporting ts) line c.put_answer.result none free reported.lines c.put_answer.ensures)
