use Rattle.std.proofs.Common.{◌≡◌, Result, sym, ap, subst, ◌∙◌}
use Rattle.model_play.specs.Play.{start, plays, last_state}
use Rattle.model_play.specs.Generator.{results, summary}
use Rattle.mc_streams.specs.declared.refusals.WriteFault.{WriteFault}
use Rattle.mc_text.specs.Texts.{Puts, sunk_in}
use Rattle.mc_text.proofs.TextLemmas.{puts_as}
use Rattle.mc_script.specs.Players.{device_of}
use Rattle.mc_script.specs.Writers.{write_result}
use Rattle.mc_script.specs.Plays.{Bench, Played}
use Rattle.mc_script.proofs.LoggedLemmas.{ended_err}
use Rattle.mc_script.proofs.SumLemmas.{summary_is}
use Rattle.mc_script.proofs.summing.sum_lines.Goals as goal

pub returns-clause-sums : goal.returns-clause-sums
returns-clause-sums g c =
    let state = g.N.Nvm.state in
    let bench = g.N.Bench.bench in
    let a : Bench = record { device = state c.args.device; bench = bench c.args.device } in
    let deck = c.args.deck.now in
    let first = start (state c.args.device).words in
    let t = c.tally-counts.ensures.tallied first c.new-player.ensures.at in
    let steps = plays first deck t.worn in
    let before = sunk_in g.T.Sink.taken g.T.Sink.faults c.args.writer.now.out.now in
    let after = sunk_in g.T.Sink.taken g.T.Sink.faults c.put_summary.new.out in
    let is : c.put_summary.result ≡ write_result c.err-writer.result = sym (ap write_result c.err-writer.ensures.value ∙ ended_err c.put_summary.result) in
    let text = puts_as before after c.put_summary.result (summary_is first deck t.worn c.requires.dumps) (c.put_summary.ensures (last_state first steps) (results steps) t.at t.counted) in
    record {
      worn = t.worn;
      played =
          subst (λ d. Played first deck t.worn a (record { device = state d; bench = bench d })) (sym c.into_dev.ensures)
          (subst (λ d. Played first deck t.worn (record { device = state d; bench = bench d }) (record { device = state (device_of c.tally-counts.new.player); bench = bench (device_of c.tally-counts.new.player) })) c.new-player.ensures.device t.played);
      steps = t.steps;
      text = subst (λ (r : Result (Unit {0}) WriteFault). Puts before (summary steps) r after) is text;
    }

pub tally-counts-requires : goal.tally-counts-requires
tally-counts-requires g c = (_, c.new-player.ensures.at)

pub put_summary-requires : goal.put_summary-requires
put_summary-requires g c = let t = c.tally-counts.ensures.tallied _ c.new-player.ensures.at in (_, t.at)
