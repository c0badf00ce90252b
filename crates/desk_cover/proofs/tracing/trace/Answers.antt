use Rattle.std.proofs.Common.{◌≡◌, rules}
use Rattle.mc_text.specs.Texts.{sunk}
use Rattle.desk_draft.specs.Traces.{trace_text}
use Rattle.mc_script.specs.StepCounts.{CountsFrom}
use Rattle.mc_script.specs.Writers.{write_result}
use Rattle.mc_script.proofs.LawLemmas.{play_deck, deck_of}
use Rattle.desk_cover.proofs.tracing.trace.Goals as goal

pub returns : goal.returns
returns g c =
    let e = c.play_lines-dev.ensures in
    let same = e.same.same in
    let last = c.play_lines-dev.new.reporter in
    let ended : c.ended.result ≡ write_result last.fault = c.ended.ensures in
    let from : CountsFrom (trace_text c.new-tracer.result.sections.now) _ _ _ (sunk g.T.Sink c.new-tracer.result.out.now) (write_result last.fault) _ (sunk g.T.Sink last.out.now) _ _ = e.plays in
    let plays = rw (c.new-tracer.ensures.sections, c.new-tracer.ensures.out) at from in
    record {
      plays = deck_of _ _ _ _ _ _ _ _ _ (play_deck _ _ _ _ _ _ _ _ _ _ _ _ plays e.image e.lines (search (rules, same, ended)) (search (rules, same, ended)) (search (rules, same, ended)) (search (rules, same, ended)) (search (rules, same, ended)));
    }
