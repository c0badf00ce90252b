use Rattle.std.proofs.Common.{◌≡◌, ℕ, ◌+◌, List, true, false, drop, length, sym, ap, subst, ◌≤◌, rules, Result, Ok}
use Rattle.std.specs.Prelude.{is_err}
use Rattle.model_play.specs.DeckGrammar.{DeckLine}
use Rattle.model_play.specs.Play.{Step, start, step}
use Rattle.mc_deck.specs.Lines.{line_of}
use Rattle.mc_streams.specs.declared.refusals.WriteFault.{WriteFault}
use Rattle.mc_text.specs.Texts.{Puts}
use Rattle.mc_script.specs.Players.{device_of}
use Rattle.mc_script.specs.Writers.{write_result}
use Rattle.mc_script.specs.Plays.{Bench}
use Rattle.mc_script.specs.StepCounts.{CountsFrom}
use Rattle.mc_script.proofs.DeckLemmas.{PlayReached, next_line, no_fault, no_line, reached_end, reached_failed, reached_start, reached_written}
use Rattle.mc_script.proofs.playing.play_lines.Goals as goal

pub loop-i-init : goal.loop-i-init
loop-i-init g c =
    let state = g.N.Nvm.state in
    let bench = g.N.Bench.bench in
    let first = start (state c.args.device).words in
    let text = g.R.Reporter.text c.args.reporter.now in
    let deck = c.args.deck.now in
    let x = (g.R.Reporter.log c.args.reporter.now).out in
    record {
      reached =
          subst (λ d. PlayReached state bench text first deck (record { device = state d; bench = bench d }) x c.args.steps.now deck c.new-player.result x c.args.steps.now) c.new-player.ensures.device
          (reached_start state bench text first deck c.new-player.result x c.args.steps.now c.new-player.ensures.at);
      fault = c.requires.fault;
      keeps_device = subst (λ d. g.N.Nvm.same c.args.device d) (sym c.new-player.ensures.device) (g.met.N.Nvm.itself c.args.device);
      same = g.met.R.Reporter.itself c.args.reporter.now;
    }

pub line-answer-requires-clause-playing : goal.line-answer-requires-clause-playing
line-answer-requires-clause-playing g c = (c.loop-i.invariant.reached.here, c.loop-i.invariant.reached.at)

pub report-requires : goal.report-requires
report-requires g c =
    let line = c.line-answer.ensures.done c.loop-i.invariant.reached.here 0 c.loop-i.invariant.reached.at in
    record { playing = (_, line.1.stepped.at) }

-- the same reporter, after a line and its result
pub returns-then-is_err-clause-same : goal.returns-then-is_err-clause-same
returns-then-is_err-clause-same g c =
    let line = c.line-answer.ensures.done c.loop-i.invariant.reached.here 0 c.loop-i.invariant.reached.at in
    g.met.R.Reporter.after _ _ _ c.loop-i.invariant.same (g.met.R.Reporter.after _ _ _ (g.met.R.Reporter.records _ _ _ _ line.1.reports) c.report.ensures.same)

pub returns-then-is_err-clause-plays : goal.returns-then-is_err-clause-plays
returns-then-is_err-clause-plays g c =
    let state = g.N.Nvm.state in
    let bench = g.N.Bench.bench in
    let log = g.R.Reporter.log in
    let l = c.loop-i in
    let a : Bench = record { device = state c.args.device; bench = bench c.args.device } in
    let text = g.R.Reporter.text c.args.reporter.now in
    let first = start (state c.args.device).words in
    let deck = c.args.deck.now in
    let line = c.line-number.result in
    let here = next_line deck l.i line.0 (line_of line.1) c.line-number.ensures.line in
    let reached = subst (λ (left : List (ℕ × DeckLine)). PlayReached state bench text first deck a (log c.args.reporter.now).out c.args.steps.now left l.player (log l.reporter).out l.steps) here l.invariant.reached in
    let done = c.line-answer.ensures.done reached.here line.0 reached.at in
    let t = step reached.here (line.0, line_of line.1) done.0 in
    let r = write_result (log c.report.new.self).fault in
    let puts =
    subst (λ (f : Step → List ℕ). Puts (log l.reporter).out (f t) r (log c.report.new.self).out) (g.met.R.Reporter.texts _ _ l.invariant.same)
    (c.report.ensures.reports l.reporter l.player reached.here (line_of line.1) done.0 reached.at l.invariant.fault done.1)
    in
    let failed : is_err (write_result (g.R.Reporter.log c.report.new.self).fault) ≡ true = search rules in
    subst (λ d. CountsFrom text first deck a (log c.args.reporter.now).out r (record { device = state d; bench = bench d }) (log c.report.new.self).out c.args.steps.now c.line-answer.new.steps) (sym c.into_dev.ensures)
    (reached_failed state bench text first deck a (log c.args.reporter.now).out c.args.steps.now (drop (l.i + 1) deck) line.0 (line_of line.1) l.player c.line-answer.new.self (log l.reporter).out (log c.report.new.self).out c.line-answer.result l.steps c.line-answer.new.steps reached done.0 done.1.stepped c.line-answer.ensures.steps r failed puts)

pub loop-i-preserved : goal.loop-i-preserved
loop-i-preserved g c =
    let state = g.N.Nvm.state in
    let bench = g.N.Bench.bench in
    let log = g.R.Reporter.log in
    let l = c.loop-i in
    let a : Bench = record { device = state c.args.device; bench = bench c.args.device } in
    let text = g.R.Reporter.text c.args.reporter.now in
    let first = start (state c.args.device).words in
    let deck = c.args.deck.now in
    let line = c.line-number.result in
    let here = next_line deck l.i line.0 (line_of line.1) c.line-number.ensures.line in
    let reached = subst (λ (left : List (ℕ × DeckLine)). PlayReached state bench text first deck a (log c.args.reporter.now).out c.args.steps.now left l.player (log l.reporter).out l.steps) here l.invariant.reached in
    let done = c.line-answer.ensures.done reached.here line.0 reached.at in
    let t = step reached.here (line.0, line_of line.1) done.0 in
    let r = write_result (log c.report.new.self).fault in
    let puts =
    subst (λ (f : Step → List ℕ). Puts (log l.reporter).out (f t) r (log c.report.new.self).out) (g.met.R.Reporter.texts _ _ l.invariant.same)
    (c.report.ensures.reports l.reporter l.player reached.here (line_of line.1) done.0 reached.at l.invariant.fault done.1)
    in
    let written : is_err (write_result (g.R.Reporter.log c.report.new.self).fault) ≡ false = search rules in
    record {
      reached =
          reached_written state bench text first deck a (log c.args.reporter.now).out c.args.steps.now (drop (l.i + 1) deck) line.0 (line_of line.1) l.player c.line-answer.new.self (log l.reporter).out (log c.report.new.self).out c.line-answer.result l.steps c.line-answer.new.steps reached done.0 done.1.stepped c.line-answer.ensures.steps r written puts;
      fault = no_fault (log c.report.new.self).fault written;
      keeps_device = g.met.N.Nvm.onward _ _ _ l.invariant.keeps_device c.line-answer.ensures.keeps_device;
      same = g.met.R.Reporter.after _ _ _ l.invariant.same (g.met.R.Reporter.after _ _ _ (g.met.R.Reporter.records _ _ _ _ done.1.reports) c.report.ensures.same);
    }

pub returns-clause-plays : goal.returns-clause-plays
returns-clause-plays g c =
    let state = g.N.Nvm.state in
    let bench = g.N.Bench.bench in
    let log = g.R.Reporter.log in
    let l = c.loop-i in
    let a : Bench = record { device = state c.args.device; bench = bench c.args.device } in
    let text = g.R.Reporter.text c.args.reporter.now in
    let first = start (state c.args.device).words in
    let deck = c.args.deck.now in
    let all : length deck ≤ l.i = search rules in
    let reached = subst (λ (left : List (ℕ × DeckLine)). PlayReached state bench text first deck a (log c.args.reporter.now).out c.args.steps.now left l.player (log l.reporter).out l.steps) (no_line deck l.i all) l.invariant.reached in
    let whole = reached_end state bench text first deck a (log c.args.reporter.now).out (log l.reporter).out l.player c.args.steps.now l.steps reached in
    let good : Ok tt ≡ write_result (log l.reporter).fault = sym (ap write_result l.invariant.fault) in
    subst (λ d. CountsFrom text first deck a (log c.args.reporter.now).out (write_result (log l.reporter).fault) (record { device = state d; bench = bench d }) (log l.reporter).out c.args.steps.now l.steps) (sym c.into_dev-2.ensures)
    (subst (λ (r : Result (Unit {0}) WriteFault). CountsFrom text first deck a (log c.args.reporter.now).out r (record { device = state (device_of l.player); bench = bench (device_of l.player) }) (log l.reporter).out c.args.steps.now l.steps) good whole)
