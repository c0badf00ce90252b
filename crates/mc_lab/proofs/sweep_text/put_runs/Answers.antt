use Rattle.std.proofs.Common.{◌≤◌, ◌+◌, length, drop, arith, sym, Ok}
use Rattle.mc_text.specs.Texts.{Sunk, sunk_in}
use Rattle.mc_text.proofs.TextLemmas.{puts_failed, puts_as, puts_then, fails_before, writes_none}
use Rattle.mc_lab.specs.Sweeps.{runs, runs_text}
use Rattle.mc_lab.proofs.SweepTexts.{rest_text, no_text}
use Rattle.mc_lab.proofs.sweep_text.put_runs.Goals as goal

pub returns-in_err-put_run : goal.returns-in_err-put_run
returns-in_err-put_run g c =
    let at = c.loop-at.at in
    let len = c.run_len-len.result in
    let words = c.args.words.now in
    let a : Sunk = sunk_in g.T.Sink.taken g.T.Sink.faults c.loop-at.out in
    let b : Sunk = sunk_in g.T.Sink.taken g.T.Sink.faults c.put_run.new.out in
    let e = rest_text at len words c.run_len-len.ensures.low (c.run_len-len.ensures.run (1 + at)) in
    let r = c.from_residual.result in
    c.loop-at.invariant.rest r b (puts_as a b r (sym e) (puts_failed r c.from_residual.ensures.0 (fails_before (runs_text (runs (1 + (at + len)) (drop (at + len) words))) c.in_err-put_run.ensures)))

pub loop-at-preserved : goal.loop-at-preserved
loop-at-preserved g c =
    let at = c.loop-at.at in
    let len = c.run_len-len.result in
    let words = c.args.words.now in
    let a : Sunk = sunk_in g.T.Sink.taken g.T.Sink.faults c.loop-at.out in
    let high = c.run_len-len.ensures.high in
    let e = rest_text at len words c.run_len-len.ensures.low (c.run_len-len.ensures.run (1 + at)) in
    record {
      within = omega arith;
      rest = λ r b p. c.loop-at.invariant.rest r b (puts_as a b r (sym e) (puts_then b (runs_text (runs (1 + (at + len)) (drop (at + len) words))) r c.in_ok-put_run.ensures p));
    }

pub returns : goal.returns
returns g c =
    let a : Sunk = sunk_in g.T.Sink.taken g.T.Sink.faults c.loop-at.out in
    let all : length c.args.words.now ≤ c.loop-at.at = omega arith in
    c.loop-at.invariant.rest (Ok tt) a (puts_as a a (Ok tt) (no_text c.loop-at.at (1 + c.loop-at.at) c.args.words.now all) (writes_none a))
