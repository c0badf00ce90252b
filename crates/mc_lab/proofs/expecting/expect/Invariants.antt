use Rattle.std.proofs.Common.{◌≡◌, ◌+◌, ◌≤◌, Result, drop}
use Rattle.mc_lab.specs.Remarked.{remark_values}
use Rattle.mc_streams.specs.declared.refusals.WriteFault.{WriteFault}
use Rattle.mc_text.specs.Texts.{Sunk, Puts, sunk_in}
use Rattle.mc_lab.specs.Expectations.{count_failed, expect_text, steady_steps}
use Rattle.mc_lab.specs.Judged.{text_left}
use Rattle.mc_lab.specs.Stages.{Staged}
use Rattle.mc_lab.proofs.ExpectedDeckLemmas.{LinesAbove}
use Rattle.mc_lab.proofs.expecting.expect.Given as goal

-- the lines above some number were played; a writer of the rest of the report from here writes all of it from the start
abbrev pub invariant-loop-expectation : goal.invariant-loop-expectation
invariant-loop-expectation g l =
    let state = g.N.Nvm.state in
    let bench = g.N.Bench.bench in
    let taken = g.T.Sink.taken in
    let faults = g.T.Sink.faults in
    let es = remark_values l.expected_deck.expectations.items in
    let whole = steady_steps (state l.fn.device).words l.expected_deck.deck in
    record {
      above : LinesAbove l.expected_deck.deck l.count (drop l.expectation-index es);
      staged : Staged state bench whole l.expected_deck.deck l.player l.count l.text.items;
      left : l.failed + count_failed whole (drop l.expectation-index es) ≡ count_failed whole es;
      few : l.failed ≤ l.expectation-index;
      reported : (r : Result (Unit {0}) WriteFault) (b : Sunk) → Puts (sunk_in taken faults l.out) (text_left whole (drop l.expectation-index es) es) r b → Puts (sunk_in taken faults l.fn.out) (expect_text whole es) r b;
    }
