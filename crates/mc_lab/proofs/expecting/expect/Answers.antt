use Rattle.std.proofs.Common.{◌≡◌, ◌+◌, ◌≤◌, ◌∷◌, [], ◌∙◌, ap, sym, arith, zero-add, rules, ℕ, List, Ok, drop, length, slice_index_or}
use Rattle.law_explore.specs.model_play.specs.Play.{start}
use Rattle.mc_text.specs.Texts.{sunk_in}
use Rattle.mc_text.proofs.TextLemmas.{puts_as}
use Rattle.law_explore.specs.model_events.specs.Matching.{fits}
use Rattle.mc_lab.specs.declared.remark.Remark.{Remark as Found}
use Rattle.mc_lab.specs.Remarked.{remark_value, remark_values}
use Rattle.mc_lab.specs.Rising.{last_of}
use Rattle.mc_lab.specs.Expectations.{is_met, result_above, steady_steps, step_text}
use Rattle.mc_lab.specs.Judged.{done_of}
use Rattle.mc_lab.proofs.ExpectedDeckLemmas.{above_start, above_from, above_on}
use Rattle.mc_lab.proofs.StageLemmas.{above_is, staged_start}
use Rattle.mc_lab.proofs.ExpectLemmas.{count_left, expectation_at, expectation_none, fails_done, no_remark, numbered_length, one_more, text_done, reported_fails, reported_on, reported_start}
use Rattle.mc_lab.proofs.expecting.expect.Goals as goal

-- the expectation at a place, and those after it
next-at : (given es : List Found) (i : ℕ) → given ≡ es → i + 1 ≤ length given → drop i (remark_values es) ≡ remark_value (slice_index_or given i no_remark) ∷ drop (i + 1) (remark_values es)
next-at given es i is h =
    ap (λ (v : List Found). drop i (remark_values v)) (sym is) ∙ expectation_at given i no_remark (omega (arith, h))
    ∙ ap (λ (v : List Found). remark_value (slice_index_or given i no_remark) ∷ drop (i + 1) (remark_values v)) is

pub loop-expectation-init : goal.loop-expectation-init
loop-expectation-init g c =
    let expected_deck = c.args.expected_deck.now in
    let es = remark_values expected_deck.expectations.items in
    let whole = steady_steps (g.N.Nvm.state c.args.device).words expected_deck.deck in
    record {
      above = above_start expected_deck.deck es c.requires.rising.expected;
      staged = staged_start g.N.Nvm.state g.N.Bench.bench expected_deck.deck c.args.device c.new-player.result c.new-text.result.items c.new-player.ensures.at c.new-player.ensures.device c.requires.steady c.new-text.ensures;
      left = zero-add _;
      few = omega arith;
      reported = λ r b h. puts_as _ _ r (reported_start whole es) h;
    }

pub count_above-above-requires : goal.count_above-above-requires
count_above-above-requires g c =
    let given = c.as_slice-expectations.result.now in
    let es = remark_values c.args.expected_deck.now.expectations.items in
    let i = c.loop-expectation.expectation-index in
    let next = next-at given c.args.expected_deck.now.expectations.items i c.as_slice-expectations.ensures.value (omega (arith, c.loop-expectation-test.true)) in
    above_from c.args.expected_deck.now.deck c.loop-expectation.count (drop i es) (remark_value (slice_index_or given i no_remark)) (drop (i + 1) es) next c.loop-expectation.invariant.above

pub play_lines-requires-clause-order : goal.play_lines-requires-clause-order
play_lines-requires-clause-order g c =
    let given = c.as_slice-expectations.result.now in
    let es = remark_values c.args.expected_deck.now.expectations.items in
    let i = c.loop-expectation.expectation-index in
    let next = next-at given c.args.expected_deck.now.expectations.items i c.as_slice-expectations.ensures.value (omega (arith, c.loop-expectation-test.true)) in
    let from = above_from c.args.expected_deck.now.deck c.loop-expectation.count (drop i es) (remark_value (slice_index_or given i no_remark)) (drop (i + 1) es) next c.loop-expectation.invariant.above in
    omega (arith, from, c.count_above-above.ensures.count)

pub returns-in_err-held-clause-reported : goal.returns-in_err-held-clause-reported
returns-in_err-held-clause-reported g c =
    let expected_deck = c.args.expected_deck.now in
    let given = c.as_slice-expectations.result.now in
    let es = remark_values expected_deck.expectations.items in
    let i = c.loop-expectation.expectation-index in
    let words = (g.N.Nvm.state c.args.device).words in
    let whole = steady_steps words expected_deck.deck in
    let e = remark_value (slice_index_or given i no_remark) in
    let next = next-at given expected_deck.expectations.items i c.as_slice-expectations.ensures.value (omega (arith, c.loop-expectation-test.true)) in
    let inv = c.loop-expectation.invariant in
    let staged = c.play_lines.ensures.staged whole inv.staged in
    let is : c.play_lines.new.text.items ≡ result_above whole e.number =
    staged.last ∙ ap (λ k. step_text (last_of k whole)) c.count_above-above.ensures.count ∙ sym (above_is (start words) e.number expected_deck.deck c.requires.rising.lines) in
    let x = sunk_in g.T.Sink.taken g.T.Sink.faults c.loop-expectation.out in
    let y = sunk_in g.T.Sink.taken g.T.Sink.faults c.judge.new.out in
    inv.reported (done_of c.from_residual.result) y
    (fails_done c.from_residual.result c.from_residual.ensures.0 (reported_fails whole (drop i es) e (drop (i + 1) es) es c.play_lines.new.text.items x y next is c.in_err-held.ensures.reported))

pub loop-expectation-preserved : goal.loop-expectation-preserved
loop-expectation-preserved g c =
    let expected_deck = c.args.expected_deck.now in
    let given = c.as_slice-expectations.result.now in
    let es = remark_values expected_deck.expectations.items in
    let i = c.loop-expectation.expectation-index in
    let words = (g.N.Nvm.state c.args.device).words in
    let whole = steady_steps words expected_deck.deck in
    let e = remark_value (slice_index_or given i no_remark) in
    let next = next-at given expected_deck.expectations.items i c.as_slice-expectations.ensures.value (omega (arith, c.loop-expectation-test.true)) in
    let inv = c.loop-expectation.invariant in
    let staged = c.play_lines.ensures.staged whole inv.staged in
    let is : c.play_lines.new.text.items ≡ result_above whole e.number =
    staged.last ∙ ap (λ k. step_text (last_of k whole)) c.count_above-above.ensures.count ∙ sym (above_is (start words) e.number expected_deck.deck c.requires.rising.lines) in
    let held = c.in_ok-held.held in
    let met : held ≡ is_met whole e = c.in_ok-held.ensures.value ∙ ap (fits e.text) is in
    let x = sunk_in g.T.Sink.taken g.T.Sink.faults c.loop-expectation.out in
    let y = sunk_in g.T.Sink.taken g.T.Sink.faults c.judge.new.out in
    let count = count_left whole (drop i es) e (drop (i + 1) es) held next met in
    record {
      above = above_on expected_deck.deck c.loop-expectation.count c.count_above-above.result (drop i es) e (drop (i + 1) es) next c.count_above-above.ensures.count inv.above;
      staged = staged;
      left = omega (arith, count, c.counted-failed.ensures, inv.left);
      few = omega (arith, c.counted-failed.ensures, one_more held c.loop-expectation.failed i inv.few);
      reported = λ r b rest. inv.reported r b (reported_on whole (drop i es) e (drop (i + 1) es) es c.play_lines.new.text.items x y r b next is c.in_ok-held.ensures.reported rest);
    }

pub returns-clause-reported : goal.returns-clause-reported
returns-clause-reported g c =
    let expected_deck = c.args.expected_deck.now in
    let given = c.as_slice-expectations.result.now in
    let value = c.as_slice-expectations.ensures.value in
    let es = remark_values expected_deck.expectations.items in
    let i = c.loop-expectation.expectation-index in
    let whole = steady_steps (g.N.Nvm.state c.args.device).words expected_deck.deck in
    let all : length given ≤ i = search rules in
    let none : drop i es ≡ [] = ap (λ (v : List Found). drop i (remark_values v)) (sym value) ∙ expectation_none given i all in
    let len : length given ≡ length es = sym (numbered_length given) ∙ ap (λ (v : List Found). length (remark_values v)) value in
    let inv = c.loop-expectation.invariant in
    let x = sunk_in g.T.Sink.taken g.T.Sink.faults c.loop-expectation.out in
    let y = sunk_in g.T.Sink.taken g.T.Sink.faults c.put_counts.new.out in
    inv.reported (Ok tt) y (puts_as x y (Ok tt) (text_done whole (drop i es) es (length given) c.loop-expectation.failed none len inv.left) c.in_ok-put_counts.ensures)
