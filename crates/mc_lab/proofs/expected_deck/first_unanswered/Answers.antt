use Rattle.std.proofs.Common.{◌+◌, refl, drop, slice_index_or}
use Rattle.mc_lab.specs.Expectations.{first_unanswered}
use Rattle.mc_lab.specs.Remarked.{remark_value, remark_values}
use Rattle.mc_lab.proofs.ExpectLemmas.{expectation_at, no_remark}
use Rattle.mc_lab.proofs.ExpectedDeckLemmas.{above_start, above_from, above_on, unanswered_first, unanswered_on}
use Rattle.mc_lab.proofs.expected_deck.first_unanswered.Goals as goal

pub loop-expectation-init : goal.loop-expectation-init
loop-expectation-init c = record { above = above_start c.args.deck.now (remark_values c.args.expectations.now) c.requires.expectations; left = refl }

pub count_above-count-requires : goal.count_above-count-requires
count_above-count-requires c =
    let es = c.args.expectations.now in
    let i = c.loop-expectation.expectation-index in
    above_from c.args.deck.now c.loop-expectation.count (drop i (remark_values es)) (remark_value (slice_index_or es i no_remark)) (drop (i + 1) (remark_values es))
    (expectation_at es i no_remark c.loop-expectation-test.true) c.loop-expectation.invariant.above

pub returns-then-not-is_answered : goal.returns-then-not-is_answered
returns-then-not-is_answered c =
    let es = c.args.expectations.now in
    let i = c.loop-expectation.expectation-index in
    unanswered_first c.args.deck.now (drop i (remark_values es)) (remark_value (slice_index_or es i no_remark)) (drop (i + 1) (remark_values es)) c.count_above-count.result c.is_answered.result (first_unanswered c.args.deck.now (remark_values es))
    (expectation_at es i no_remark c.loop-expectation-test.true) c.requires.lines c.count_above-count.ensures.count c.is_answered.ensures c.if-not-is_answered.true c.loop-expectation.invariant.left

pub loop-expectation-preserved : goal.loop-expectation-preserved
loop-expectation-preserved c =
    let es = c.args.expectations.now in
    let i = c.loop-expectation.expectation-index in
    let next = expectation_at es i no_remark c.loop-expectation-test.true in
    record {
      above =
          above_on c.args.deck.now c.loop-expectation.count c.count_above-count.result (drop i (remark_values es)) (remark_value (slice_index_or es i no_remark)) (drop (i + 1) (remark_values es)) next c.count_above-count.ensures.count
          c.loop-expectation.invariant.above;
      left =
          unanswered_on c.args.deck.now (drop i (remark_values es)) (remark_value (slice_index_or es i no_remark)) (drop (i + 1) (remark_values es)) c.count_above-count.result c.is_answered.result (first_unanswered c.args.deck.now (remark_values es))
          next c.requires.lines c.count_above-count.ensures.count c.is_answered.ensures c.if-not-is_answered.false c.loop-expectation.invariant.left;
    }
