use Rattle.std.proofs.Common.{◌≡◌, ◌∙◌, ap, sym}
use Rattle.mc_nvm.specs.Sim.{Sim}
use Rattle.mc_lab.specs.Expectations.{count_failed, steady_steps, expected_deck_read}
use Rattle.mc_lab.specs.ExpectedDecks.{expected_deck_value}
use Rattle.mc_filter.specs.Outside.{outside, Outside}
use Rattle.mellab.proofs.ReportedLemmas.{if_ok, says_expected}
use Rattle.mellab.proofs.running.expect_input.Goals as goal

pub returns-clause-done : goal.returns-clause-done
returns-clause-done g c =
    let a : Outside = outside g.S.Source g.T.Sink c.args.input.now c.read_input.new.input c.args.out.now c.expect.new.out in
    let t = expected_deck_value c.in_ok-expected_deck.expected_deck in
    let words = c.in_ok-device.device.words in
    let is = ap expected_deck_read (sym c.as_slice.ensures.value) ∙ c.in_ok-expected_deck.ensures.expected_deck in
    says_expected a c.in_ok-text.text.items t words c.expect.result c.status_after.result c.in_ok-text.ensures.read is (ap (λ (s : Sim). s.words) c.in_ok-device.ensures) c.status_after.ensures
    (if_ok c.expect.result (λ n. n ≡ count_failed (steady_steps words t.lines) t.expected) c.expect.ensures.failed) c.expect.ensures.reported
