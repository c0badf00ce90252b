use Rattle.std.proofs.Common.{◌≡◌, ◌∙◌, ap, sym, subst, ℕ, List, Some, None, Ok, length, vec_len}
use Rattle.std.specs.Prelude.{OnOk}
use Rattle.std.proofs.lemmas.Result.{IfOk-at_ok}
use Rattle.law_explore.specs.model_play.specs.DeckGrammar.{DeckLine, deck_read}
use Rattle.mc_lab.specs.Rising.{Rising}
use Rattle.mc_lab.specs.declared.expected_deck.ExpectationRefusal.{ExpectationRefusal}
use Rattle.mc_lab.specs.ExpectedDecks.{RefusesExpectedDeck}
use Rattle.mc_lab.specs.declared.remark.Mark.TheVariants as mark
use Rattle.mc_lab.specs.Remarks.{Remark, remarks}
use Rattle.mc_lab.specs.Remarked.{remark_number, remark_values}
use Rattle.mc_lab.specs.Expectations.{first_unanswered, expected_deck_read}
use Rattle.mc_lab.proofs.RemarkLemmas.{remarks_rise}
use Rattle.mc_lab.proofs.RisingLemmas.{deck_rising}
use Rattle.mc_lab.proofs.ExpectedDeckLemmas.{read_expected_deck, refused_deck, expected_deck_none, expected_deck_some}
use Rattle.mc_lab.proofs.expected_deck.read_expected_deck.Goals as goal

pub returns-in-Err-clause-refused : goal.returns-in-Err-clause-refused
returns-in-Err-clause-refused c = subst (λ (e : ExpectationRefusal). RefusesExpectedDeck (expected_deck_read c.args.text.now) e) (sym c.refusal_of.ensures) (refused_deck c.args.text.now c.in-Err.refusal c.in-Err.ensures.refused)

pub first_unanswered-requires-clause-lines : goal.first_unanswered-requires-clause-lines
first_unanswered-requires-clause-lines c = deck_rising c.args.text.now c.in-Ok.deck c.in-Ok.ensures.lines

-- the expectations of a text that is a deck
found : (text : List ℕ) (ls : List (ℕ × DeckLine)) (es : List Remark) → deck_read text ≡ Ok ls → OnOk (deck_read text) (es ≡ remarks mark.Expectation text) → es ≡ remarks mark.Expectation text
found text ls es deck h = IfOk-at_ok (λ (ls : List (ℕ × DeckLine)). es ≡ remarks mark.Expectation text) deck h

pub first_unanswered-requires-clause-expectations : goal.first_unanswered-requires-clause-expectations
first_unanswered-requires-clause-expectations c =
    let is = found c.args.text.now c.in-Ok.deck (remark_values c.in_ok-expectations.expectations.items) c.in-Ok.ensures.lines c.in_ok-expectations.ensures in
    subst (λ (es : List Remark). Rising remark_number 1 es) (sym (ap remark_values c.as_slice.ensures.value ∙ is)) (remarks_rise mark.Expectation c.args.text.now)

pub returns-in-Some-clause-refused : goal.returns-in-Some-clause-refused
returns-in-Some-clause-refused c =
    let es = remark_values c.as_slice.result.now in
    let is = found c.args.text.now c.in-Ok.deck (remark_values c.in_ok-expectations.expectations.items) c.in-Ok.ensures.lines c.in_ok-expectations.ensures in
    read_expected_deck c.args.text.now c.in-Ok.deck es (Some c.in-Some.number) (ap remark_values c.as_slice.ensures.value ∙ is) c.in-Ok.ensures.lines (sym c.in-Some.is ∙ c.first_unanswered.ensures)

pub returns-then-is_empty-clause-refused : goal.returns-then-is_empty-clause-refused
returns-then-is_empty-clause-refused c =
    let v = c.in_ok-expectations.expectations in
    let es = remark_values v.items in
    let same = ap remark_values c.as_slice.ensures.value in
    let len = ap length (sym c.as_slice.ensures.value) ∙ c.as_slice.ensures.len in
    let read = read_expected_deck c.args.text.now c.in-Ok.deck es None (found c.args.text.now c.in-Ok.deck es c.in-Ok.ensures.lines c.in_ok-expectations.ensures) c.in-Ok.ensures.lines (sym c.in_default.is ∙ c.first_unanswered.ensures ∙ ap (first_unanswered c.in-Ok.deck) same) in
    expected_deck_none c.args.text.now c.in-Ok.deck v.items (vec_len v) read len (sym c.is_empty.ensures ∙ c.if-is_empty.true)

pub returns-clause-expected_deck : goal.returns-clause-expected_deck
returns-clause-expected_deck c =
    let v = c.in_ok-expectations.expectations in
    let es = remark_values v.items in
    let same = ap remark_values c.as_slice.ensures.value in
    let len = ap length (sym c.as_slice.ensures.value) ∙ c.as_slice.ensures.len in
    let read = read_expected_deck c.args.text.now c.in-Ok.deck es None (found c.args.text.now c.in-Ok.deck es c.in-Ok.ensures.lines c.in_ok-expectations.ensures) c.in-Ok.ensures.lines (sym c.in_default.is ∙ c.first_unanswered.ensures ∙ ap (first_unanswered c.in-Ok.deck) same) in
    expected_deck_some c.args.text.now c.in-Ok.deck v.items (vec_len v) read len (sym c.is_empty.ensures ∙ c.if-is_empty.false)

pub returns-clause-rising : goal.returns-clause-rising
returns-clause-rising c =
    let is = found c.args.text.now c.in-Ok.deck (remark_values c.in_ok-expectations.expectations.items) c.in-Ok.ensures.lines c.in_ok-expectations.ensures in
    record {
      lines = deck_rising c.args.text.now c.in-Ok.deck c.in-Ok.ensures.lines;
      expected = subst (λ (es : List Remark). Rising remark_number 1 es) (sym is) (remarks_rise mark.Expectation c.args.text.now);
    }
