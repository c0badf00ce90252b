-- Decks with their expectations: the lines above an expectation, and the expectations without a result.
use Rattle.std.proofs.Common.{◌≡◌, ◌+◌, refl, sym, ◌∙◌, ap, ℕ, List, [], ◌∷◌, length, drop, Bool, true, false, Option, Some, Result, Ok, Err, arith}
use Rattle.std.specs.Prelude.{◌==◌}
use Rattle.std.proofs.lemmas.Bool.Decides.{nat_tests}
use Rattle.law_explore.specs.model_play.specs.DeckGrammar.{DeckLine, deck_read}
use Rattle.law_explore.specs.model_play.specs.declared.deck.DeckCause.{DeckCause}
use Rattle.mc_deck.specs.Refused.{DeckRefuses}
use Rattle.mc_deck.specs.declared.refusal.DeckRefusal.{DeckRefusal}
use Rattle.mc_deck.specs.declared.refusal.DeckRefusal.TheVariants as deck
use Rattle.mc_lab.specs.ExpectedDecks.{refusal_of, RefusesExpectedDeck}
use Rattle.mc_lab.specs.Rising.{Rising, count_below, last_of}
use Rattle.mc_lab.specs.declared.remark.Mark.TheVariants as mark
use Rattle.mc_lab.specs.Remarks.{Remark, remarks}
use Rattle.mc_lab.specs.declared.remark.Remark.{Remark as Found}
use Rattle.mc_lab.specs.Remarked.{remark_number, remark_values}
use Rattle.mc_lab.specs.Expectations.{DeckFault, NoExpectation, first_unanswered, is_answered, last_below, line_number, expected_deck_of, expected_deck_read, expected_deck_unless, expected_deck_with}
use Rattle.mc_lab.proofs.RisingLemmas.{rising_lower}
use Rattle.mc_lab.proofs.BelowLemmas.{count_on, last_is}

-- `count` lines are above some number, and no expectation that is left is below it
abbrev pub LinesAbove : List (ℕ × DeckLine) → ℕ → List Remark → Type 0
LinesAbove ls count left = (m : ℕ) × (count ≡ count_below line_number m ls) × Rising remark_number m left

count_zero : (ls : List (ℕ × DeckLine)) → 0 ≡ count_below line_number 0 ls
count_zero [] = refl
count_zero (l ∷ ls) = grind arith

-- before the first expectation no line is above it
pub above_start : (ls : List (ℕ × DeckLine)) (es : List Remark) → Rising remark_number 1 es → LinesAbove ls 0 es
above_start ls es h = (0, count_zero ls, rising_lower remark_number 0 1 es (omega arith) h)

-- the count of the lines above the next expectation continues from there
pub above_from : (ls : List (ℕ × DeckLine)) (count : ℕ) (left : List Remark) (e : Remark) (es : List Remark) → left ≡ e ∷ es → LinesAbove ls count left → count + count_below line_number e.number (drop count ls) ≡ count_below line_number e.number ls
above_from ls count left e es i h = grind (arith, count_on)

-- the lines above an expectation are counted from those above the one before
pub above_on : (ls : List (ℕ × DeckLine)) (count now : ℕ) (left : List Remark) (e : Remark) (es : List Remark) → left ≡ e ∷ es → now ≡ count_below line_number e.number ls → LinesAbove ls count left → LinesAbove ls now es
above_on ls count now left e es i k h = grind (arith, rising_lower)

-- ---- the first expectation without a result

-- whether the statement above an expectation has a result, by the number of lines above it
answered_is : (ls : List (ℕ × DeckLine)) (n count : ℕ) (b : Bool) → Rising line_number 1 ls → count ≡ count_below line_number n ls → b ≡ is_answered (last_of count ls) → b ≡ is_answered (last_below line_number n ls)
answered_is ls n count b h k e = e ∙ ap (λ c. is_answered (last_of c ls)) k ∙ ap is_answered (sym (last_is line_number 1 n ls h))

-- an expectation whose line has no result is the first without one
pub unanswered_first : (ls : List (ℕ × DeckLine)) (left : List Remark) (e : Remark) (es : List Remark) (count : ℕ) (b : Bool) (whole : Option ℕ)
    → left ≡ e ∷ es → Rising line_number 1 ls → count ≡ count_below line_number e.number ls → b ≡ is_answered (last_of count ls) → b ≡ false → first_unanswered ls left ≡ whole → Some e.number ≡ whole
unanswered_first ls left e es count b whole i h k t f w = grind (arith, answered_is)

-- an expectation whose line has a result leaves those after it
pub unanswered_on : (ls : List (ℕ × DeckLine)) (left : List Remark) (e : Remark) (es : List Remark) (count : ℕ) (b : Bool) (whole : Option ℕ)
    → left ≡ e ∷ es → Rising line_number 1 ls → count ≡ count_below line_number e.number ls → b ≡ is_answered (last_of count ls) → b ≡ true → first_unanswered ls left ≡ whole → first_unanswered ls es ≡ whole
unanswered_on ls left e es count b whole i h k t f w = grind (arith, answered_is)

-- ---- what was read

-- an expected deck is read as its deck and its remarks are
pub read_as : (text : List ℕ) (es : List Remark) (r : Result (List (ℕ × DeckLine)) (ℕ × DeckCause)) → es ≡ remarks mark.Expectation text → deck_read text ≡ r → expected_deck_read text ≡ expected_deck_of es r
unfolding expected_deck_read
read_as text es r e h = ap (expected_deck_of (remarks mark.Expectation text)) h ∙ ap (λ es. expected_deck_of es r) (sym e)

-- a deck that was refused is refused with its cause
pub read_deck : (text : List ℕ) (n : ℕ) (c : DeckCause) → deck_read text ≡ Err (n, c) → expected_deck_read text ≡ Err (DeckFault n c)
unfolding expected_deck_read
read_deck text n c h = ap (expected_deck_of (remarks mark.Expectation text)) h

-- a deck that was read is refused if an expectation has no result
pub read_expected_deck : (text : List ℕ) (ls : List (ℕ × DeckLine)) (es : List Remark) (o : Option ℕ) → es ≡ remarks mark.Expectation text → deck_read text ≡ Ok ls → o ≡ first_unanswered ls es → expected_deck_read text ≡ expected_deck_unless ls es o
read_expected_deck text ls es o e h w = read_as text es (Ok ls) e h ∙ ap (expected_deck_unless ls es) (sym w)

-- the refusal of a deck is one of a deck with expectations
pub refused_deck : (text : List ℕ) (e : DeckRefusal) → DeckRefuses (deck_read text) e → RefusesExpectedDeck (expected_deck_read text) (refusal_of e)
refused_deck text (deck.At n c) h = read_deck text n c h
refused_deck text deck.NoMemory h = tt

-- a deck without an expectation, and one with some
pub expected_deck_none : (text : List ℕ) (ls : List (ℕ × DeckLine)) (es : List Found) (n : ℕ) → expected_deck_read text ≡ expected_deck_with ls (remark_values es) → length es ≡ n → (n == 0) ≡ true → expected_deck_read text ≡ Err NoExpectation
expected_deck_none text ls [] n h len none = h
expected_deck_none text ls (e ∷ es) n h len none = grind (arith, nat_tests)

-- an expected deck with at least one expectation is read
pub expected_deck_some : (text : List ℕ) (ls : List (ℕ × DeckLine)) (es : List Found) (n : ℕ) → expected_deck_read text ≡ expected_deck_with ls (remark_values es) → length es ≡ n → (n == 0) ≡ false → expected_deck_read text ≡ Ok (record { lines = ls; expected = remark_values es })
expected_deck_some text ls [] n h len some = grind (arith, nat_tests)
expected_deck_some text ls (e ∷ es) n h len some = h
