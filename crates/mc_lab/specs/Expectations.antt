-- Expectations: remarks of a deck that begin with `#>`, each with a pattern for the result of the statement above it.
use Rattle.std.specs.Prelude.{ℕ, Bool, true, false, cond, not, ◌&&◌, nat_lt, List, [], ◌∷◌, ◌++◌, length, take, drop, filter, flat_map, codes, decimal, Option, Some, None, Result, Ok, Err}
use Rattle.law_explore.specs.model_text.specs.Text.{first_cut, is_blank, pieces}
use Rattle.law_explore.specs.model_play.specs.declared.deck.DeckCause.{DeckCause}
use Rattle.law_explore.specs.model_play.specs.DeckGrammar.{DeckLine, deck_read}
use Rattle.law_explore.specs.model_play.specs.DeckGrammar as line
use Rattle.law_explore.specs.model_play.specs.Play.{LineResult, State, Step, plays, start, steady_failures}
use Rattle.law_explore.specs.model_play.specs.Transcript.{text_of_result}
use Rattle.law_explore.specs.model_events.specs.Patterns.{is_star, without_blanks}
use Rattle.law_explore.specs.model_events.specs.Matching.{fits}
use Rattle.mc_lab.specs.declared.remark.Mark.TheVariants as mark
use Rattle.mc_lab.specs.Remarks.{Remark, remarks}

-- ---- the statements that expectations refer to

-- the second of two, if there is one, else the first
abbrev pub later_or : {A : Type 0} → Option A → Option A → Option A
later_or first None = first
later_or first (Some a) = Some a

-- a value, if a test holds
abbrev pub where_is : {A : Type 0} → Bool → A → Option A
where_is true a = Some a
where_is false a = None

-- the last of some values whose number is below n
abbrev pub last_below : {A : Type 0} → (A → ℕ) → ℕ → List A → Option A
last_below number n [] = None
last_below number n (a ∷ rest) = later_or (where_is (nat_lt (number a) n) a) (last_below number n rest)

-- the number of a numbered line
abbrev pub line_number : {A : Type 0} → ℕ × A → ℕ
line_number l = l.0

-- whether a statement has a result
abbrev pub has_result : DeckLine → Bool
has_result line.Format = true
has_result line.Power = true
has_result (line.Sent sent) = true
has_result (line.Dump a) = true
has_result _ = false

-- whether a statement is there and has a result
abbrev pub is_answered : Option (ℕ × DeckLine) → Bool
is_answered None = false
is_answered (Some l) = has_result l.1

-- the number of the first expectation without a statement above it that has a result
abbrev pub first_unanswered : List (ℕ × DeckLine) → List Remark → Option ℕ
first_unanswered ls [] = None
first_unanswered ls (e ∷ es) = cond (is_answered (last_below line_number e.number ls)) (first_unanswered ls es) (Some e.number)

-- a deck and its expectations
pub record ExpectedDeck : Type 0 where
  pub lines : List (ℕ × DeckLine)
  pub expected : List Remark

-- why a text is not a deck with expectations: the refusal of its deck, an expectation without a result, or no
-- expectation at all
pub data ExpectationFault : Type 0 where
  DeckFault : ℕ → DeckCause → ExpectationFault
  NoAnswer : ℕ → ExpectationFault
  NoExpectation : ExpectationFault

-- a deck and its expectations, of which there is one at least
abbrev pub expected_deck_with : List (ℕ × DeckLine) → List Remark → Result ExpectedDeck ExpectationFault
expected_deck_with ls [] = Err NoExpectation
expected_deck_with ls (e ∷ es) = Ok (record { lines = ls; expected = e ∷ es })

-- a deck and its expectations, unless one of them has no result
abbrev pub expected_deck_unless : List (ℕ × DeckLine) → List Remark → Option ℕ → Result ExpectedDeck ExpectationFault
expected_deck_unless ls es None = expected_deck_with ls es
expected_deck_unless ls es (Some n) = Err (NoAnswer n)

-- a deck with its expectations, if the deck was read
abbrev pub expected_deck_of : List Remark → Result (List (ℕ × DeckLine)) (ℕ × DeckCause) → Result ExpectedDeck ExpectationFault
expected_deck_of es (Ok ls) = expected_deck_unless ls es (first_unanswered ls es)
expected_deck_of es (Err e) = Err (DeckFault e.0 e.1)

-- the deck and the expectations of a text: the refusals of the deck come first, and that of a deck without an
-- expectation last
unfoldable pub expected_deck_read : List ℕ → Result ExpectedDeck ExpectationFault
unfolding remarks deck_read
expected_deck_read text = expected_deck_of (remarks mark.Expectation text) (deck_read text)

-- ---- the report

-- the text of a step's result
abbrev pub result_text : Option LineResult → List ℕ
result_text None = []
result_text (Some r) = text_of_result r

-- the text of the result of a step, if there is one
abbrev pub step_text : Option Step → List ℕ
step_text None = []
step_text (Some t) = result_text t.result

-- the result of the last statement above a line
abbrev pub result_above : List Step → ℕ → List ℕ
result_above ts n = step_text (last_below (λ t. t.number) n ts)

-- whether an expectation holds in a play
abbrev pub is_met : List Step → Remark → Bool
is_met ts e = fits e.text (result_above ts e.number)

-- whether a text has a character at which it is cut
abbrev pub is_cut : List ℕ × Option (List ℕ) → Bool
is_cut (front, None) = false
is_cut (front, Some rest) = true

-- whether results are laid out as a pattern: it has a blank, and no `*`
abbrev pub lays_out : List ℕ → Bool
lays_out pattern = not (is_cut (first_cut is_star pattern)) && is_cut (first_cut is_blank pattern)

-- a blank before a text that is not empty
abbrev pub after_blank : (List ℕ → List ℕ) → List ℕ → List ℕ
after_blank rest [] = []
after_blank rest (c ∷ t) = 32 ∷ rest (c ∷ t)

-- a text with blanks after as many characters as each of these words has, but for the last word, as long as there are
-- characters
abbrev pub laid_by : List (List ℕ) → List ℕ → List ℕ
laid_by [] t = t
laid_by (w ∷ []) t = t
laid_by (w ∷ v ∷ ws) t = take (length w) t ++ after_blank (laid_by (v ∷ ws)) (drop (length w) t)

-- a result with blanks where a pattern has them, counted in characters that are no blanks
abbrev pub laid_out : List ℕ → List ℕ → List ℕ
laid_out pattern result = cond (lays_out pattern) (laid_by (pieces is_blank pattern) (without_blanks result)) result

-- the statement of an expectation, in the line of one that failed
abbrev pub above_text : ℕ × List ℕ → List ℕ
above_text l = codes " (line " ++ decimal l.0 ++ codes " " ++ l.1 ++ codes ")\n"

-- the line of an expectation that failed at a result
abbrev pub failed_line : Remark → List ℕ → List ℕ
failed_line e result =
    codes "line " ++ decimal e.number ++ codes " expected " ++ e.text ++ codes " was " ++ laid_out e.text result ++ above_text e.above

-- no text for an expectation that holds, and the line of one that failed
abbrev pub expectation_line : Bool → Remark → List ℕ → List ℕ
expectation_line true e result = []
expectation_line false e result = failed_line e result

-- the lines of the expectations that failed
abbrev pub failed_lines : List Step → List Remark → List ℕ
failed_lines ts es = flat_map (λ e. expectation_line (is_met ts e) e (result_above ts e.number)) es

-- the number of expectations that failed
abbrev pub count_failed : List Step → List Remark → ℕ
count_failed ts es = length (filter (λ e. not (is_met ts e)) es)

-- the line with the number of expectations and the number that failed
abbrev pub count_text : ℕ → ℕ → List ℕ
count_text expected failed = codes "expected " ++ decimal expected ++ codes " failed " ++ decimal failed ++ codes "\n"

-- the report of expectations in a play
unfoldable pub expect_text : List Step → List Remark → List ℕ
expect_text ts es = failed_lines ts es ++ count_text (length es) (count_failed ts es)

-- ---- the play

-- the play of lines from a state on a device whose only failed writes are those of `fail` lines
unfoldable pub steady_from : State → List (ℕ × DeckLine) → List Step
steady_from s ls = plays s ls (steady_failures s ls)

-- the play of lines from the words of a device, on such a device
abbrev pub steady_steps : List (List ℕ) → List (ℕ × DeckLine) → List Step
steady_steps words ls = steady_from (start words) ls
