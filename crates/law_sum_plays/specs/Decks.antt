-- The law of closed tables with sums for the rules of a deck: one check that is computed decides that they are kept.
use Rattle.std.specs.Prelude.{◌≡◌, ℕ, Bool, true, false, ◌&&◌, List, ◌++◌, codes, Option, Some, None, Result, Ok, Err}
use Rattle.std.specs.Fmt.{digits}
use Rattle.law_sum_plays.specs.model_device.specs.Pieces.{touched_words}
use Rattle.law_sum_plays.specs.model_machine.specs.Apdu.{apdu_read}
use Rattle.law_sum_plays.specs.model_machine.specs.Frame.{bytes_at, write_effect, too_many}
use Rattle.law_sum_plays.specs.model_machine.specs.Primitives.{later_causes}
use Rattle.law_sum_plays.specs.model_machine.specs.Row.{causes}
use Rattle.law_sum_plays.specs.model_card.specs.Units.{name_of}
use Rattle.law_sum_plays.specs.model_text.specs.TurnText.{turn_line}
use Rattle.law_sum_plays.specs.model_play.specs.DeckGrammar.{deck_read}
use Rattle.law_sum_plays.specs.model_machine.specs.Shapes.{shape, prim_shape}
use Rattle.law_sum_plays.specs.model_rules.specs.model_events.specs.Matching.{fits}
use Rattle.law_sum_plays.specs.model_rules.specs.Rules.{Target, AppRules}
use Rattle.law_sum_plays.specs.model_rule_text.specs.Reading.{RuleCause, app_rules_read}
use Rattle.law_sum_plays.specs.law_prove_closed.specs.Computed.{deck_of}
use Rattle.law_sum_plays.specs.model_prove.specs.Keys.{Tables}
use Rattle.law_sum_plays.specs.model_prove.specs.Arrivals.{Setting}
use Rattle.law_sum_plays.specs.model_prove.specs.Tables.{is_closed}
use Rattle.law_sum_plays.specs.law_prove_closed.specs.Search.{tables_after}
use Rattle.law_sum_plays.specs.law_prove_closed.specs.Decks.{is_loadable, DeckIsKept}
use Rattle.law_sum_plays.specs.model_sums.specs.Sums.{SumsTable}
use Rattle.law_sum_plays.specs.model_sums.specs.Closed.{sums_closed}
use Rattle.law_sum_plays.specs.Computed.{all_even, but_at, guessed, with_off}

-- a table of sums for tables of facts
abbrev pub SumsOf : Type 0
SumsOf = Setting → Tables → SumsTable

-- whether tables of facts and a table of sums prove rules of an application
abbrev pub proves : AppRules → Target → Tables → SumsTable → Bool
proves r g t u = let s : Setting = record { rules = r; app = g.app } in is_loadable g.app && is_closed s t && sums_closed s t u

-- whether the tables after at most n steps of the search do, with the sums of them
abbrev pub proves_for : ℕ → SumsOf → AppRules → Option Target → Bool
proves_for n sums r None = false
proves_for n sums r (Some g) =
    let s : Setting = record { rules = r; app = g.app } in
    let t : Tables = tables_after n s in
    proves r g t (sums s t)

-- of rules that were read
abbrev pub proves_read : ℕ → SumsOf → Result AppRules (ℕ × RuleCause) → Bool
proves_read n sums (Err e) = false
proves_read n sums (Ok r) = proves_for n sums r r.target

-- whether the rules of a deck's text are proved after at most n steps of the search, with these sums
unfoldable pub proves_sums : ℕ → SumsOf → List ℕ → Bool
unfolding digits name_of apdu_read touched_words bytes_at write_effect too_many later_causes causes shape prim_shape turn_line deck_read fits app_rules_read is_closed sums_closed
proves_sums n sums text = proves_read n sums (app_rules_read text)

-- the rules of a deck that are proved are kept, with their sums
abbrev pub DeckSumsLaw : Type 0
DeckSumsLaw = (n : ℕ) (sums : SumsOf) (text : List ℕ) → proves_sums n sums text ≡ true → DeckIsKept text

-- ---- an example

-- a byte to which 3 is added in a transaction, and which is to be a sum, with this event
abbrev pub transaction_with : List ℕ → List ℕ
transaction_with event =
    deck_of (codes "PRIM 3,2\nADDB SB[0],3\nPRIM 3,1\nEXIT\n") (codes "1 0") (codes "#@ sum s 0\n#@ always SB[0..0] = 0 + s\n" ++ event)

-- with the event that its commit adds 3
abbrev pub transaction_deck : List ℕ
transaction_deck = transaction_with (codes "#@ on turn *PRIM 3,1* add s 3\n")

-- between the addition and the commit, which is at 7, the byte is 3 more than the sum; elsewhere it is the sum
abbrev pub transaction_sums : SumsOf
transaction_sums s t = guessed (but_at 7 (with_off 3) all_even s.rules.totals) t.places
