-- The law of closed tables for the rules of a deck: one check that is computed decides that they are kept.
use Rattle.std.specs.Prelude.{◌≡◌, ℕ, ◌+◌, Bool, true, false, ◌&&◌, nat_lt, nat_le, List, [], ◌∷◌, length, Option, Some, None, Result, Ok, Err}
use Rattle.std.specs.Fmt.{digits}
use Rattle.law_prove.specs.model_device.specs.Card.{App}
use Rattle.law_prove.specs.model_device.specs.Pieces.{touched_words}
use Rattle.law_prove.specs.model_machine.specs.Apdu.{apdu_read}
use Rattle.law_prove.specs.model_machine.specs.Frame.{dynamic_base, dynamic_end, bytes_at, write_effect, too_many}
use Rattle.law_prove.specs.model_machine.specs.Primitives.{later_causes}
use Rattle.law_prove.specs.model_machine.specs.Row.{causes}
use Rattle.law_prove.specs.model_card.specs.Units.{name_of}
use Rattle.law_prove.specs.model_text.specs.TurnText.{turn_line}
use Rattle.law_prove.specs.model_play.specs.DeckGrammar.{deck_read}
use Rattle.law_prove.specs.model_machine.specs.Shapes.{shape, prim_shape}
use Rattle.law_prove.specs.model_rules.specs.model_events.specs.Matching.{fits}
use Rattle.law_prove.specs.model_rules.specs.Rules.{Target, Total, AppRules}
use Rattle.law_prove.specs.model_rule_text.specs.Reading.{RuleCause, app_rules_read}
use Rattle.law_prove.specs.law_rules.specs.Law.{KeptInAll}
use Rattle.law_prove.specs.model_prove.specs.Keys.{Tables}
use Rattle.law_prove.specs.model_prove.specs.Arrivals.{Setting}
use Rattle.law_prove.specs.model_prove.specs.Tables.{is_closed}
use Rattle.law_prove_closed.specs.Search.{tables_after}

-- whether numbers are bytes
abbrev pub are_bytes : List ℕ → Bool
are_bytes [] = true
are_bytes (b ∷ bs) = nat_lt b 256 && are_bytes bs

-- whether a card can have an application
abbrev pub is_loadable : App → Bool
is_loadable a =
    are_bytes a.code && nat_lt (length a.code) 65536 && are_bytes a.fixed && nat_le (length a.fixed) dynamic_base && nat_le (dynamic_base + a.session) dynamic_end

-- whether there are no sums
abbrev pub has_no_totals : List Total → Bool
has_no_totals [] = true
has_no_totals (t ∷ ts) = false

-- whether tables prove rules of an application
abbrev pub proves : AppRules → Target → Tables → Bool
proves r g t = is_loadable g.app && has_no_totals r.totals && is_closed (record { rules = r; app = g.app }) t

-- whether the tables after at most n steps of the search do
abbrev pub proves_for : ℕ → AppRules → Option Target → Bool
proves_for n r None = false
proves_for n r (Some g) = let s : Setting = record { rules = r; app = g.app } in proves r g (tables_after n s)

-- of rules that were read
abbrev pub proves_read : ℕ → Result AppRules (ℕ × RuleCause) → Bool
proves_read n (Err e) = false
proves_read n (Ok r) = proves_for n r r.target

-- whether the rules of a deck's text are proved after at most n steps of the search
unfoldable pub proves_deck : ℕ → List ℕ → Bool
unfolding digits name_of apdu_read touched_words bytes_at write_effect too_many later_causes causes shape prim_shape turn_line deck_read fits app_rules_read is_closed
proves_deck n text = proves_read n (app_rules_read text)

-- rules speak of an application, and are kept of it
abbrev pub TargetIsKept : AppRules → Option Target → Type 0
TargetIsKept r None = ⊥
TargetIsKept r (Some g) = KeptInAll r g

-- rules that were read do
abbrev pub AreKeptAsRead : Result AppRules (ℕ × RuleCause) → Type 0
AreKeptAsRead (Err e) = ⊥
AreKeptAsRead (Ok r) = TargetIsKept r r.target

-- a deck's text has rules of an application, and they are kept in every play
abbrev pub DeckIsKept : List ℕ → Type 0
DeckIsKept text = AreKeptAsRead (app_rules_read text)

-- the rules of a deck that are proved are kept
abbrev pub DeckLaw : Type 0
DeckLaw = (n : ℕ) (text : List ℕ) → proves_deck n text ≡ true → DeckIsKept text
