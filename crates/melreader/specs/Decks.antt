-- The deck that a session begins with: the input that was read, and the lines that it spells or the line that refuses
-- it.
use Rattle.std.specs.Prelude.{◌≡◌, ◌⊎◌, ℕ, List, [], ◌∷◌, Option, Some, None, Result, Ok, Err, ⊤}
use Rattle.std.proofs.Common.{inl, inr}
use Rattle.std.specs.Borrow.{MutBor}
use Rattle.mc_deck.specs.model_play.specs.DeckGrammar.{DeckLine, Format, deck_read}
use Rattle.mc_deck.specs.model_play.specs.declared.deck.DeckCause.{DeckCause}
use Rattle.mc_streams.specs.declared.source.Source as source
use Rattle.mc_filter.specs.Inputs.{stream, FailsReading, ReadsLimited, Stream}
use Rattle.mc_filter.specs.Lines.{deck_line}
use Rattle.mc_filter.specs.Outside.{IsRead}
use Rattle.mc_filter.specs.declared.rejection.Rejection.{Rejection}
use Rattle.mc_filter.specs.declared.rejection.Rejection.TheVariants as rejection

-- ---- sources

-- a source that may be missing
abbrev pub stream_of_source : {D : Type 0} → source.Ghosts D → Option (MutBor D) → Option Stream
stream_of_source t None = None
stream_of_source t (Some d) = Some (stream t d.now)

-- the reference to such a source after the call
abbrev pub LeftReference : Type 0 → Type 0
LeftReference D = Unit {0} ⊎ ((MutBor D × Unit {0}) ⊎ ⊥)

-- such a source after the call
abbrev pub stream_left : {D : Type 0} → source.Ghosts D → LeftReference D → Option Stream
stream_left t (inl none) = None
stream_left t (inr (inl d)) = Some (stream t (d.0).now)
stream_left t (inr (inr never)) = None

-- ---- the deck that a text spells

-- the lines that a text spells, or the line that refuses it
abbrev pub lines_or_refusal : Result (List (ℕ × DeckLine)) (ℕ × DeckCause) → Result (List (ℕ × DeckLine)) (List ℕ)
lines_or_refusal (Ok lines) = Ok lines
lines_or_refusal (Err e) = Err (deck_line e)

-- the lines that a text within the limit spells, or the line that refuses it
abbrev pub SpellsDeck : List ℕ → Result (List (ℕ × DeckLine)) (List ℕ) → Type 0
SpellsDeck text v = v ≡ lines_or_refusal (deck_read text)

-- the lines of a blank card: the one line `format`
abbrev pub blank_deck : List (ℕ × DeckLine)
blank_deck = (1, Format) ∷ []

-- the lines of the deck, or the line that refuses it
abbrev pub IsDeck : Option Stream → Option Stream → Result (List (ℕ × DeckLine)) (List ℕ) → Type 0
IsDeck None b v = v ≡ Ok blank_deck
IsDeck (Some a) None v = ⊥
IsDeck (Some a) (Some b) v = IsRead Err SpellsDeck a b v

-- at most the limit and one byte after it was read from the deck's source, if there is one, and no call of it failed
abbrev pub DeckLimited : Option Stream → Option Stream → Type 0
DeckLimited None b = ⊤
DeckLimited (Some a) None = ⊥
DeckLimited (Some a) (Some b) = ReadsLimited a b

-- one call of the deck's source failed, and at most the limit and one byte after it was read
abbrev pub DeckFails : Option Stream → Option Stream → Type 0
DeckFails None b = ⊥
DeckFails (Some a) None = ⊥
DeckFails (Some a) (Some b) = FailsReading a b

-- ---- the deck of the code

-- the deck that a source has, or why there is none
abbrev pub HasDeck : Option Stream → Option Stream → Result (List (ℕ × DeckLine)) Rejection → Type 0
HasDeck a b (Ok lines) = IsDeck a b (Ok lines)
HasDeck a b (Err (rejection.Refusal line)) = IsDeck a b (Err line.items)
HasDeck a b (Err rejection.ReadFault) = DeckFails a b
HasDeck a b (Err rejection.NoMemory) = DeckLimited a b
