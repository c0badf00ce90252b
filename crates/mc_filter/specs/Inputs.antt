-- The bytes that were read of an input, or why it is rejected.
use Rattle.std.specs.Prelude.{◌≡◌, ℕ, ◌+◌, ◌≤◌, List, length, Option, Some, None, Result, Ok, Err, ⊤}
use Rattle.mc_deck.specs.model_play.specs.DeckGrammar.{DeckLine}
use Rattle.mc_deck.specs.model_play.specs.declared.deck.DeckCause.{DeckCause}
use Rattle.mc_streams.specs.Streams.{one_more, Took, AtEnd, TookAtMost, TookMore}
use Rattle.mc_streams.specs.declared.source.Source as source
use Rattle.mc_filter.specs.declared.rejection.Rejection.{Rejection}
use Rattle.mc_filter.specs.declared.rejection.Rejection.TheVariants as rejection
use Rattle.mc_filter.specs.Lines.{deck_line, too_long}

-- the greatest number of bytes of an input
abbrev pub input_limit : ℕ
input_limit = 1048576

-- a source: the bytes that it has left, if it states them, and the counts of its failed calls and of all its calls
pub record Stream : Type 0 where
  pub left : Option (List ℕ)
  pub faults : ℕ
  pub calls : ℕ

-- a source, by the members of its trait
abbrev pub stream : {S : Type 0} → source.Ghosts S → S → Stream
stream t s = record { left = t.left s; faults = t.faults s; calls = t.calls s }

-- the input was read to its end from a source a that is b afterwards, and is within the limit; no call failed, and
-- there was at most one call more than bytes
pub record ReadWhole (a b : Stream) (input : List ℕ) : Type 0 where
  pub bytes : Took a.left b.left input
  pub end : AtEnd b.left
  pub fits : length input ≤ input_limit
  pub quiet : b.faults ≡ a.faults
  pub calls : b.calls ≤ a.calls + length input + 1

-- at most one byte more than the limit was read
abbrev pub TookLimited : Stream → Stream → Type 0
TookLimited a b = TookAtMost a.left b.left (input_limit + 1)

-- a call failed, the only one that did, after at most one byte more than the limit was read
abbrev pub FailsReading : Stream → Stream → Type 0
FailsReading a b = (b.faults ≡ one_more a.faults) × TookLimited a b

-- no call failed, and at most one byte more than the limit was read
abbrev pub ReadsLimited : Stream → Stream → Type 0
ReadsLimited a b = (b.faults ≡ a.faults) × TookLimited a b

-- why an input was rejected while it was read: too long, a fault of the source, or out of memory, in which case no call
-- failed
abbrev pub RejectsRead : Stream → Stream → Rejection → Type 0
RejectsRead a b (rejection.Refusal line) = TookMore a.left b.left input_limit × ReadsLimited a b × (line.items ≡ too_long)
RejectsRead a b rejection.ReadFault = FailsReading a b
RejectsRead a b rejection.NoMemory = ReadsLimited a b

-- why an input that was read is rejected: by a line with this property, or out of memory
abbrev pub Rejects : (List ℕ → Type 0) → Rejection → Type 0
Rejects Is (rejection.Refusal line) = Is line.items
Rejects Is rejection.ReadFault = ⊥
Rejects Is rejection.NoMemory = ⊤

-- the line that refuses a deck
abbrev pub refused_deck : Result (List (ℕ × DeckLine)) (ℕ × DeckCause) → List ℕ → Type 0
refused_deck (Ok lines) line = ⊥
refused_deck (Err e) line = line ≡ deck_line e

-- these bytes are all that a source had left, if it records them
abbrev pub IsAll : Option (List ℕ) → List ℕ → Type 0
IsAll None input = ⊤
IsAll (Some bytes) input = bytes ≡ input
