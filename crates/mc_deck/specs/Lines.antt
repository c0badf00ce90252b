-- The lines of a deck as the code has them, and the lines of the grammar that they are.
use Rattle.std.specs.Prelude.{◌≡◌, ℕ, ◌<◌, ◌≤◌, Bool, true, false, List, [], ◌∷◌, length, map, slice_index_or, Ok}
use Rattle.std.specs.List.{AllByRecursion}
use Rattle.model_play.specs.model_device.specs.Bytes.{zeros}
use Rattle.model_play.specs.model_card.specs.Units.{UnitParts, FitsUnit, name_of}
use Rattle.model_play.specs.DeckGrammar
use Rattle.model_play.specs.DeckGrammar.{DeckLine}
use Rattle.mc_unit.specs.Parts.{parts_of}
use Rattle.mc_deck.specs.declared.unit.OwnedUnit.{OwnedUnit}
use Rattle.mc_deck.specs.declared.line.Line.{Line}
use Rattle.mc_deck.specs.declared.line.OwnedLine.{OwnedLine}

-- ---- a borrowed line

-- the parts of a unit
abbrev pub owned_parts : OwnedUnit → UnitParts
owned_parts u = record { number = u.number; code = u.code; init = u.init; dir = u.dir; fci = u.fci; aid = u.aid }

-- the line of the grammar that a borrowed line is
abbrev pub line_of : Line → DeckLine
line_of Line.Format = DeckGrammar.Format
line_of Line.Power = DeckGrammar.Power
line_of Line.Named = DeckGrammar.Named
line_of (Line.Load u fixed session) = DeckGrammar.Sent (DeckGrammar.Load (parts_of u) fixed session)
line_of (Line.Select a) = DeckGrammar.Sent (DeckGrammar.Select a)
line_of (Line.Delete a) = DeckGrammar.Sent (DeckGrammar.Delete a)
line_of (Line.Dump a) = DeckGrammar.Dump a
line_of (Line.Apdu b) = DeckGrammar.Sent (DeckGrammar.Apdu b.now)
line_of (Line.Budget n) = DeckGrammar.Budget n
line_of (Line.Cut k fill) = DeckGrammar.Cut k fill
line_of (Line.Fail k) = DeckGrammar.Fail k
line_of (Line.Poke at fill) = DeckGrammar.Poke at fill

-- ---- an owned line

-- the default unit, for places beyond the units
abbrev pub no_unit : OwnedUnit
no_unit = record { number = []; code = []; init = []; dir = []; fci = []; aid = zeros 5 }

-- the parts of the unit at a place
abbrev pub unit_at : List OwnedUnit → ℕ → UnitParts
unit_at us i = owned_parts (slice_index_or us i no_unit)

-- the line of the grammar that an owned line is, with the given named units
abbrev pub grammar_line : List OwnedUnit → OwnedLine → DeckLine
grammar_line us OwnedLine.Format = DeckGrammar.Format
grammar_line us OwnedLine.Power = DeckGrammar.Power
grammar_line us OwnedLine.Named = DeckGrammar.Named
grammar_line us (OwnedLine.Load i fixed session) = DeckGrammar.Sent (DeckGrammar.Load (unit_at us i) fixed session)
grammar_line us (OwnedLine.Select a) = DeckGrammar.Sent (DeckGrammar.Select a)
grammar_line us (OwnedLine.Delete a) = DeckGrammar.Sent (DeckGrammar.Delete a)
grammar_line us (OwnedLine.Dump a) = DeckGrammar.Dump a
grammar_line us (OwnedLine.Short b) = DeckGrammar.Sent (DeckGrammar.Apdu b)
grammar_line us (OwnedLine.Apdu b) = DeckGrammar.Sent (DeckGrammar.Apdu b)
grammar_line us (OwnedLine.Budget n) = DeckGrammar.Budget n
grammar_line us (OwnedLine.Cut k fill) = DeckGrammar.Cut k fill
grammar_line us (OwnedLine.Fail k) = DeckGrammar.Fail k
grammar_line us (OwnedLine.Poke at fill) = DeckGrammar.Poke at fill

-- the place of an owned line's unit is below n
abbrev pub UnitWithin : ℕ → OwnedLine → Type 0
UnitWithin n (OwnedLine.Load i fixed session) = i < n
UnitWithin n l = Unit {0}

-- the lines of the grammar that owned lines are, with their numbers
abbrev pub said_lines : List OwnedUnit → List (ℕ × OwnedLine) → List (ℕ × DeckLine)
said_lines us ls = map (λ l. (l.0, grammar_line us l.1)) ls

-- ---- what holds of every deck

-- a unit is within the limits, and has the name of its DIR record
pub record GoodUnit (u : UnitParts) : Type 0 where
  pub number : length u.number ≡ 8
  pub limits : FitsUnit u.code u.init u.dir u.fci
  pub name : name_of u.dir ≡ Ok u.aid

-- a number from low to high
abbrev pub NumberWithin : ℕ → ℕ → ℕ → Type 0
NumberWithin low high n = (low ≤ n) × (n ≤ high)

-- the fields of a line are in their ranges
abbrev pub GoodLine : DeckLine → Type 0
GoodLine DeckGrammar.Format = Unit {0}
GoodLine DeckGrammar.Power = Unit {0}
GoodLine DeckGrammar.Named = Unit {0}
GoodLine (DeckGrammar.Sent (DeckGrammar.Load u fixed session)) = GoodUnit u × (fixed ≤ 65535) × (session ≤ 65535)
GoodLine (DeckGrammar.Sent (DeckGrammar.Select a)) = NumberWithin 5 16 (length a)
GoodLine (DeckGrammar.Sent (DeckGrammar.Delete a)) = NumberWithin 5 16 (length a)
GoodLine (DeckGrammar.Dump a) = NumberWithin 5 16 (length a)
GoodLine (DeckGrammar.Sent (DeckGrammar.Apdu b)) = 0 < length b
GoodLine (DeckGrammar.Budget n) = NumberWithin 1 65536 n
GoodLine (DeckGrammar.Cut k fill) = NumberWithin 1 4294967295 k × (length fill ≡ 8)
GoodLine (DeckGrammar.Fail k) = NumberWithin 1 4294967295 k
GoodLine (DeckGrammar.Poke at fill) = (at ≤ 16383) × (length fill ≡ 8)

-- a line that is valid after a `power`, or before any, by the flag
abbrev pub Timely : Bool → DeckLine → Type 0
Timely powered DeckGrammar.Format = powered ≡ false
Timely powered (DeckGrammar.Poke at fill) = powered ≡ false
Timely powered l = Unit {0}

-- whether a `power` came before, after one more line
abbrev pub is_powered_after_line : Bool → DeckLine → Bool
is_powered_after_line powered DeckGrammar.Power = true
is_powered_after_line powered l = powered

-- no line is late
abbrev pub OnTime : Bool → List (ℕ × DeckLine) → Type 0
OnTime powered [] = Unit {0}
OnTime powered (l ∷ ls) = Timely powered l.1 × OnTime (is_powered_after_line powered l.1) ls

-- the lines of a deck: their fields are in their ranges, and none is late
pub record AreDeck (ls : List (ℕ × DeckLine)) : Type 0 where
  pub ranges : AllByRecursion (λ l. GoodLine l.1) ls
  pub times : OnTime false ls
