-- The state of the reader between two lines, and after one more line.
use Rattle.std.specs.Prelude.{◌≡◌, ℕ, Bool, false, cond, List, [], ◌∷◌, ◌++◌, length, Option, Some, None, ok_or, Result, Ok}
use Rattle.std.specs.List.{AllByRecursion}
use Rattle.std.specs.BTreeMap.{BTreeMap}
use denote.Ref.{Bor}
use Rattle.model_play.specs.model_device.specs.Bytes.{lookup}
use Rattle.model_play.specs.model_text.specs.Text.{◌>>=◌, ok_as, err_as, begins}
use Rattle.model_play.specs.DeckGrammar.{DeckLine, Context, Stated, LineTurn, Mode, Between, Within, deck_words, statement_of}
use Rattle.model_play.specs.declared.deck.DeckCause.{DeckCause}
use Rattle.model_play.specs.declared.deck.DeckCause.TheVariants.{BadLine}
use Rattle.mc_deck.specs.declared.unit.OwnedUnit.{OwnedUnit}
use Rattle.mc_deck.specs.declared.line.OwnedLine.{OwnedLine}
use Rattle.mc_deck.specs.declared.section.Section.{Section}
use Rattle.mc_deck.specs.declared.reading.Reader.{Reader}
use Rattle.mc_deck.specs.Lines.{said_lines, owned_parts, is_powered_after_line, UnitWithin, GoodUnit, AreDeck}
use Rattle.mc_deck.specs.Contexts.{AreNames}
use Rattle.mc_deck.specs.Sections.{section_of}

-- the statement of a line's fields, or `None` if the line is skipped
abbrev pub line_stated : Context → ℕ → List (List ℕ) → Result (Option Stated) (ℕ × DeckCause)
line_stated c n [] = Ok None
line_stated c n (word ∷ rest) = cond (begins 35 word) (Ok None) (err_as (λ e. (n, e)) (ok_or (lookup deck_words word) BadLine >>= λ w. ok_as Some (statement_of c n w rest)))

-- whether a `power` came before, after more lines
abbrev pub is_powered_after : Bool → List (ℕ × DeckLine) → Bool
is_powered_after powered [] = powered
is_powered_after powered (l ∷ ls) = is_powered_after (is_powered_after_line powered l.1) ls

-- the names, the units, the `power` and the lines of a reader are those of a context and of the lines of a deck
pub record StandsBy (m : BTreeMap (Bor (List ℕ)) ℕ) (us : List OwnedUnit) (powered : Bool) (ls : List (ℕ × OwnedLine)) (c : Context) : Type 0 where
  pub named : AreNames m us c.units
  pub power : powered ≡ c.powered
  pub good : AllByRecursion (λ u. GoodUnit (owned_parts u)) us
  pub inside : AllByRecursion (λ l. UnitWithin (length us) l.1) ls
  pub deck : AreDeck (said_lines us ls)
  pub last : is_powered_after false (said_lines us ls) ≡ powered

-- the names, the units, the `power` and the lines of a reader are those of a context
abbrev pub StandsForContext : Reader → Context → Type 0
StandsForContext r c = StandsBy r.names.places r.names.units.items r.powered r.lines.items c

-- the lines that a reader has read so far
abbrev pub lines_of : Reader → List (ℕ × DeckLine)
lines_of r = said_lines r.names.units.items r.lines.items

-- the mode of a reader: between statements, or in a section that is open
abbrev pub mode_of : Option Section → Context → Mode
mode_of None c = Between c
mode_of (Some s) c = Within (section_of s) c

-- the reader after the turn of a line: its context, its lines and its mode
pub record TurnTaken (old new : Reader) (section : Option Section) (t : LineTurn) : Type 0 where
  pub context : Context
  pub stands : StandsForContext new context
  pub lines : lines_of new ≡ lines_of old ++ t.lines
  pub mode : t.mode ≡ mode_of section context

-- a line was accepted, and its turn was done
pub record LineTurned (old new : Reader) (section : Option Section) (r : Result LineTurn (ℕ × DeckCause)) : Type 0 where
  pub turn : LineTurn
  pub is : r ≡ Ok turn
  pub took : TurnTaken old new section turn
