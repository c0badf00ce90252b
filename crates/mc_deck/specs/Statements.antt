-- Statements as the code has them, and the statements of the grammar that they are.
use Rattle.std.specs.Prelude.{◌≡◌, ℕ, ◌<◌, ◌≤◌, Bool, true, false, List, [], length, take, drop}
use Rattle.model_play.specs.DeckGrammar
use Rattle.model_play.specs.DeckGrammar.{Context, Stated, Says, Opens, with_unit}
use Rattle.mc_deck.specs.declared.unit.OwnedUnit.{OwnedUnit}
use Rattle.mc_deck.specs.declared.line.OwnedLine.{OwnedLine}
use Rattle.mc_deck.specs.declared.names.Names.{Names}
use Rattle.mc_deck.specs.declared.statement.Keyword.{Keyword}
use Rattle.mc_deck.specs.declared.statement.Statement.{Statement}
use Rattle.mc_deck.specs.Lines.{grammar_line, owned_parts, GoodUnit, NumberWithin}
use Rattle.mc_deck.specs.Contexts.{AreNames}

-- the word of the grammar that the word of a statement is
abbrev pub keyword_of : Keyword → DeckGrammar.Word
keyword_of Keyword.Format = DeckGrammar.FormatWord
keyword_of Keyword.Power = DeckGrammar.PowerWord
keyword_of Keyword.Unit = DeckGrammar.UnitWord
keyword_of Keyword.App = DeckGrammar.AppWord
keyword_of Keyword.Load = DeckGrammar.LoadWord
keyword_of Keyword.Select = DeckGrammar.SelectWord
keyword_of Keyword.Delete = DeckGrammar.DeleteWord
keyword_of Keyword.Dump = DeckGrammar.DumpWord
keyword_of Keyword.Apdu = DeckGrammar.ApduWord
keyword_of Keyword.Budget = DeckGrammar.BudgetWord
keyword_of Keyword.Cut = DeckGrammar.CutWord
keyword_of Keyword.Fail = DeckGrammar.FailWord
keyword_of Keyword.Poke = DeckGrammar.PokeWord

-- the words of the first seven statements
abbrev pub first_words : List (List ℕ × DeckGrammar.Word)
first_words = take 7 DeckGrammar.deck_words

-- the words of the other statements
abbrev pub second_words : List (List ℕ × DeckGrammar.Word)
second_words = drop 7 DeckGrammar.deck_words

-- the named units, and the `power` before, are those of the context
pub record InContext (names : Names) (powered : Bool) (c : Context) : Type 0 where
  pub named : AreNames names.places names.units.items c.units
  pub power : powered ≡ c.powered

-- the statement of the grammar that a statement at line n is
abbrev pub grammar_statement : List OwnedUnit → Context → ℕ → Statement → Stated
grammar_statement us c n (Statement.Line l) = Says (grammar_line us l) c
grammar_statement us c n Statement.Power = Says DeckGrammar.Power (record c { powered = true })
grammar_statement us c n (Statement.Unit name u) = Says DeckGrammar.Named (with_unit c name.now (owned_parts u))
grammar_statement us c n (Statement.Section name aid) = Opens (record { first = n; name = name.now; aid = aid; lines = [] }) c

-- the fields of an owned line are in their ranges
abbrev pub Ranged : OwnedLine → Type 0
Ranged OwnedLine.Format = Unit {0}
Ranged OwnedLine.Power = Unit {0}
Ranged OwnedLine.Named = Unit {0}
Ranged (OwnedLine.Load i fixed session) = (fixed ≤ 65535) × (session ≤ 65535)
Ranged (OwnedLine.Select a) = NumberWithin 5 16 (length a)
Ranged (OwnedLine.Delete a) = NumberWithin 5 16 (length a)
Ranged (OwnedLine.Dump a) = NumberWithin 5 16 (length a)
Ranged (OwnedLine.Short b) = 0 < length b
Ranged (OwnedLine.Apdu b) = 0 < length b
Ranged (OwnedLine.Budget n) = NumberWithin 1 65536 n
Ranged (OwnedLine.Cut k fill) = NumberWithin 1 4294967295 k × (length fill ≡ 8)
Ranged (OwnedLine.Fail k) = NumberWithin 1 4294967295 k
Ranged (OwnedLine.Poke at fill) = (at ≤ 16383) × (length fill ≡ 8)

-- an owned line that is no `power` is valid after n named units, and after a `power` or before any, by the flag
abbrev pub LineInRange : ℕ → Bool → OwnedLine → Type 0
LineInRange n powered OwnedLine.Format = powered ≡ false
LineInRange n powered OwnedLine.Power = ⊥
LineInRange n powered (OwnedLine.Load i fixed session) = i < n
LineInRange n powered (OwnedLine.Poke at fill) = powered ≡ false
LineInRange n powered l = Unit {0}

-- the fields of a statement are in their ranges
abbrev pub StatementFits : ℕ → Bool → Statement → Type 0
StatementFits n powered (Statement.Line l) = Ranged l × LineInRange n powered l
StatementFits n powered Statement.Power = Unit {0}
StatementFits n powered (Statement.Unit name u) = GoodUnit (owned_parts u)
StatementFits n powered (Statement.Section name aid) = Unit {0}
