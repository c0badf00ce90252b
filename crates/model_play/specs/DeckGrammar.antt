-- The text of a deck: its statements, the sections that assemble an application, and the lines of the deck or the first
-- refusal.
use Rattle.std.specs.Prelude.{ℕ, Bool, true, false, cond, not, nat_lt, nat_le, ◌==◌, filter, List, [], ◌∷◌, ◌++◌, length, bytes_eq, codes, is_none, ok_or, Result, Ok, Err}
use Rattle.model_play.specs.declared.deck.DeckCause.{DeckCause}
use Rattle.model_play.specs.declared.deck.DeckCause.TheVariants.{TooManyLines, BadLine, BadName, BadHex, BadNumber, OutOfRange, NameTwice, UnknownName, LateLine, NoEnd}
use Rattle.model_play.specs.declared.deck.DeckCause.TheVariants as causes
use Rattle.model_card.specs.declared.unit.UnitRefusal.{UnitRefusal}
use Rattle.model_card.specs.declared.unit.UnitRefusal.TheVariants.{NoCode, TooLarge}
use Rattle.model_card.specs.model_device.specs.Bytes.{lookup, zeros}
use Rattle.model_text.specs.Text.{◌>>=◌, ok_as, err_as, only_if, begins, lines, with_numbers, fields, is_within, is_name, decimal_number, hex_bytes, is_end}
use Rattle.model_card.specs.Units.{UnitParts, unit_read, made_dir, made_fci}
use Rattle.model_text.specs.Assembly.{assembled_lines}

-- what a line sends to the card: the commands of a load, a SELECT, a DELETE, or one command as it is
pub data DeckCommand : Type 0 where
  Load : UnitParts → ℕ → ℕ → DeckCommand
  Select : List ℕ → DeckCommand
  Delete : List ℕ → DeckCommand
  Apdu : List ℕ → DeckCommand

-- a line of a deck: a statement that was read; Named is one that names a unit
pub data DeckLine : Type 0 where
  Format : DeckLine
  Power : DeckLine
  Named : DeckLine
  Sent : DeckCommand → DeckLine
  Dump : List ℕ → DeckLine
  Budget : ℕ → DeckLine
  Cut : ℕ → List ℕ → DeckLine
  Fail : ℕ → DeckLine
  Poke : ℕ → List ℕ → DeckLine

-- ---- fields

-- a field that is a name
abbrev pub name_field : List ℕ → Result (List ℕ) DeckCause
name_field t = only_if (is_name t) BadName t

-- a field of hexadecimal bytes
abbrev pub hex_field : List ℕ → Result (List ℕ) DeckCause
hex_field t = ok_or (hex_bytes t) BadHex

-- a field of `low` to `high` hexadecimal bytes
abbrev pub bytes_field : ℕ → ℕ → List ℕ → Result (List ℕ) DeckCause
bytes_field low high t = hex_field t >>= λ b. only_if (is_within low high (length b)) OutOfRange b

-- a field that is an AID
abbrev pub aid_field : List ℕ → Result (List ℕ) DeckCause
aid_field t = bytes_field 5 16 t

-- a field of eight bytes
abbrev pub fill_field : List ℕ → Result (List ℕ) DeckCause
fill_field t = bytes_field 8 8 t

-- a decimal number from `low` to `high`
abbrev pub number_field : ℕ → ℕ → List ℕ → Result ℕ DeckCause
number_field low high t = ok_or (decimal_number t) BadNumber >>= λ n. only_if (is_within low high n) OutOfRange n

-- ---- statements

-- the context of a line: the units that were named before it, and whether there was a `power` line
pub record Context : Type 0 where
  pub units : List (List ℕ × UnitParts)
  pub powered : Bool

-- a section that is open: the number of its first line, its name and AID, and its other lines so far, in order
pub record Section : Type 0 where
  pub first : ℕ
  pub name : List ℕ
  pub aid : List ℕ
  pub lines : List (ℕ × List ℕ)

-- after a statement: the line that it is, or the section that it opens, and the context
pub data Stated : Type 0 where
  Says : DeckLine → Context → Stated
  Opens : Section → Context → Stated

-- the words of the statements
pub data Word : Type 0 where
  FormatWord : Word
  PowerWord : Word
  UnitWord : Word
  AppWord : Word
  LoadWord : Word
  SelectWord : Word
  DeleteWord : Word
  DumpWord : Word
  ApduWord : Word
  BudgetWord : Word
  CutWord : Word
  FailWord : Word
  PokeWord : Word

-- the words of the statements
abbrev pub deck_words : List (List ℕ × Word)
deck_words =
    (codes "format", FormatWord) ∷
    (codes "power", PowerWord) ∷
    (codes "unit", UnitWord) ∷
    (codes "app", AppWord) ∷
    (codes "load", LoadWord) ∷
    (codes "select", SelectWord) ∷
    (codes "delete", DeleteWord) ∷
    (codes "dump", DumpWord) ∷
    (codes "apdu", ApduWord) ∷
    (codes "budget", BudgetWord) ∷
    (codes "cut", CutWord) ∷
    (codes "fail", FailWord) ∷
    (codes "poke", PokeWord) ∷ []

-- a name that no unit has
abbrev pub new_name : Context → List ℕ → Result (List ℕ) DeckCause
new_name c name = only_if (is_none (lookup c.units name)) NameTwice name

-- a line that has to come before each `power`
abbrev pub early : Context → DeckLine → Result Stated DeckCause
early c l = only_if (not c.powered) LateLine (Says l c)

-- the names with one more unit
abbrev pub with_unit : Context → List ℕ → UnitParts → Context
with_unit c name u = record c { units = (name, u) ∷ c.units }

-- a statement at line n, by its word and its fields
unfoldable pub statement_of : Context → ℕ → Word → List (List ℕ) → Result Stated DeckCause
unfolding unit_read
statement_of c n FormatWord [] = early c Format
statement_of c n PowerWord [] = Ok (Says Power (record c { powered = true }))
statement_of c n UnitWord (name ∷ hex ∷ []) = do
  name ← name_field name
  bytes ← hex_field hex
  name ← new_name c name
  u ← err_as causes.Unit (unit_read bytes)
  Ok (Says Named (with_unit c name u))
statement_of c n AppWord (name ∷ aid ∷ []) = do
  name ← name_field name
  aid ← aid_field aid
  name ← new_name c name
  Ok (Opens (record { first = n; name = name; aid = aid; lines = [] }) c)
statement_of c n LoadWord (name ∷ fixed ∷ session ∷ []) = do
  name ← name_field name
  fixed ← number_field 0 65535 fixed
  session ← number_field 0 65535 session
  u ← ok_or (lookup c.units name) UnknownName
  Ok (Says (Sent (Load u fixed session)) c)
statement_of c n SelectWord (aid ∷ []) = ok_as (λ a. Says (Sent (Select a)) c) (aid_field aid)
statement_of c n DeleteWord (aid ∷ []) = ok_as (λ a. Says (Sent (Delete a)) c) (aid_field aid)
statement_of c n DumpWord (aid ∷ []) = ok_as (λ a. Says (Dump a) c) (aid_field aid)
statement_of c n ApduWord (hex ∷ []) = ok_as (λ b. Says (Sent (Apdu b)) c) (hex_field hex)
statement_of c n BudgetWord (b ∷ []) = ok_as (λ b. Says (Budget b) c) (number_field 1 65536 b)
statement_of c n CutWord (k ∷ fill ∷ []) = do
  k ← number_field 1 4294967295 k
  fill ← fill_field fill
  Ok (Says (Cut k fill) c)
statement_of c n FailWord (k ∷ []) = ok_as (λ k. Says (Fail k) c) (number_field 1 4294967295 k)
statement_of c n PokeWord (at ∷ fill ∷ []) = do
  at ← number_field 0 16383 at
  fill ← fill_field fill
  early c (Poke at fill)
statement_of c n word fields = Err BadLine

-- ---- sections

-- a made unit: its code and its data, and the DIR and FCI of its AID
abbrev pub made_unit : List ℕ → List ℕ → List ℕ → UnitParts
made_unit aid code init = record { number = zeros 8; code = code; init = init; dir = made_dir aid; fci = made_fci aid; aid = aid }

-- a made unit within the limits
abbrev pub unit_within : UnitParts → Result UnitParts UnitRefusal
unit_within u = only_if (nat_lt 0 (length u.code)) NoCode u >>= λ u. only_if (nat_le (length u.init) 4096) TooLarge u

-- whether a line of a section is a DATA line
abbrev pub is_data : List (List ℕ) → Bool
is_data [] = false
is_data (word ∷ rest) = bytes_eq word (codes "DATA")

-- the bytes of a line `DATA HEX`, and none of any other line
abbrev pub data_hex : List (List ℕ) → Result (List ℕ) DeckCause
data_hex (word ∷ hex ∷ []) = hex_field hex
data_hex other = Err BadLine

-- the data of a line of a section
abbrev pub data_of_line : List (List ℕ) → Result (List ℕ) DeckCause
data_of_line l = cond (is_data l) (data_hex l) (Ok [])

-- the data of a section, and its lines for the assembler
abbrev pub section_data : List (ℕ × List ℕ) → Result (List ℕ) (ℕ × DeckCause)
section_data [] = Ok []
section_data (l ∷ ls) = do
  bytes ← err_as (λ e. (l.0, e)) (data_of_line (fields l.1))
  ok_as (λ rest. bytes ++ rest) (section_data ls)

-- the lines of a section that go to the assembler
abbrev pub section_program : List (ℕ × List ℕ) → List (ℕ × List ℕ)
section_program ls = filter (λ l. not (is_data (fields l.1))) ls

-- the unit of a section that ends at line n
unfoldable pub section_unit : Section → ℕ → Result UnitParts (ℕ × DeckCause)
unfolding assembled_lines
section_unit s n = do
  init ← section_data s.lines
  code ← err_as (λ e. (e.0, causes.Asm e.1)) (assembled_lines (section_program s.lines))
  err_as (λ e. (n, causes.Unit e)) (unit_within (made_unit s.aid code init))

-- ---- line by line

-- between statements, or within a section
pub data Mode : Type 0 where
  Between : Context → Mode
  Within : Section → Context → Mode

-- the result of a line: the lines that it adds to the deck, and the mode after it
pub record LineTurn : Type 0 where
  pub lines : List (ℕ × DeckLine)
  pub mode : Mode

-- what a statement makes of the lines
abbrev pub turn_of : ℕ → Stated → LineTurn
turn_of n (Says l c) = record { lines = (n, l) ∷ []; mode = Between c }
turn_of n (Opens s c) = record { lines = []; mode = Within s c }

-- a line between statements; one without a field, or whose first field begins with `#`, is skipped
abbrev pub between : Context → ℕ → List (List ℕ) → Result LineTurn (ℕ × DeckCause)
between c n [] = Ok (record { lines = []; mode = Between c })
between c n (word ∷ rest) =
    cond (begins 35 word) (Ok (record { lines = []; mode = Between c }))
    (err_as (λ e. (n, e)) (ok_or (lookup deck_words word) BadLine >>= λ w. ok_as (turn_of n) (statement_of c n w rest)))

-- a line of a section, which ends it or goes on
unfoldable pub within : Bool → Section → Context → ℕ × List ℕ → Result LineTurn (ℕ × DeckCause)
unfolding section_unit
within true s c l = ok_as (λ u. record { lines = (s.first, Named) ∷ []; mode = Between (with_unit c s.name u) }) (section_unit s l.0)
within false s c l = Ok (record { lines = []; mode = Within (record s { lines = s.lines ++ (l ∷ []) }) c })

-- a line between statements, or in a section
abbrev pub turn_in : Mode → ℕ × List ℕ → Result LineTurn (ℕ × DeckCause)
turn_in (Between c) l = between c l.0 (fields l.1)
turn_in (Within s c) l = within (is_end (fields l.1)) s c l

-- a line of a text, refused if it is line 20,001
abbrev pub turn_at : Bool → Mode → ℕ × List ℕ → Result LineTurn (ℕ × DeckCause)
turn_at true m l = Err (l.0, TooManyLines)
turn_at false m l = turn_in m l

-- the end of the text: a section may not be open
abbrev pub lines_at_end : Mode → Result (List (ℕ × DeckLine)) (ℕ × DeckCause)
lines_at_end (Between c) = Ok []
lines_at_end (Within s c) = Err (s.first, NoEnd)

-- the lines of a deck, or the first refusal
unfoldable pub deck_lines : Mode → List (ℕ × List ℕ) → Result (List (ℕ × DeckLine)) (ℕ × DeckCause)
unfolding statement_of within
deck_lines m [] = lines_at_end m
deck_lines m (l ∷ ls) = do
  t ← turn_at (l.0 == 20001) m l
  ok_as (λ rest. t.lines ++ rest) (deck_lines t.mode ls)

-- the lines of a deck, or the first refusal
unfoldable pub deck_read : List ℕ → Result (List (ℕ × DeckLine)) (ℕ × DeckCause)
unfolding deck_lines
deck_read text = deck_lines (Between (record { units = []; powered = false })) (with_numbers 1 (lines text))
