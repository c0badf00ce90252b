-- No chain of cuts makes a card unusable: once a card is sure to be there, every power line that no stop hits finds it.
use Rattle.std.specs.Prelude.{◌≡◌, ℕ, ◌≤◌, Bool, true, false, ◌&&◌, ◌||◌, not, List, [], ◌∷◌, length, Option, Some, None, ⊤}
use Rattle.std.specs.List.{AllByRecursion}
use Rattle.model_card.specs.model_device.specs.Bytes.{AreBytes}
use Rattle.model_card.specs.Items.{Item, Plain, Atomic, StopAt}
use Rattle.model_play.specs.Play.{State, BeforePower, AfterPower, LineResult, Formatted, Ready, Step}
use Rattle.model_play.specs.DeckGrammar.{DeckLine}
use Rattle.model_play.specs.DeckGrammar as line

-- ---- when a card is sure to be there

-- whether after a result a card is there: `ready`, or `formatted`
abbrev pub is_found : Option LineResult → Bool
is_found (Some (Ready n)) = true
is_found (Some Formatted) = true
is_found _ = false

-- whether a state is before the first power line
abbrev pub is_before_power : State → Bool
is_before_power (BeforePower m b a) = true
is_before_power (AfterPower s) = false

-- whether a line is a poke
abbrev pub is_poke : DeckLine → Bool
is_poke (line.Poke at x) = true
is_poke _ = false

-- whether a card is sure to be there after a line: it was found, or it was sure before and no poke could spoil it
abbrev pub sure_after : Bool → Step → Bool
sure_after sure t = is_found t.result || (not (is_poke t.line && is_before_power t.before) && sure)

-- ---- the result of a power line then

-- the greatest number of device writes of a power line: 65 of a recovery, and 6 of a migration
abbrev pub most_power_writes : ℕ
most_power_writes = 71

-- `ready`, with no more writes than that
abbrev pub IsReady : Option LineResult → Type 0
IsReady (Some (Ready n)) = n ≤ most_power_writes
IsReady _ = ⊥

-- a power line that no stop hit has that result
abbrev pub PowerIsReady : DeckLine → Option StopAt → Option LineResult → Type 0
PowerIsReady line.Power None r = IsReady r
PowerIsReady _ _ _ = ⊤

-- if a card is sure to be there before this line, it has that result, unless it is no power line or a stop hit it
abbrev pub ReadyLine : Bool → Step → Type 0
ReadyLine true t = PowerIsReady t.line t.stop t.result
ReadyLine false t = ⊤

-- each line of a play after the first that finds a card does so; `sure` is whether a card is sure to be there at its
-- start
abbrev pub ReadyAgain : Bool → List Step → Type 0
ReadyAgain sure [] = ⊤
ReadyAgain sure (t ∷ ts) = ReadyLine sure t × ReadyAgain (sure_after sure t) ts

-- ---- what a journal can hold

-- an item whose words fit a journal: at most 64
abbrev pub FitsJournal : Item → Type 0
FitsJournal Plain = ⊤
FitsJournal (Atomic w c) = w ≤ 64

-- each item of a play fits a journal
abbrev pub AllFitJournal : List Step → Type 0
AllFitJournal [] = ⊤
AllFitJournal (t ∷ ts) = AllByRecursion FitsJournal t.items × AllFitJournal ts

-- ---- lines of bytes

-- what a line carries is bytes, and a poke carries a word of eight
abbrev pub IsLine : DeckLine → Type 0
IsLine (line.Sent (line.Load u fixed session)) = AreBytes u.code × AreBytes u.init × AreBytes u.dir × AreBytes u.fci
IsLine (line.Sent (line.Select n)) = AreBytes n
IsLine (line.Sent (line.Delete n)) = AreBytes n
IsLine (line.Sent (line.Apdu b)) = AreBytes b
IsLine (line.Poke at x) = AreBytes x × (length x ≡ 8)
IsLine _ = ⊤

-- each line of a play carries bytes
abbrev pub AreLines : List Step → Type 0
AreLines [] = ⊤
AreLines (t ∷ ts) = IsLine t.line × AreLines ts
