-- How often one word is written: by the items of a line, by a line, and by a play.
use Rattle.std.specs.Prelude.{◌≡◌, ℕ, ◌+◌, ◌*◌, ◌≤◌, Bool, true, false, cond, nat_le, ◌==◌, List, [], ◌∷◌, ◌++◌, length, take}
use Rattle.law_family.specs.model_device.specs.Image.{Journal, One, Two, gate}
use Rattle.law_family.specs.model_device.specs.Stopped.{replay, writes, IsAtomic}
use Rattle.law_family.specs.model_device.specs.Card.{heap_start}
use Rattle.law_family.specs.model_device.specs.Layout.{fault}
use Rattle.law_family.specs.model_device.specs.PowerUp.{Base, base_of, migration}
use Rattle.law_family.specs.model_card.specs.Items.{Change, Item, Plain, Atomic}
use Rattle.law_family.specs.model_play.specs.Given.{is_power}
use Rattle.law_family.specs.model_play.specs.Play.{State, BeforePower, AfterPower, Step}
use Rattle.law_wear.specs.Laws.{instructions}
use Rattle.law_wear.specs.Most.{most_atomic}

-- ---- the device writes of items

-- the device writes of items, in order, on a device of `size` words: a plain write is one of any word of the heap, and
-- an atomic write of n words is one through journal 2 of any n words that such a write may have. Which words these are
-- depends on where the card's applications lie, and no item says it
pub data MadeOf (size : ℕ) : List Item → List (ℕ × List ℕ) → Type 0 where
  NoItems : MadeOf size [] []
  PlainFirst : (p : ℕ × List ℕ) (is : List Item) (ws : List (ℕ × List ℕ)) → heap_start ≤ p.0 → MadeOf size is ws → MadeOf size (Plain ∷ is) (p ∷ ws)
  AtomicFirst : (list : List (ℕ × List ℕ)) (c : Change) (is : List Item) (ws : List (ℕ × List ℕ)) → IsAtomic size list → MadeOf size is ws
      → MadeOf size (Atomic (length list) c ∷ is) (writes Two list ++ ws)

-- the number of plain writes among items
abbrev pub plain_writes : List Item → ℕ
plain_writes [] = 0
plain_writes (Plain ∷ is) = 1 + plain_writes is
plain_writes (Atomic w c ∷ is) = plain_writes is

-- twice each, or once
abbrev pub twice_if : Bool → ℕ → ℕ
twice_if true n = 2 * n
twice_if false n = n

-- the most that n atomic writes write a word: the gate twice each, any other once each
abbrev pub most_by_atomic : ℕ → ℕ → ℕ
most_by_atomic p n = twice_if (p == gate Two) n

-- the most that n plain writes write a word: a word of the heap once each, any other never
abbrev pub most_by_plain : ℕ → ℕ → ℕ
most_by_plain p n = cond (nat_le heap_start p) n 0

-- ---- the device writes of lines

-- the card or fault of a state; before the first power line the one that this line finds
abbrev pub base_before : State → Base
base_before (BeforePower m b a) = base_of (fault m) m
base_before (AfterPower s) = s.base

-- the writes of a recovery that the card wrote its journal for: none, or those of one atomic write
pub data MadeByRecovery (size : ℕ) : List (ℕ × List ℕ) → Type 0 where
  NothingLeft : MadeByRecovery size []
  Replayed : (j : Journal) (list : List (ℕ × List ℕ)) → IsAtomic size list → MadeByRecovery size (replay j list)

-- the writes of a migration, if there is one: an atomic write through journal 1
pub data MadeByMigration (size : ℕ) : Bool → List (ℕ × List ℕ) → Type 0 where
  NoMigration : MadeByMigration size false []
  Migrated : (list : List (ℕ × List ℕ)) → IsAtomic size list → MadeByMigration size true (writes One list)

-- whether the card of a state is still to be migrated
abbrev pub migrates : State → Bool
migrates z = nat_le 1 (migration (base_before z))

-- the device writes of a line: all that it may make up to the number that it made, which a stop may have ended
pub data MadeByLine (size : ℕ) (t : Step) : List (ℕ × List ℕ) → Type 0 where
  PowerLine : (recovery migration : List (ℕ × List ℕ)) → is_power t.line ≡ true → MadeByRecovery size recovery → MadeByMigration size (migrates t.before) migration → MadeByLine size t (take t.moves (recovery ++ migration))
  OtherLine : (all : List (ℕ × List ℕ)) → is_power t.line ≡ false → MadeOf size t.items all → MadeByLine size t (take t.moves all)

-- the most that the migration writes a word: its gate twice, any other once
abbrev pub most_by_migration : Bool → ℕ → ℕ
most_by_migration true p = twice_if (p == gate One) 1
most_by_migration false p = 0

-- the most that a line writes a word: of a power line once by a recovery, and what the migration does; of any other line
-- what its row of the table of atomic writes does, and its plain writes
abbrev pub most_of_line : Bool → ℕ → Step → ℕ
most_of_line true p t = 1 + most_by_migration (migrates t.before) p
most_of_line false p t = most_by_atomic p (most_atomic (instructions t.turns) t.line) + most_by_plain p (plain_writes t.items)

-- ---- plays

-- the device writes of a play, line by line
pub data MadeByPlay (size : ℕ) : List Step → List (ℕ × List ℕ) → Type 0 where
  NoLines : MadeByPlay size [] []
  LineFirst : (t : Step) (ts : List Step) (ws vs : List (ℕ × List ℕ)) → MadeByLine size t ws → MadeByPlay size ts vs → MadeByPlay size (t ∷ ts) (ws ++ vs)

-- the most that a play writes a word: the sum of its lines
abbrev pub most_of_word : ℕ → List Step → ℕ
most_of_word p [] = 0
most_of_word p (t ∷ ts) = most_of_line (is_power t.line) p t + most_of_word p ts
