-- The device writes of a command as items, where a stop falls in them, and the items of a bank with their contents.
use Rattle.std.specs.Prelude.{◌≡◌, ℕ, ◌+◌, ◌-◌, ◌*◌, Bool, true, false, cond, ◌&&◌, nat_le, ◌==◌, List, [], ◌∷◌, ◌++◌, length, map, option_map, Option, Some, None}
use Rattle.model_card.specs.declared.card.Part.{Part}
use Rattle.model_card.specs.declared.card.Sizes.{Sizes}
use Rattle.model_machine.specs.model_device.specs.declared.device.Stop.{Stop}
use Rattle.model_machine.specs.model_device.specs.Bytes.{lookup, insert, remove}
use Rattle.model_machine.specs.model_device.specs.Image.{Journal, Two}
use Rattle.model_machine.specs.model_device.specs.Stopped.{cost, stands, owes}
use Rattle.model_machine.specs.model_device.specs.Card.{App, Card}
use Rattle.model_machine.specs.Chain.{Write, map_changed}

-- how an atomic write changes the card
pub data Change : Type 0 where
  Fixed : (name : List ℕ) (pieces : List (ℕ × List ℕ)) → Change
  Created : (name : List ℕ) (app : App) → Change
  Deleted : (name : List ℕ) → Change

-- an item: one write into a hole, or an atomic write of some words
pub data Item : Type 0 where
  Plain : Item
  Atomic : (words : ℕ) (change : Change) → Item

-- the number of device writes of an item on a running card
abbrev pub weight : Item → ℕ
weight Plain = 1
weight (Atomic w c) = cost Two w

-- the number of device writes of items
abbrev pub moves : List Item → ℕ
moves [] = 0
moves (i ∷ is) = weight i + moves is

-- the atomic writes of a run as items
abbrev pub write_items : List Write → List Item
write_items ws = map (λ w. Atomic w.words (Fixed w.name w.pieces)) ws

-- ---- the applications after items

-- the applications after a change
abbrev pub apps_after_change : Change → List (List ℕ × App) → List (List ℕ × App)
apps_after_change (Fixed n ps) map = map_changed map n (Some ps)
apps_after_change (Created n a) map = insert map n a
apps_after_change (Deleted n) map = remove map n

-- the applications after items that are whole
abbrev pub apps_after_items : List (List ℕ × App) → List Item → List (List ℕ × App)
apps_after_items map [] = map
apps_after_items map (Plain ∷ is) = apps_after_items map is
apps_after_items map (Atomic w c ∷ is) = apps_after_items (apps_after_change c map) is

-- the card after items that are whole
abbrev pub card_done : Card → List Item → Card
card_done card is = record card { apps = apps_after_items card.apps is }

-- ---- stops

-- a stop at the write with this number, 1 or more: its kind, and the word that it leaves
pub record StopAt : Type 0 where
  pub kind : Stop
  pub at : ℕ
  pub left : List ℕ

-- the items that are whole after a stop, and the number of writes that recovery still has to make
pub record Stopped : Type 0 where
  pub whole : List Item
  pub owed : ℕ

-- a whole item before those of a stop
abbrev pub with_item : Item → Stopped → Stopped
with_item i s = record s { whole = i ∷ s.whole }

-- what a stop at write k, which leaves x, makes of the atomic write in flight: it is whole if it is durable
abbrev pub in_flight : ℕ → Change → ℕ → List ℕ → Stopped
in_flight w c k x = record { whole = cond (stands Two w k x) (Atomic w c ∷ []) []; owed = owes Two w k x }

-- what a stop at write k that leaves x makes of items, for k from 1 to the number of their device writes
abbrev pub at_stop : List Item → ℕ → List ℕ → Stopped
at_stop [] k x = record { whole = []; owed = 0 }
at_stop (Plain ∷ is) k x = cond (k == 1) (record { whole = []; owed = 0 }) (with_item Plain (at_stop is (k - 1) x))
at_stop (Atomic w c ∷ is) k x = cond (nat_le k (cost Two w)) (in_flight w c k x) (with_item (Atomic w c) (at_stop is (k - cost Two w) x))

-- ---- a bank

-- the site of an open load, where its sections are filled: its sizes, and its place on a bank that has places
pub record Site : Type 0 where
  pub sizes : Sizes
  pub place : ℕ

-- an item of a bank with its contents: bytes of one word of a section, zeros after the data in one word, a record word
-- (0 to 3), the words of a commit, a creation, a deletion
pub data BankItem : Type 0 where
  Piece : (site : Site) (part : Part) (at : ℕ) (bytes : List ℕ) → BankItem
  Blank : (site : Site) (at : ℕ) (count : ℕ) → BankItem
  Note : (site : Site) (name : List ℕ) (number : ℕ) → BankItem
  Commit : (name : List ℕ) (words : List (ℕ × List ℕ)) → BankItem
  Enter : (site : Site) (name : List ℕ) → BankItem
  Remove : (name : List ℕ) → BankItem
