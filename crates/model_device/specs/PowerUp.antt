-- What a power-up finds in the words of a device, and the number of writes of the migration from layout 1 to layout 2.
use Rattle.std.specs.Prelude.{ℕ, cond, ◌==◌, List, Option, Some, None}
use Rattle.model_device.specs.declared.cause.Cause.{Cause}
use Rattle.model_device.specs.Image.{Journal, One, Which, Both, Only, Neither}
use Rattle.model_device.specs.Card.{Card, means}

-- what the first power-up finds: a card, or the first fault and its place
pub data Base : Type 0 where
  OnCard : (card : Card) → Base
  AtFault : (cause : Cause) (place : ℕ) → Base

-- the number of device writes of the migration to layout 2
abbrev pub migration : Base → ℕ
migration (OnCard c) = cond (c.layout == 1) 6 0
migration (AtFault cause p) = 0

-- a base whose card has layout 2
abbrev pub base_after_migration : Base → Base
base_after_migration (OnCard c) = OnCard (record c { layout = 2 })
base_after_migration (AtFault cause p) = AtFault cause p

-- what the first power-up finds, from the first fault of the words, if there is one
abbrev pub base_of : Option (Cause × ℕ) → List (List ℕ) → Base
base_of None m = OnCard (means m)
base_of (Some f) m = AtFault f.0 f.1

-- the journal whose writes recovery still has to make, and journal 1 if there are none
abbrev pub pending_journal : Which → Journal
pending_journal (Only j) = j
pending_journal Both = One
pending_journal Neither = One
