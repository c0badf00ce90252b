-- What a stop in the device writes of an item leaves of a card.
use Rattle.std.specs.Prelude.{ℕ, cond, List, length}
use Rattle.mc_words.specs.model_device.specs.Image.{Two}
use Rattle.mc_words.specs.model_device.specs.Stopped.{stands, owes}
use Rattle.mc_words.specs.model_device.specs.Card.{Card, means}
use Rattle.mc_words.specs.model_device.specs.Layout.{step_of}
use Rattle.mc_bank.specs.model_card.specs.Items.{BankItem, Piece, Blank, Note, Commit, Enter, Remove}
use Rattle.mc_words.specs.model_device.specs.PowerUp.{OnCard}
use Rattle.mc_bank.specs.Bank.{item_done}
use Rattle.mc_store.specs.Store.{part_in, card_with, card_without}
use Rattle.mc_store.specs.Power.{HoldsBase}

-- the card after an item
abbrev pub card_after : List (List ℕ) → BankItem → Card
card_after m i = record (means m) { apps = item_done (part_in m) i (means m).apps }

-- an atomic write of a list that was stopped at its write k, which left x: the new card if it is durable, and the
-- writes that recovery still has to make
abbrev pub IsTornAt : List (List ℕ) → BankItem → ℕ → ℕ → List ℕ → List (List ℕ) → Type 0
IsTornAt m i w k x e = HoldsBase (OnCard (cond (stands Two w k x) (card_after m i) (means m))) (owes Two w k x) Two e

-- what a stop at write k of an item, which left x, makes of words m
abbrev pub IsStoppedAt : List (List ℕ) → BankItem → ℕ → List ℕ → List (List ℕ) → Type 0
IsStoppedAt m (Piece s p at b) k x e = HoldsBase (OnCard (means m)) 0 Two e
IsStoppedAt m (Blank s at n) k x e = HoldsBase (OnCard (means m)) 0 Two e
IsStoppedAt m (Note s n i) k x e = HoldsBase (OnCard (means m)) 0 Two e
IsStoppedAt m (Commit n ws) k x e = IsTornAt m (Commit n ws) (length ws) k x e
IsStoppedAt m (Enter s n) k x e = IsTornAt m (Enter s n) (length (step_of (means m) (card_with m s n))) k x e
IsStoppedAt m (Remove n) k x e = IsTornAt m (Remove n) (length (step_of (means m) (card_without m n))) k x e
