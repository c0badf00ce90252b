-- The device writes of items on a card, and the words that they leave with a stop at any of them and without one.
use Rattle.std.specs.Prelude.{◌≡◌, ℕ, zero, suc, ◌-◌, ◌≤◌, List, [], ◌∷◌, length, Ok, Err}
use Rattle.std.specs.List.{AllByRecursion}
use Rattle.mc_words.specs.model_device.specs.Orders.{Answer}
use Rattle.mc_words.specs.model_device.specs.Image.{Two}
use Rattle.mc_words.specs.model_device.specs.Device.{DeviceState, Makes}
use Rattle.mc_words.specs.model_device.specs.Stopped.{image_after_stop}
use Rattle.mc_words.specs.model_device.specs.Card.{Card}
use Rattle.mc_bank.specs.model_card.specs.Items.{Item, Stopped, weight, moves, card_done, at_stop}
use Rattle.mc_words.specs.model_device.specs.PowerUp.{OnCard}
use Rattle.mc_store.specs.Power.{HoldsBase}

-- words that hold the card after the complete items of a stop, and have the writes that recovery still has to make
abbrev pub IsCardAfterStop : Card → Stopped → List (List ℕ) → Type 0
IsCardAfterStop c s m = HoldsBase (OnCard (card_done c s.whole)) s.owed Two m

-- at every one of these writes a stop, whatever word it leaves, leaves words that hold the card after the items that
-- are complete then
abbrev pub StopsAtEach : Card → List Item → List (List ℕ) → List (ℕ × List ℕ) → Type 0
StopsAtEach c is m ws = (k : ℕ) (x : List ℕ) → 1 ≤ k → k ≤ length ws → length x ≡ 8 → IsCardAfterStop c (at_stop is k x) (image_after_stop m ws k x)

-- the number of device writes of items: all of them without a stop, and at most as many with one
abbrev pub CountsWrites : List Item → Answer → ℕ → Type 0
CountsWrites is (Ok u) n = n ≡ moves is
CountsWrites is (Err s) n = n ≤ moves is

-- words that hold the card after all items, if there was no stop
abbrev pub IsCardAfter : Card → List Item → Answer → List (List ℕ) → Type 0
IsCardAfter c is (Ok u) m = HoldsBase (OnCard (card_done c is)) 0 Two m
IsCardAfter c is (Err s) m = Unit {0}

-- items done on a card in the words of a device, with the device writes that were tried, in order
pub record ItemsMade {D : Type 0} (state : D → DeviceState) (wrote : D → ℕ → List ℕ → Answer → D → Type 0) (c : Card) (is : List Item) (d : D) (a : Answer) (e : D) : Type 0 where
  pub writes : List (ℕ × List ℕ)
  pub makes : Makes wrote d writes a e
  pub number : CountsWrites is a (length writes)
  pub stops : StopsAtEach c is (state d).words writes
  pub done : IsCardAfter c is a (state e).words

-- the items that the first `n` device writes belong to: those that were begun
abbrev pub begun : ℕ → List Item → List Item
begun zero is = []
begun (suc n) [] = []
begun (suc n) (i ∷ is) = i ∷ begun (suc n - weight i) is

-- items of which each that was begun makes at most `most` device writes, with the writes that were tried, in order
pub record MadeWithin {D : Type 0} (wrote : D → ℕ → List ℕ → Answer → D → Type 0) (most : ℕ) (is : List Item) (d : D) (a : Answer) (e : D) : Type 0 where
  pub writes : List (ℕ × List ℕ)
  pub makes : Makes wrote d writes a e
  pub number : CountsWrites is a (length writes)
  pub few : AllByRecursion (λ i. weight i ≤ most) (begun (length writes) is)
