-- What holds of plain items before others, from what holds of those.
use Rattle.std.proofs.Common.{◌≡◌, ℕ, zero, suc, ◌+◌, List, ◌∷◌, refl, arith}
use Rattle.model_card.specs.model_device.specs.Card.{App}
use Rattle.model_card.specs.Items.{Item, Plain, moves, apps_after_items}
use Rattle.law_manager.specs.OnCard.{plains}

-- a property that a plain item does not change
pub plains_are : (P : List Item → Type 0) → ((is : List Item) → P is → P (Plain ∷ is)) → (n : ℕ) (is : List Item) → P is → P (plains n is)
plains_are P next zero is h = h
plains_are P next (suc n) is h = next (plains n is) (plains_are P next n is h)

-- plain items before others change no application
pub plains_done : (apps : List (List ℕ × App)) (n : ℕ) (is : List Item) → apps_after_items apps (plains n is) ≡ apps_after_items apps is
plains_done apps zero is = refl
plains_done apps (suc n) is = plains_done apps n is

-- each plain item before others makes one device write
pub plains_moves : (n : ℕ) (is : List Item) → moves (plains n is) ≡ n + moves is
plains_moves zero is = omega arith
plains_moves (suc n) is = let rest = plains_moves n is in omega (arith, rest)
