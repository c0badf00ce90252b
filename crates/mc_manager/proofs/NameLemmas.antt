-- Names that no application on a card has.
use Rattle.std.proofs.Common.{◌≡◌, ℕ, List, [], ◌∷◌, None, refl, subst, arith}
use Rattle.std.specs.List.{AllByRecursion}
use Rattle.mc_words.specs.Name.{IsName}
use Rattle.model_card.specs.model_device.specs.Bytes.{lookup}
use Rattle.model_card.specs.model_device.specs.Card.{App}
use Rattle.mc_bank.specs.Bank.{IsApplication, AreApps}
use Rattle.model_card.specs.model_device.proofs.MapLemmas.{same_name}

-- no entry has bytes as its name that are not a name
pub not_among : (apps : List (List ℕ × App)) (n : List ℕ) → AllByRecursion IsApplication apps → (IsName n → ⊥) → lookup apps n ≡ None
not_among [] n h other = refl
not_among (e ∷ es) n h other = grind (arith, not_among es n h.1 other, same_name e.0 n, λ (p : e.0 ≡ n). other (subst IsName p h.0.name))

-- bytes that are not a name are not on the card
pub no_other_names : (apps : List (List ℕ × App)) (n : List ℕ) → AreApps apps → (IsName n → ⊥) → lookup apps n ≡ None
no_other_names apps n h other = not_among apps n h.each other
