-- The static segment of an application of a card, in its bank.
use Rattle.std.proofs.Common.{arith, ◌≡◌, ℕ, true, false, List, length, Option, Some, None, sym, ◌∙◌, ap}
use Rattle.std.specs.Prelude.{is_some, option_map, unwrap_or, IsSome}
use Rattle.mc_words.specs.model_device.specs.Bytes.{lookup}
use Rattle.mc_words.specs.model_device.specs.Device.{DeviceState}
use Rattle.mc_words.specs.model_device.specs.Card.{App, means}
use Rattle.mc_bank.specs.model_card.specs.declared.card.Sizes.{Sizes}
use Rattle.mc_bank.specs.Bank.{no_app, app_of, sizes_of}
use Rattle.mc_store.specs.Store.{apps_in, is_going, store_named}
use Rattle.mc_store.specs.GoingLaws.{going_is}
use Rattle.mc_store.specs.TurnLaws.{SiteBytes, site_bytes_of}
use Rattle.mc_words.specs.model_device.proofs.BoolLemmas.{no_value}

-- the applications of a bank that has not stopped are those of the card
pub going_apps : (d : DeviceState) (c : ℕ) → is_going d c ≡ true → apps_in d.words ≡ (means d.words).apps
going_apps d c h = let t : SiteBytes d.words = site_bytes_of d c (going_is d c h) in t.map ∙ sym t.apps

-- the application in a slot
pub slot_app : (d : DeviceState) (c k : ℕ) (n : List ℕ) → is_going d c ≡ true → store_named d k ≡ Some n → app_of (apps_in d.words) (store_named d k) ≡ app_of (means d.words).apps (Some n)
slot_app d c k n going named = ap (app_of (apps_in d.words)) named ∙ ap (λ (es : List (List ℕ × App)). app_of es (Some n)) (going_apps d c going)

-- a name that the bank does not find is not on the card
pub not_there : (d : DeviceState) (c : ℕ) (n : List ℕ) → is_going d c ≡ true → is_some (lookup (apps_in d.words) n) ≡ false → lookup (means d.words).apps n ≡ None
not_there d c n going h = ap (λ (es : List (List ℕ × App)). lookup es n) (sym (going_apps d c going)) ∙ no_value (lookup (apps_in d.words) n) h

pub none_there : (o : Option App) → o ≡ None → IsSome o → ⊥
none_there None e h = absurd (cc h)
none_there (Some a) e h = absurd (cc e)

found_is : (es : List (List ℕ × App)) (n : List ℕ) (o : Option App) → o ≡ lookup es n → is_some o ≡ true → Some (length (app_of es (Some n)).fixed) ≡ option_map (λ (a : App). length a.fixed) o
found_is es n None is h = absurd (cc h)
found_is es n (Some a) is h = ap (λ (x : Option App). Some (length (unwrap_or x no_app).fixed)) (sym is)

-- the length of the static segment of a name that the bank finds
pub found_length : (d : DeviceState) (c k : ℕ) (n : List ℕ) (sizes : Sizes) → is_going d c ≡ true → is_some (lookup (apps_in d.words) n) ≡ true → store_named d k ≡ Some n → sizes ≡ sizes_of (app_of (apps_in d.words) (store_named d k))
    → Some sizes.fixed ≡ option_map (λ (a : App). length a.fixed) (lookup (means d.words).apps n)
found_length d c k n sizes going there named is = grind (arith, slot_app, found_is, going_apps)
