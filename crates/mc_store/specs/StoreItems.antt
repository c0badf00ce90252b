-- Items of a store as a value, and the application of a slot.
use Rattle.std.proofs.Common.{◌≡◌, ℕ, Bool, true, false, List, [], ◌∷◌, length, map, Some, Ok, Err, cond, refl, sym, ◌∙◌, ap, subst, inl, inr}
use Rattle.std.specs.Prelude.{◌==◌, bytes_eq, IsSome}
use Rattle.std.proofs.lemmas.Bool.{eqb-true}
use Rattle.mc_words.specs.model_device.specs.Orders.{Answer, InOrder}
use Rattle.mc_words.specs.model_device.specs.Bytes.{lookup}
use Rattle.mc_words.specs.model_device.specs.Device.{DeviceState, IsSized}
use Rattle.mc_words.specs.model_device.specs.Card.{App, means}
use Rattle.mc_bank.specs.model_card.specs.Items.{Site, BankItem, Blank}
use Rattle.mc_bank.specs.model_card.specs.Manager.{word_parts}
use Rattle.mc_blocks.proofs.Maps.{OneAt}
use Rattle.mc_blocks.proofs.Applications.{found_application}
use Rattle.mc_store.specs.declared.store.Store.{Store}
use Rattle.mc_store.specs.Store.{name_of_place, apps_in, StoreDid}
use Rattle.mc_store.specs.GoingLaws.{Going}
use Rattle.mc_store.specs.TurnLaws.{SiteBytes, site_bytes_of}
use Rattle.mc_words.specs.model_device.proofs.MapLemmas.{name_is_itself}
use Rattle.mc_words.specs.model_device.proofs.BoolLemmas.{some_is}

-- one item of a store as a value
abbrev pub store_did : {N : Type 0} → (N → DeviceState) → (N → ℕ → List ℕ → Answer → N → Type 0) → Store N → BankItem → Answer → Store N → Type 0
store_did state wrote s i a e = StoreDid state wrote s.device s.count i a e.device e.count

-- a list of one item
pub one_item : {D I : Type 0} → (one : D → I → Answer → D → Type 0) → (d e : D) (i : I) (a : Answer) → one d i a e → InOrder one d (i ∷ []) a e
one_item one d e i (Ok u) h = inl (e, h, refl)
one_item one d e i (Err s) h = inr (s, h, refl)

-- the items of the zeros after the data, from byte `at` of a section on
abbrev pub blank_items : Site → ℕ → List ℕ → List BankItem
blank_items s at b = map (λ c. Blank s c.0 (length c.1)) (word_parts at b)

-- ---- slots

named_kind : (e : List ℕ × App) (es : List (List ℕ × App)) (k : ℕ) (n : List ℕ) (t s : Bool) → ((e.1).place == k) ≡ t → bytes_eq e.0 n ≡ s → cond t (Some e.0) (name_of_place es k) ≡ Some n → (name_of_place es k ≡ Some n → IsSome (lookup es n)) → IsSome (cond s (Some e.1) (lookup es n))
named_kind e es k n t true ht hs is rest = refl
named_kind e es k n true false ht hs is rest = let same : e.0 ≡ n = cc in absurd (cc (sym (ap (λ (x : List ℕ). bytes_eq x n) same ∙ name_is_itself n) ∙ hs))
named_kind e es k n false false ht hs is rest = rest is

pub named_there : (es : List (List ℕ × App)) (k : ℕ) (n : List ℕ) → name_of_place es k ≡ Some n → IsSome (lookup es n)
named_there [] k n is = absurd (cc is)
named_there (e ∷ es) k n is = named_kind e es k n ((e.1).place == k) (bytes_eq e.0 n) refl refl is (named_there es k n)

place_kind : (e : List ℕ × App) (es : List (List ℕ × App)) (k p : ℕ) (n : List ℕ) (t : Bool) → ((e.1).place == k) ≡ t → bytes_eq e.0 n ≡ ((e.1).place == p) → cond t (Some e.0) (name_of_place es k) ≡ Some n → (name_of_place es k ≡ Some n → k ≡ p) → k ≡ p
place_kind e es k p n true ht one is rest =
    let same : e.0 ≡ n = cc in
    sym (eqb-true (e.1).place k ht) ∙ eqb-true (e.1).place p (sym one ∙ ap (λ (x : List ℕ). bytes_eq x n) same ∙ name_is_itself n)
place_kind e es k p n false ht one is rest = rest is

place_of : (es : List (List ℕ × App)) (k p : ℕ) (n : List ℕ) → OneAt n p es → name_of_place es k ≡ Some n → k ≡ p
place_of [] k p n one is = absurd (cc is)
place_of (e ∷ es) k p n one is = place_kind e es k p n ((e.1).place == k) refl one.0 is (place_of es k p n one.1)

-- the application of a slot
pub record SlotIs (m : List (List ℕ)) (k : ℕ) (n : List ℕ) : Type 0 where
  pub app : App
  pub there : lookup (means m).apps n ≡ Some app
  pub place : app.place ≡ k
  pub one : OneAt n k (means m).apps

pub slot_is : (d : DeviceState) (c k : ℕ) (n : List ℕ) → IsSized d.words → Going d c → name_of_place (apps_in d.words) k ≡ Some n → SlotIs d.words k n
slot_is d c k n image g is =
    let m = d.words in
    let s : SiteBytes m = site_bytes_of d c g in
    let named : name_of_place (means m).apps k ≡ Some n = ap (λ (es : List (List ℕ × App)). name_of_place es k) (s.apps ∙ sym s.map) ∙ is in
    let found = some_is (lookup (means m).apps n) (named_there (means m).apps k n named) in
    let a = found.0 in
    let one : OneAt n a.place (means m).apps = (found_application m n a image g.closed s.well found.1).one in
    let place : k ≡ a.place = place_of (means m).apps k a.place n one named in
    record { app = a; there = found.1; place = sym place; one = subst (λ (p : ℕ). OneAt n p (means m).apps) (sym place) one }
