-- What a commit and a deletion do to a store as a bank.
use Rattle.std.proofs.Common.{arith, ◌≡◌, ◌≢◌, ℕ, true, false, not, List, Option, Some, Ok, Err, refl, sym, ◌∙◌, ap, inl, inr}
use Rattle.std.specs.Prelude.{◌⊎◌, IsSome, unwrap_or}
use Rattle.mc_words.specs.model_device.specs.Orders.{Answer}
use Rattle.mc_words.specs.model_device.specs.Bytes.{lookup, insert}
use Rattle.mc_words.specs.model_device.specs.Device.{DeviceState, IsSized, Wrote}
use Rattle.mc_words.specs.model_device.specs.Card.{App, means}
use Rattle.mc_bank.specs.model_card.specs.Items.{BankItem, Commit, Remove}
use Rattle.mc_bank.specs.Bank.{no_app, app_of, sizes_of, with_words, apps_after_commit, item_done}
use Rattle.mc_bank.specs.SlotLaws.{commit_sized}
use Rattle.mc_blocks.proofs.Maps.{OneAt}
use Rattle.mc_blocks.proofs.Applications.{found_application}
use Rattle.mc_store.specs.declared.store.Store.{Store}
use Rattle.mc_store.specs.Store.{apps_in, is_going, place_named, store_named, store_site_bytes, name_of_place}
use Rattle.mc_store.specs.GoingLaws.{Going, going_is}
use Rattle.mc_store.specs.PlaceLaws.{place_changed}
use Rattle.mc_store.specs.TurnLaws.{SiteBytes, site_bytes_of}
use Rattle.mc_store.specs.Laws.{store_obeys, store_keeps}
use Rattle.mc_store.specs.StoreItems.{store_did}
use Rattle.mc_words.specs.model_device.proofs.BoolLemmas.{some_is}

-- a store that is not stopped runs
pub running : (d : DeviceState) (c : ℕ) → not (is_going d c) ≡ false → is_going d c ≡ true
running d c h = grind arith

module _ {N : Type 0} (state : N → DeviceState) (wrote : N → ℕ → List ℕ → Answer → N → Type 0)
    (obeys : (d : N) (at : ℕ) (w : List ℕ) (a : Answer) (e : N) → (state d).on ≡ true → wrote d at w a e → Wrote (state d) at w a (state e)) where
  -- the applications after an item are the old ones or the new ones
  map_either : (s e : Store N) (i : BankItem) (a : Answer) → store_did state wrote s i a e
      → (apps_in (state e.device).words ≡ apps_in (state s.device).words) ⊎ (apps_in (state e.device).words ≡ item_done (store_site_bytes (state s.device)) i (apps_in (state s.device).words))
  map_either s e i (Ok tt) did = inr (store_obeys state wrote obeys s.device e.device s.count e.count i (Ok tt) did).apps
  map_either s e i (Err t) did = (store_obeys state wrote obeys s.device e.device s.count e.count i (Err t) did).apps

  places_stay : (s : Store N) (n : List ℕ) (ws : List (ℕ × List ℕ)) (k : ℕ) → IsSized (state s.device).words → is_going (state s.device) s.count ≡ true → IsSome (lookup (means (state s.device).words).apps n)
      → name_of_place (apps_after_commit (apps_in (state s.device).words) n ws) k ≡ name_of_place (apps_in (state s.device).words) k
  places_stay s n ws k image going there =
      let m = (state s.device).words in
      let g : Going (state s.device) s.count = going_is (state s.device) s.count going in
      let t : SiteBytes m = site_bytes_of (state s.device) s.count g in
      let found = some_is (lookup (means m).apps n) there in
      let x = found.0 in
      let app : app_of (means m).apps (Some n) ≡ x = ap (λ (o : Option App). unwrap_or o no_app) found.1 in
      let one : OneAt n x.place (means m).apps = (found_application m n x image g.closed t.well found.1).one in
      let same : apps_in m ≡ (means m).apps = t.map ∙ sym t.apps in
      ap (λ (es : List (List ℕ × App)). name_of_place (insert es n (with_words ws (app_of es (Some n)))) k) same
      ∙ ap (λ (y : App). name_of_place (insert (means m).apps n (with_words ws y)) k) app
      ∙ place_changed (means m).apps n x.place k x (with_words ws x) refl one found.1
      ∙ ap (λ (es : List (List ℕ × App)). name_of_place es k) (sym same)

  commit_sizes : (s e : Store N) (n : List ℕ) (ws : List (ℕ × List ℕ)) (a : Answer) → store_did state wrote s (Commit n ws) a e → (l : List ℕ)
      → sizes_of (app_of (apps_in (state e.device).words) (Some l)) ≡ sizes_of (app_of (apps_in (state s.device).words) (Some l))
  commit_sizes s e n ws a did l =
      elim (map_either s e (Commit n ws) a did) [
        | inl old ↦ ap (λ (es : List (List ℕ × App)). sizes_of (app_of es (Some l))) old
        | inr new ↦ ap (λ (es : List (List ℕ × App)). sizes_of (app_of es (Some l))) new ∙ commit_sized (apps_in (state s.device).words) n ws l
      ]

  commit_places : (s e : Store N) (n : List ℕ) (ws : List (ℕ × List ℕ)) (a : Answer) → store_did state wrote s (Commit n ws) a e → (k : ℕ) → place_named (state e.device) k ≡ place_named (state s.device) k
  commit_places s e n ws a did k =
      elim (map_either s e (Commit n ws) a did) [
        | inl old ↦ ap (λ (es : List (List ℕ × App)). name_of_place es k) old
        | inr new ↦ ap (λ (es : List (List ℕ × App)). name_of_place es k) new ∙ places_stay s n ws k did.image did.going did.allowed.0
      ]

  -- a commit keeps all slots
  pub commit_slots : (s e : Store N) (n : List ℕ) (ws : List (ℕ × List ℕ)) (a : Answer) → store_did state wrote s (Commit n ws) a e → (k : ℕ) → store_named (state e.device) k ≡ store_named (state s.device) k
  commit_slots s e n ws a did k = grind (arith, commit_sizes, commit_places)

  -- a deletion keeps those of all others
  pub delete_slots : (s e : Store N) (n : List ℕ) (a : Answer) → store_did state wrote s (Remove n) a e → (k : ℕ) (l : List ℕ) → store_named (state s.device) k ≡ Some l → l ≢ n → store_named (state e.device) k ≡ Some l
  delete_slots s e n a did k l is other = store_keeps state wrote obeys s.device e.device s.count e.count (Remove n) a did k l is other
