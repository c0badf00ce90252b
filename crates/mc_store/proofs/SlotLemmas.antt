-- The applications of words without a fault, by their slots.
use Rattle.std.proofs.Common.{◌≡◌, ℕ, ◌+◌, ◌≤◌, Bool, true, false, ◌&&◌, not, cond, List, [], ◌∷◌, length, Option, Some, None, refl, sym, ◌∙◌, ap, subst, arith}
use Rattle.std.specs.Prelude.{◌==◌, bytes_eq, IsSome, is_some, unwrap_or}
use Rattle.std.specs.List.{AllByRecursion}
use Rattle.std.proofs.lemmas.Bool.{eqb-true, eq-eqb}
use Rattle.mc_bank.specs.model_card.specs.declared.card.Sizes.{Sizes}
use Rattle.mc_words.specs.model_device.specs.Bytes.{lookup, insert, name_before, AscendByName}
use Rattle.mc_words.specs.model_device.specs.Image.{look, Closed}
use Rattle.mc_words.specs.model_device.specs.Device.{DeviceState, IsSized}
use Rattle.mc_words.specs.model_device.specs.Card.{App, Card, Block, blocks, record_at, name_at, app_at, apps_of, card_of}
use Rattle.mc_words.specs.model_device.specs.Layout.{is_record, words_fault}
use Rattle.mc_words.specs.model_device.proofs.ImageLemmas.{all_map}
use Rattle.mc_words.specs.Name.{IsName}
use Rattle.mc_bank.specs.Bank.{app_of, no_app, sizes_of, FitsLimits, IsApplication, AreApps}
use Rattle.mc_blocks.proofs.Steps.{blocks_all}
use Rattle.mc_blocks.proofs.Tiles.{HeadersRead}
use Rattle.mc_blocks.proofs.Bridge.{AreRecorded}
use Rattle.mc_blocks.proofs.Applications.{few_applications}
use Rattle.mc_store.specs.Store.{apps_in, is_going, name_of_place, place_named}
use Rattle.mc_store.specs.Slots.{first_named, record_sizes, IsUsedBlock}
use Rattle.mc_store.specs.GoingLaws.{Going, going_is, closed_apps}
use Rattle.mc_blocks.proofs.Sections.{length_cells, length_section}
use Rattle.mc_store.proofs.RecordLemmas.{RecordIs, record_is, name_size}
use Rattle.mc_store.proofs.WalkLemmas.{Walk, walk_begins}
use Rattle.mc_words.specs.model_device.proofs.MapLemmas.{same_name, name_is_itself, not_after, lookup_inserted_lem, lookup_beside, each_inserted, ascending_inserted, each_found}
use Rattle.mc_words.specs.model_device.proofs.LayoutLemmas.{closed_fault, closed_means}
use Rattle.mc_blocks.proofs.Entries.{long_enough}
use Rattle.mc_words.specs.model_device.proofs.BoolLemmas.{some_is}

-- ---- the entries of the map

-- an entry is what the block at its place holds
pub record IsOf (m : List (List ℕ)) (e : List ℕ × App) : Type 0 where
  pub name : e.0 ≡ name_at m (e.1).place
  pub app : e.1 ≡ app_at m (e.1).place
  pub block : IsUsedBlock m (e.1).place

module _ (m : List (List ℕ)) where
  entries : (bs : List Block) → HeadersRead m bs → AreRecorded m bs → AllByRecursion (IsOf m) (apps_of m bs) × AscendByName (apps_of m bs)
  unfolding apps_of
  entries [] r h = (tt, tt)
  entries (b ∷ bs) r h =
      let rest = entries bs r.2 h.1 in
      (elim b.used as (λ t. (t ≡ true → is_record (record_at m b.place) b.words ≡ true) → AllByRecursion (IsOf m) (apps_of m (record b { used = t } ∷ bs)) × AscendByName (apps_of m (record b { used = t } ∷ bs))) [
        | true ↦ λ good. (
          each_inserted (IsOf m) (apps_of m bs) (name_at m b.place) (app_at m b.place) (record { name = refl; app = refl; block = record { words = b.words; good = good refl; end = r.1 } }) rest.0,
          ascending_inserted (apps_of m bs) (name_at m b.place) (app_at m b.place) rest.1,
        )
        | false ↦ λ good. rest
      ]) h.0

  -- ---- found by a name

  found : (n : List ℕ) (bs : List Block) (p : ℕ) → first_named m bs n ≡ Some p → lookup (apps_of m bs) n ≡ Some (app_at m p)
  unfolding first_named apps_of
  found n [] p h = absurd (cc h)
  found n (b ∷ bs) p h = by b.used (bytes_eq (name_at m b.place) n) refl h (λ r. found n bs p r)
    where
      by : (u t : Bool) → bytes_eq (name_at m b.place) n ≡ t → cond (u && t) (Some b.place) (first_named m bs n) ≡ Some p → (first_named m bs n ≡ Some p → lookup (apps_of m bs) n ≡ Some (app_at m p))
          → lookup (cond u (insert (apps_of m bs) (name_at m b.place) (app_at m b.place)) (apps_of m bs)) n ≡ Some (app_at m p)
      by false t e h rest = rest h
      by true false e h rest = lookup_beside (apps_of m bs) (name_at m b.place) (app_at m b.place) n e ∙ rest h
      by true true e h rest =
          let place : b.place ≡ p = cc in
          ap (λ (k : List ℕ). lookup (insert (apps_of m bs) k (app_at m b.place)) n) (same_name (name_at m b.place) n e)
          ∙ lookup_inserted_lem (apps_of m bs) n (app_at m b.place)
          ∙ ap (λ (q : ℕ). Some (app_at m q)) place

  none : (n : List ℕ) (bs : List Block) → first_named m bs n ≡ None → lookup (apps_of m bs) n ≡ None
  unfolding first_named apps_of
  none n [] h = refl
  none n (b ∷ bs) h = by b.used (bytes_eq (name_at m b.place) n) refl h (λ r. none n bs r)
    where
      by : (u t : Bool) → bytes_eq (name_at m b.place) n ≡ t → cond (u && t) (Some b.place) (first_named m bs n) ≡ None → (first_named m bs n ≡ None → lookup (apps_of m bs) n ≡ None)
          → lookup (cond u (insert (apps_of m bs) (name_at m b.place) (app_at m b.place)) (apps_of m bs)) n ≡ None
      by u t e h rest = grind (arith, lookup_beside)

-- ---- maps

module _ (m : List (List ℕ)) where
  place_of : (es : List (List ℕ × App)) (n : List ℕ) (a : App) → AllByRecursion (IsOf m) es → lookup es n ≡ Some a → name_of_place es a.place ≡ Some n
  place_of [] n a h l = absurd (cc l)
  place_of (e ∷ es) n a h l = by_test (bytes_eq e.0 n) ((e.1).place == a.place) refl refl l (λ k. place_of es n a h.1 k)
    where
      by_test : (t s : Bool) → bytes_eq e.0 n ≡ t → ((e.1).place == a.place) ≡ s → cond t (Some e.1) (lookup es n) ≡ Some a → (lookup es n ≡ Some a → name_of_place es a.place ≡ Some n) → cond s (Some e.0) (name_of_place es a.place) ≡ Some n
      by_test true true is at k rest = ap (λ (x : List ℕ). Some x) (same_name e.0 n is)
      by_test true false is at k rest = let same : e.1 ≡ a = cc in absurd (cc (sym at ∙ eq-eqb (e.1).place a.place (ap (λ (x : App). x.place) same)))
      by_test false true is at k rest =
          let other : IsOf m (n, a) = each_found (IsOf m) es n a h.1 k in
          ap (λ (x : List ℕ). Some x) (h.0.name ∙ ap (λ (q : ℕ). name_at m q) (eqb-true (e.1).place a.place at) ∙ sym other.name)
      by_test false false is at k rest = rest k

  -- the application of a slot
  pub record IsSlotApplication (es : List (List ℕ × App)) (k : ℕ) (n : List ℕ) : Type 0 where
    pub name : n ≡ name_at m k
    pub app : lookup es n ≡ Some (app_at m k)
    pub block : IsUsedBlock m k

  held : (es : List (List ℕ × App)) (k : ℕ) (n : List ℕ) → AllByRecursion (IsOf m) es → AscendByName es → name_of_place es k ≡ Some n → IsSlotApplication es k n
  held [] k n h sorted is = absurd (cc is)
  held (e ∷ es) k n h sorted is = by_test ((e.1).place == k) refl is (λ j. held es k n h.1 sorted.1 j)
    where
      behind : (t : Bool) → bytes_eq e.0 n ≡ t → name_before e.0 n ≡ true → (o : Option App) → cond t (Some e.1) o ≡ o
      behind false b h o = refl
      behind true b h o =
          let same : e.0 ≡ n = same_name e.0 n b in
          let before : name_before n n ≡ true = subst (λ (x : List ℕ). name_before x n ≡ true) same h in
          absurd (cc (sym before ∙ not_after n n before))

      by_test : (t : Bool) → ((e.1).place == k) ≡ t → cond t (Some e.0) (name_of_place es k) ≡ Some n → (name_of_place es k ≡ Some n → IsSlotApplication es k n) → IsSlotApplication (e ∷ es) k n
      by_test true at j rest =
          let same : e.0 ≡ n = cc in
          let place : (e.1).place ≡ k = eqb-true (e.1).place k at in
          record {
            name = sym same ∙ h.0.name ∙ ap (λ (q : ℕ). name_at m q) place;
            app = ap (λ (t : Bool). cond t (Some e.1) (lookup es n)) (ap (λ (x : List ℕ). bytes_eq x n) same ∙ name_is_itself n) ∙ ap (λ (x : App). Some x) (h.0.app ∙ ap (λ (q : ℕ). app_at m q) place);
            block = subst (λ (q : ℕ). IsUsedBlock m q) place h.0.block;
          }
      by_test false at j rest =
          let r : IsSlotApplication es k n = rest j in
          let after : name_before e.0 n ≡ true = each_found (λ f. name_before e.0 f.0 ≡ true) es n (app_at m k) sorted.0 r.app in
          record { name = r.name; app = behind (bytes_eq e.0 n) refl after (lookup es n) ∙ r.app; block = r.block }

-- ---- words without a fault

module _ (m : List (List ℕ)) (image : IsSized m) (good : words_fault m ≡ None) where
  all_entries : AllByRecursion (IsOf m) (apps_of m (blocks m)) × AscendByName (apps_of m (blocks m))
  all_entries =
      let w : Walk m 131 (blocks m) = subst (λ (bs : List Block). Walk m 131 bs) (sym (blocks_all m)) (walk_begins m image good) in
      entries m (blocks m) w.read w.records

  pub slot_held : (k : ℕ) (n : List ℕ) → name_of_place (card_of m).apps k ≡ Some n → IsSlotApplication m (card_of m).apps k n
  slot_held k n is = held m (card_of m).apps k n all_entries.0 all_entries.1 is

  -- a name that is looked for
  pub name_there : (n : List ℕ) (o : Option ℕ) → o ≡ first_named m (blocks m) n → is_some o ≡ is_some (lookup (card_of m).apps n)
  name_there n None is = sym (ap is_some (none m n (blocks m) (sym is)))
  name_there n (Some p) is = sym (ap is_some (found m n (blocks m) p (sym is)))

  pub name_slot : (n : List ℕ) (p : ℕ) → Some p ≡ first_named m (blocks m) n → name_of_place (card_of m).apps p ≡ Some n
  name_slot n p is = place_of m (card_of m).apps n (app_at m p) all_entries.0 (found m n (blocks m) p (sym is))

  -- the sizes of an application are those in its record
  pub sizes_are : (p : ℕ) → IsUsedBlock m p → sizes_of (app_at m p) ≡ record_sizes (record_at m p)
  sizes_are p b = grind (arith, RecordIs, record_is, length_section)

  pub fits_limits : (p : ℕ) → IsUsedBlock m p → FitsLimits (record_sizes (record_at m p))
  fits_limits p b = grind (arith, RecordIs, record_is)

  entry_is : (e : List ℕ × App) → IsOf m e → IsApplication e
  entry_is e h =
      let p = (e.1).place in
      let b : IsUsedBlock m p = h.block in
      let six : 6 ≤ b.words = long_enough (record_at m p) b.words b.good in
      let end : p + b.words ≤ length m = b.end in
      let long : length (record_at m p) ≡ 32 = length_cells m 4 (p + 1) image (omega arith) in
      record {
        name = subst (λ (n : List ℕ). IsName n) (sym h.name) (name_size (record_at m p) b.words long b.good);
        limits = subst (λ (a : App). FitsLimits (sizes_of a)) (sym h.app) (subst (λ (s : Sizes). FitsLimits s) (sym (sizes_are p b)) (fits_limits p b));
      }

  pub are_apps : look m ≡ Closed → AreApps (card_of m).apps
  are_apps closed =
      record {
        few = subst (λ (n : ℕ). n ≤ 32) (ap (λ (c : Card). length c.apps) (closed_means m closed)) (few_applications m image closed (closed_fault m closed ∙ good));
        each = all_map (IsOf m) IsApplication (λ e h. entry_is e h) (card_of m).apps all_entries.0;
        ascending = all_entries.1;
      }

-- ---- a store that runs

pub runs : (d : DeviceState) (c : ℕ) → not (is_going d c) ≡ false → Going d c
runs d c h = going_is d c (by_test (is_going d c) h)
  where
    by_test : (t : Bool) → not t ≡ false → t ≡ true
    by_test true h = refl
    by_test false h = absurd (cc h)

pub map_is : (d : DeviceState) (c : ℕ) → not (is_going d c) ≡ false → apps_in d.words ≡ (card_of d.words).apps
map_is d c h = let g : Going d c = runs d c h in closed_apps d.words g.closed g.laid

-- what a place of a store that runs holds
pub record Slot (d : DeviceState) (k : ℕ) : Type 0 where
  pub name : place_named d k ≡ Some (name_at d.words k)
  pub there : lookup (apps_in d.words) (name_at d.words k) ≡ Some (app_at d.words k)
  pub app : app_of (apps_in d.words) (place_named d k) ≡ app_at d.words k
  pub block : IsUsedBlock d.words k

pub slot : (d : DeviceState) (c k : ℕ) → IsSized d.words → not (is_going d c) ≡ false → IsSome (place_named d k) → Slot d k
slot d c k image h some =
    let m = d.words in
    let g : Going d c = runs d c h in
    let apps : apps_in m ≡ (card_of m).apps = closed_apps m g.closed g.laid in
    let n = some_is (place_named d k) some in
    let held : IsSlotApplication m (card_of m).apps k n.0 = slot_held m image g.laid k n.0 (sym (ap (λ (es : List (List ℕ × App)). name_of_place es k) apps) ∙ n.1) in
    let name : place_named d k ≡ Some (name_at m k) = n.1 ∙ ap (λ (x : List ℕ). Some x) held.name in
    let there : lookup (apps_in m) (name_at m k) ≡ Some (app_at m k) = ap (λ (es : List (List ℕ × App)). lookup es (name_at m k)) apps ∙ ap (λ (x : List ℕ). lookup (card_of m).apps x) (sym held.name) ∙ held.app in
    record {
      name = name;
      there = there;
      app = ap (λ (o : Option (List ℕ)). app_of (apps_in m) o) name ∙ ap (λ (o : Option App). unwrap_or o no_app) there;
      block = held.block;
    }
