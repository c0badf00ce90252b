-- A commit and a deletion as items of a store: what their calls require, and what they made.
use Rattle.std.proofs.Common.{◌≡◌, ℕ, suc, ◌+◌, ◌*◌, ◌<◌, ◌≤◌, true, false, not, List, [], ◌∷◌, length, get_or, Option, Some, refl, sym, ◌∙◌, ap, subst, arith}
use Rattle.std.specs.Prelude.{IsSome, is_some, unwrap_or}
use Rattle.std.specs.List.{AllByRecursion}
use Rattle.mc_words.specs.model_device.specs.Orders.{Answer}
use Rattle.mc_words.specs.model_device.specs.Bytes.{up, be2, lookup, remove}
use Rattle.mc_words.specs.model_device.specs.Device.{DeviceState, IsSized, Makes}
use Rattle.mc_words.specs.model_device.specs.Image.{Two, is_open, look, Closed}
use Rattle.mc_words.specs.model_device.specs.Stopped.{writes, IsAtomic}
use Rattle.mc_words.specs.model_device.specs.Card.{App, means, card_of, record_at, app_at}
use Rattle.mc_words.specs.model_device.specs.Layout.{spans, step_of, IsWellLaid}
use Rattle.mc_bank.specs.model_card.specs.Items.{Commit, Remove}
use Rattle.mc_bank.specs.Bank.{CanCommit, no_app, app_of, name_or}
use Rattle.mc_blocks.specs.Plans.{plan, without, has_span}
use Rattle.mc_store.specs.Store.{apps_in, is_going, place_named, store_named, part_from, static_writes, card_without, count_after, StoreDid}
use Rattle.mc_store.specs.Slots.{IsUsedBlock}
use Rattle.mc_store.specs.GoingLaws.{Going, going_is}
use Rattle.mc_store.specs.AlikeLaws.{gates}
use Rattle.mc_blocks.proofs.Sections.{length_section}
use Rattle.mc_store.specs.DeletionLaws.{Deletes, deletes_plan, deletes_count}
use Rattle.mc_blocks.proofs.Statics.{static_from, StaticIn, static_in}
use Rattle.mc_store.specs.CommitLaws.{placed_words, CommittedCard, commits}
use Rattle.mc_store.specs.TurnLaws.{SiteBytes, site_bytes_of}
use Rattle.mc_store.specs.StoreItems.{SlotIs, slot_is}
use Rattle.mc_bank.specs.Slots.{slot_place, slot_sizes}
use Rattle.mc_bank.specs.SlotLaws.{name_there, some_there}
use Rattle.mc_bank.specs.model_card.specs.declared.card.Part.TheVariants.{Data}
use Rattle.mc_bank.specs.model_card.specs.declared.card.Sizes.{Sizes}
use Rattle.mc_store.proofs.ReadLemmas.{of_slot}
use Rattle.mc_store.proofs.RecordLemmas.{RecordIs, record_is}
use Rattle.mc_words.specs.model_device.proofs.BoolLemmas.{some_is}

-- ---- a deletion

-- the words that a deletion of a name writes
abbrev pub item_plan : List (List ℕ) → List ℕ → List (ℕ × List ℕ)
item_plan m n = step_of (means m) (card_without m n)

pub record DeleteIs (d : DeviceState) (c p : ℕ) : Type 0 where
  pub on : d.on ≡ true
  pub closed : look d.words ≡ Closed
  pub well : IsWellLaid d.words
  pub gate : is_open Two d.words ≡ false
  pub span : has_span p (spans (means d.words)) ≡ true
  pub some : 1 ≤ c
  pub there : IsSome (lookup (means d.words).apps (name_or (place_named d p)))
  pub writes : plan (means d.words) (without p (spans (means d.words))) ≡ item_plan d.words (name_or (place_named d p))

pub delete_is : (d : DeviceState) (c p : ℕ) → IsSized d.words → is_going d c ≡ true → IsSome (place_named d p) → DeleteIs d c p
delete_is d c p image going there =
    let m = d.words in
    let g : Going d c = going_is d c going in
    let s : SiteBytes m = site_bytes_of d c g in
    let named = some_is (place_named d p) there in
    let n = named.0 in
    let name : name_or (place_named d p) ≡ n = ap (λ (o : Option (List ℕ)). unwrap_or o []) named.1 in
    let slot : SlotIs m p n = slot_is d c p n image g named.1 in
    let del : Deletes m n slot.app = deletes_plan m n slot.app image g.closed s.well slot.there in
    let count : length (means m).apps ≡ suc (length (remove (means m).apps n)) = deletes_count m n slot.app image g.closed s.well slot.there in
    let old : c ≡ length (means m).apps = g.count ∙ sym (ap length s.apps) in
    record {
      on = g.on;
      closed = g.closed;
      well = s.well;
      gate = (gates m g.closed).two;
      span = subst (λ (q : ℕ). has_span q (spans (means m)) ≡ true) slot.place del.span;
      some = omega (arith, old, count);
      there = subst (λ (k : List ℕ). IsSome (lookup (means m).apps k)) (sym name) (ap (λ (o : Option App). is_some o) slot.there);
      writes = ap (λ (q : ℕ). plan (means m) (without q (spans (means m)))) (sym slot.place) ∙ sym del.plan ∙ ap (λ (k : List ℕ). item_plan m k) (sym name);
    }

module _ {D : Type 0} (state : D → DeviceState) (wrote : D → ℕ → List ℕ → Answer → D → Type 0) where
  pub delete_did : (d e : D) (c p : ℕ) (items : List (ℕ × List ℕ)) (a : Answer) → IsSized (state d).words → is_going (state d) c ≡ true → IsSome (place_named (state d) p) → items ≡ plan (means (state d).words) (without p (spans (means (state d).words)))
      → Makes wrote d (writes Two items) a e → StoreDid state wrote d c (Remove (name_or (place_named (state d) p))) a e (count_after (Remove (name_or (place_named (state d) p))) a c)
  delete_did d e c p items a image going there is made = grind (arith, delete_is (state d) c p image going there)

-- ---- a commit

-- the first word of static bytes, by the record
pub static_first : (m : List (List ℕ)) (p : ℕ) (a : App) → IsSized m → IsUsedBlock m p → app_at m p ≡ a → static_from a ≡ p + 5 + up (be2 (record_at m p) 20) 8
static_first m p a image block is = grind (arith, RecordIs, record_is, length_section, static_from)

pub record CommitIs (d : DeviceState) (p : ℕ) (ws : List (ℕ × List ℕ)) : Type 0 where
  pub on : d.on ≡ true
  pub gate : is_open Two d.words ≡ false
  pub block : IsUsedBlock d.words p
  pub atomic : IsAtomic (length d.words) (placed_words (p + 5 + up (be2 (record_at d.words p) 20) 8) ws)
  pub few : length ws ≤ 64
  pub within : AllByRecursion (λ w. p + 5 + up (be2 (record_at d.words p) 20) 8 + w.0 ≤ 65535) ws
  pub there : IsSome (lookup (means d.words).apps (name_or (place_named d p)))
  pub can : CanCommit (app_of (means d.words).apps (Some (name_or (place_named d p)))).fixed ws
  pub is : placed_words (p + 5 + up (be2 (record_at d.words p) 20) 8) ws ≡ static_writes (app_of (means d.words).apps (Some (name_or (place_named d p)))) ws

small : (size q n : ℕ) (ws : List (ℕ × List ℕ)) → size ≤ 16384 → q + up n 8 ≤ size → AllByRecursion (λ w. 8 * w.0 < n) ws → AllByRecursion (λ w. q + w.0 ≤ 65535) ws
small size q n [] high ends a = tt
small size q n (w ∷ ws) high ends a = let lt : 8 * w.0 < n = a.0 in (omega arith, small size q n ws high ends a.1)

pub commit_is : (d : DeviceState) (c p : ℕ) (ws : List (ℕ × List ℕ)) → IsSized d.words → is_going d c ≡ true → IsSome (place_named d p) → CanCommit (app_of (apps_in d.words) (place_named d p)).fixed ws → CommitIs d p ws
commit_is d c p ws image going there can =
    let m = d.words in
    let g : Going d c = going_is d c going in
    let s : SiteBytes m = site_bytes_of d c g in
    let named = some_is (place_named d p) there in
    let n = named.0 in
    let name : name_or (place_named d p) ≡ n = ap (λ (o : Option (List ℕ)). unwrap_or o []) named.1 in
    let slot : SlotIs m p n = slot_is d c p n image g named.1 in
    let a = slot.app in
    let found : lookup (card_of m).apps n ≡ Some a = ap (λ (es : List (List ℕ × App)). lookup es n) (sym s.apps) ∙ slot.there in
    let st : StaticIn m n a = static_in m n a image g.laid found in
    let block : IsUsedBlock m p = subst (λ (q : ℕ). IsUsedBlock m q) slot.place (record { words = st.words; good = st.good; end = st.end }) in
    let self : app_at m p ≡ a = subst (λ (q : ℕ). app_at m q ≡ a) slot.place st.self in
    let first : static_from a ≡ p + 5 + up (be2 (record_at m p) 20) 8 = static_first m p a image block self in
    let app : app_of (means m).apps (Some (name_or (place_named d p))) ≡ a = ap (λ (k : List ℕ). unwrap_or (lookup (means m).apps k) no_app) name ∙ ap (λ (o : Option App). unwrap_or o no_app) slot.there in
    let here : app_of (apps_in m) (place_named d p) ≡ a =
    ap (λ (o : Option (List ℕ)). app_of (apps_in m) o) named.1 ∙ ap (λ (es : List (List ℕ × App)). unwrap_or (lookup es n) no_app) (s.map ∙ sym s.apps) ∙ ap (λ (o : Option App). unwrap_or o no_app) slot.there in
    let ok : CanCommit a.fixed ws = subst (λ (x : App). CanCommit x.fixed ws) here can in
    let t : CommittedCard m n a ws = commits m n a ws image g.laid found ok in
    record {
      on = g.on;
      gate = (gates m g.closed).two;
      block = block;
      atomic = subst (λ (q : ℕ). IsAtomic (length m) (placed_words q ws)) first t.atomic;
      few = ok.few;
      within = subst (λ (q : ℕ). AllByRecursion (λ (w : ℕ × List ℕ). q + w.0 ≤ 65535) ws) first (small (length m) (static_from a) (length a.fixed) ws image.high st.ends ok.within);
      there = subst (λ (k : List ℕ). IsSome (lookup (means m).apps k)) (sym name) (ap (λ (o : Option App). is_some o) slot.there);
      can = subst (λ (x : App). CanCommit x.fixed ws) (sym app) ok;
      is = ap (λ (q : ℕ). placed_words q ws) (sym first) ∙ ap (λ (x : App). static_writes x ws) (sym app);
    }

module _ {D : Type 0} (state : D → DeviceState) (wrote : D → ℕ → List ℕ → Answer → D → Type 0) where
  pub commit_did : (d e : D) (c p : ℕ) (ws items : List (ℕ × List ℕ)) (a : Answer) → IsSized (state d).words → is_going (state d) c ≡ true → IsSome (place_named (state d) p) → CanCommit (app_of (apps_in (state d).words) (place_named (state d) p)).fixed ws
      → items ≡ placed_words (p + 5 + up (be2 (record_at (state d).words p) 20) 8) ws → Makes wrote d (writes Two items) a e → StoreDid state wrote d c (Commit (name_or (place_named (state d) p)) ws) a e c
  commit_did d e c p ws items a image going there can is made = grind (arith, commit_is (state d) c p ws image going there can)

pub one_placed : (q : ℕ) (ws : List (ℕ × List ℕ)) → length ws ≡ 1 → (q + (get_or ws 0 (0, [])).0, (get_or ws 0 (0, [])).1) ∷ [] ≡ placed_words q ws
one_placed q [] h = absurd (omega (arith, h))
one_placed q (w ∷ []) h = refl
one_placed q (w ∷ x ∷ ws) h = absurd (omega (arith, h))

-- ---- slots

first_small : (q : ℕ) (ws : List (ℕ × List ℕ)) → 1 ≤ length ws → AllByRecursion (λ w. q + w.0 ≤ 65535) ws → q ≤ 65535
first_small q [] some a = absurd (omega arith)
first_small q (w ∷ ws) some a = let low = a.0 in omega (arith, low)

pub delete_at : (d : DeviceState) (c j p : ℕ) → p ≡ slot_place j → IsSized d.words → is_going d c ≡ true → IsSome (store_named d j) → DeleteIs d c p
delete_at d c j p at image going there =
    delete_is d c p image going (subst (λ (q : ℕ). IsSome (place_named d q)) (sym at) (some_there (apps_in d.words) j (place_named d (slot_place j)) there))

-- words of a slot's static bytes, which begin in word `first`
pub record CommitAt (d : DeviceState) (first : ℕ) (ws : List (ℕ × List ℕ)) : Type 0 where
  pub on : d.on ≡ true
  pub gate : is_open Two d.words ≡ false
  pub small : first ≤ 65535
  pub atomic : IsAtomic (length d.words) (placed_words first ws)
  pub within : AllByRecursion (λ w. first + w.0 ≤ 65535) ws

module _ (d : DeviceState) (c j first : ℕ) (image : IsSized d.words) (going : is_going d c ≡ true) (there : IsSome (store_named d j)) (at : first ≡ part_from Data (slot_sizes j) (slot_place j)) where
  named_at : store_named d j ≡ place_named d (slot_place j)
  named_at = name_there (apps_in d.words) j (place_named d (slot_place j)) there

  some_at : IsSome (place_named d (slot_place j))
  some_at = some_there (apps_in d.words) j (place_named d (slot_place j)) there

  first_at : first ≡ slot_place j + 5 + up (be2 (record_at d.words (slot_place j)) 20) 8
  first_at = at ∙ ap (λ (z : Sizes). part_from Data z (slot_place j)) (of_slot d c j image (ap not going) there).sizes

  can_at : (ws : List (ℕ × List ℕ)) → CanCommit (app_of (apps_in d.words) (store_named d j)).fixed ws → CanCommit (app_of (apps_in d.words) (place_named d (slot_place j))).fixed ws
  can_at ws can = subst (λ (o : Option (List ℕ)). CanCommit (app_of (apps_in d.words) o).fixed ws) named_at can

  pub commit_at : (ws : List (ℕ × List ℕ)) → CanCommit (app_of (apps_in d.words) (store_named d j)).fixed ws → CommitAt d first ws
  commit_at ws can =
      let k : CommitIs d (slot_place j) ws = commit_is d c (slot_place j) ws image going some_at (can_at ws can) in
      let within : AllByRecursion (λ w. first + w.0 ≤ 65535) ws = subst (λ (q : ℕ). AllByRecursion (λ (w : ℕ × List ℕ). q + w.0 ≤ 65535) ws) (sym first_at) k.within in
      record {
        on = k.on;
        gate = k.gate;
        small = first_small first ws can.some within;
        atomic = subst (λ (q : ℕ). IsAtomic (length d.words) (placed_words q ws)) (sym first_at) k.atomic;
        within = within;
      }

module _ {D : Type 0} (state : D → DeviceState) (wrote : D → ℕ → List ℕ → Answer → D → Type 0) where
  pub commit_done : (d e : D) (c j first : ℕ) (ws items : List (ℕ × List ℕ)) (a : Answer) → IsSized (state d).words → is_going (state d) c ≡ true → IsSome (store_named (state d) j)
      → CanCommit (app_of (apps_in (state d).words) (store_named (state d) j)).fixed ws → first ≡ part_from Data (slot_sizes j) (slot_place j) → items ≡ placed_words first ws
      → Makes wrote d (writes Two items) a e → StoreDid state wrote d c (Commit (name_or (store_named (state d) j)) ws) a e c
  commit_done d e c j first ws items a image going there can at is made =
      subst (λ (o : Option (List ℕ)). StoreDid state wrote d c (Commit (name_or o) ws) a e c) (sym (named_at (state d) c j first image going there at))
      (commit_did state wrote d e c (slot_place j) ws items a image going (some_at (state d) c j first image going there at) (can_at (state d) c j first image going there at ws can)
      (is ∙ ap (λ (q : ℕ). placed_words q ws) (first_at (state d) c j first image going there at)) made)

  pub delete_done : (d e : D) (c j p : ℕ) (items : List (ℕ × List ℕ)) (a : Answer) → p ≡ slot_place j → IsSized (state d).words → is_going (state d) c ≡ true → IsSome (store_named (state d) j)
      → items ≡ plan (means (state d).words) (without p (spans (means (state d).words))) → Makes wrote d (writes Two items) a e
      → StoreDid state wrote d c (Remove (name_or (store_named (state d) j))) a e (count_after (Remove (name_or (store_named (state d) j))) a c)
  delete_done d e c j p items a at image going there is made =
      let same : store_named (state d) j ≡ place_named (state d) p =
      name_there (apps_in (state d).words) j (place_named (state d) (slot_place j)) there ∙ ap (λ (q : ℕ). place_named (state d) q) (sym at) in
      subst (λ (o : Option (List ℕ)). StoreDid state wrote d c (Remove (name_or o)) a e (count_after (Remove (name_or o)) a c)) (sym same)
      (delete_did state wrote d e c p items a image going (subst (λ (o : Option (List ℕ)). IsSome o) same there) is made)
