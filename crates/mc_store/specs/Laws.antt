-- The laws of a bank for the items of a store, over any device that keeps the rules of writes.
use Rattle.std.proofs.Common.{◌≡◌, ◌⊎◌, ℕ, ◌+◌, ◌<◌, ◌≤◌, true, not, List, length, Option, Some, Ok, Err, refl, sym, ◌∙◌, ap, subst, inl, inr, arith}
use Rattle.std.specs.Prelude.{unwrap_or, None, IsSome}
use Rattle.mc_bank.specs.model_card.specs.declared.card.Part.{Part}
use Rattle.mc_bank.specs.model_card.specs.declared.card.Part.TheVariants.{Code, Data, Dir, Fci}
use Rattle.mc_words.specs.model_device.specs.declared.device.Stop.{Stop}
use Rattle.mc_words.specs.model_device.specs.declared.device.Stop.TheVariants.{Off, Worn}
use Rattle.mc_words.specs.model_device.specs.Orders.{Answer}
use Rattle.mc_words.specs.model_device.specs.Bytes.{lookup, insert}
use Rattle.mc_words.specs.model_device.specs.Image.{Two, image_with}
use Rattle.mc_words.specs.model_device.specs.Device.{DeviceState, Wrote, Makes, Ended}
use Rattle.mc_words.specs.model_device.specs.Stopped.{writes}
use Rattle.mc_words.specs.model_device.specs.Card.{App, Card, word, card_of, means}
use Rattle.mc_words.specs.model_device.specs.Layout.{gaps, first_fitting}
use Rattle.mc_bank.specs.model_card.specs.Items.{Site, BankItem, Piece, Blank, Note, Commit, Enter, Remove}
use Rattle.mc_words.specs.model_device.proofs.ImageLemmas.{length_laid}
use Rattle.mc_bank.specs.Bank.{FitsLimits, StayGood, BytesStay, CanCommit, part_len, no_app, app_of, sizes_of, with_words, app_of_site, apps_after_commit, item_done, Spares, StopRose, Changes}
use Rattle.mc_bank.specs.Slots.{slot_place}
use Rattle.mc_bank.specs.SlotLaws.{HasSizes, EntersNot, has_sizes, slot_named, item_sized}
use Rattle.mc_blocks.specs.Plans.{has_room}
use Rattle.mc_blocks.proofs.Maps.{OneAt}
use Rattle.mc_blocks.proofs.Applications.{found_application}
use Rattle.mc_store.specs.Store.{settled_words, apps_in, store_state, place_named, store_named, store_room, store_site_bytes, words_of_sizes, part_from, part_in, static_writes, name_of_place, IsGoodIn, StoreDid}
use Rattle.mc_store.specs.GoingLaws.{Going, going_is, is_going_of, closed_settled, closed_apps, laid_apps}
use Rattle.mc_store.specs.AlikeLaws.{HeapsAlike, means_after}
use Rattle.mc_store.specs.AtomicLaws.{AtomicEnds, atomic_ends}
use Rattle.mc_blocks.proofs.Sections.{same_section}
use Rattle.mc_store.specs.CreationLaws.{AtSite, at_site, Creates, creates_plan}
use Rattle.mc_store.specs.CommitLaws.{CommittedCard, commits}
use Rattle.mc_store.specs.PlaceLaws.{place_changed, place_new, place_removed}
use Rattle.mc_store.specs.StoreItems.{named_there}
use Rattle.mc_store.specs.TurnLaws.{ChangesCard, SiteBytes, site_bytes_of, turns}
use Rattle.mc_words.specs.model_device.proofs.LayoutLemmas.{closed_means}
use Rattle.mc_words.specs.model_device.proofs.BoolLemmas.{some_is}

-- ---- the applications

rose_of : (s : Stop) (d e : DeviceState) (c k : ℕ) → Ended (Err s) d e → StopRose s (store_state d c) (store_state e k)
rose_of Off d e c k h = (h.1, h.2, h.3)
rose_of Worn d e c k h = (h.1, h.2, h.3)

pub changes_of : (d e : DeviceState) (c k : ℕ) (apps : List (List ℕ × App)) (a : Answer) → Going d c → ChangesCard d apps a e k → Changes (store_state d c) apps a (store_state e k)
changes_of d e c k apps (Ok tt) g t =
    record {
      apps = closed_apps e.words t.closed t.good ∙ ap (λ (x : Card). x.apps) t.card;
      cuts = t.ended.1;
      faults = t.ended.2;
      going = ap not (is_going_of e k (record {
        on = t.ended.0;
        closed = t.closed;
        laid = t.good;
        layout = ap (λ (x : Card). x.layout) t.card ∙ g.layout;
        count = t.count ∙ sym (ap (λ (x : Card). length x.apps) t.card);
      }));
    }
changes_of d e c k apps (Err s) g t =
    let old : apps_in d.words ≡ (card_of d.words).apps = closed_apps d.words g.closed g.laid in
    let now : apps_in e.words ≡ (means e.words).apps = laid_apps e.words t.good in
    record {
      apps = elim t.card [ inl same ↦ inl (now ∙ ap (λ (x : Card). x.apps) same ∙ sym old) | inr new ↦ inr (now ∙ ap (λ (x : Card). x.apps) new) ];
      rose = rose_of s d e c k t.ended;
    }

-- the card is the old or the new one
means_of : (d e : DeviceState) (k : ℕ) (apps : List (List ℕ × App)) (a : Answer) → ChangesCard d apps a e k → (means e.words ≡ card_of d.words) ⊎ (means e.words ≡ record (card_of d.words) { apps = apps })
means_of d e k apps (Ok tt) t = inr (closed_means e.words t.closed ∙ t.card)
means_of d e k apps (Err s) t = t.card

map_of : (d e : DeviceState) (c k : ℕ) (apps : List (List ℕ × App)) (a : Answer) → Going d c → ChangesCard d apps a e k → (apps_in e.words ≡ apps_in d.words) ⊎ (apps_in e.words ≡ apps)
map_of d e c k apps (Ok tt) g t = inr (changes_of d e c k apps (Ok tt) g t).apps
map_of d e c k apps (Err s) g t = (changes_of d e c k apps (Err s) g t).apps

-- ---- sites

-- the bytes of a site stay if its words do
pub site_stays : (m w : List (List ℕ)) (s : Site) (p : Part) → FitsLimits s.sizes → s.place + words_of_sizes s.sizes ≤ length m → length w ≡ length m → ((i : ℕ) → s.place ≤ i → i < s.place + words_of_sizes s.sizes → word w i ≡ word m i) → part_in w s p ≡ part_in m s p
unfolding part_in
site_stays m w s Code limits ends size same = same_section m w (part_from Code s.sizes s.place) (part_len Code s.sizes) size (omega arith) (λ i low high. same i (omega arith) (omega arith))
site_stays m w s Data limits ends size same = let few = limits.init in same_section m w (part_from Data s.sizes s.place) (part_len Data s.sizes) size (omega arith) (λ i low high. same i (omega arith) (omega arith))
site_stays m w s Dir limits ends size same = same_section m w (part_from Dir s.sizes s.place) (part_len Dir s.sizes) size (omega arith) (λ i low high. same i (omega arith) (omega arith))
site_stays m w s Fci limits ends size same = same_section m w (part_from Fci s.sizes s.place) (part_len Fci s.sizes) size (omega arith) (λ i low high. same i (omega arith) (omega arith))

settled_alike : (d e : DeviceState) (list : List (ℕ × List ℕ)) (a : Answer) → AtomicEnds d list a e → HeapsAlike (settled_words e.words) d.words ⊎ HeapsAlike (settled_words e.words) (image_with d.words list)
settled_alike d e list (Ok tt) t = inr (subst (λ (x : List (List ℕ)). HeapsAlike x (image_with d.words list)) (sym (closed_settled e.words t.0)) t.1)
settled_alike d e list (Err s) t =
    elim t.0 [
      | inl old ↦ inl (subst (λ (x : List (List ℕ)). HeapsAlike x d.words) (sym (means_after e.words old.left old.is).words) old.alike)
      | inr new ↦ inr (subst (λ (x : List (List ℕ)). HeapsAlike x (image_with d.words list)) (sym (means_after e.words new.left new.is).words) new.alike)
    ]

module _ {D : Type 0} (state : D → DeviceState) (wrote : D → ℕ → List ℕ → Answer → D → Type 0)
    (obeys : (d : D) (at : ℕ) (w : List ℕ) (a : Answer) (e : D) → (state d).on ≡ true → wrote d at w a e → Wrote (state d) at w a (state e)) where
  -- an item changes the applications by its definition
  pub store_obeys : (d e : D) (c k : ℕ) (i : BankItem) (a : Answer) → StoreDid state wrote d c i a e k → Changes (store_state (state d) c) (item_done (store_site_bytes (state d)) i (apps_in (state d).words)) a (store_state (state e) k)
  store_obeys d e c k i a did = changes_of (state d) (state e) c k _ a (going_is (state d) c did.going) (turns state wrote obeys i d e c k a did)

  -- what a commit's words are
  commit_of : (d e : D) (c k : ℕ) (n : List ℕ) (ws : List (ℕ × List ℕ)) (a : Answer) → StoreDid state wrote d c (Commit n ws) a e k → (x : App) × (app_of (means (state d).words).apps (Some n) ≡ x) × (lookup (means (state d).words).apps n ≡ Some x) × CommittedCard (state d).words n x ws
  commit_of d e c k n ws a did =
      let m = (state d).words in
      let g : Going (state d) c = going_is (state d) c did.going in
      let s : SiteBytes m = site_bytes_of (state d) c g in
      let found = some_is (lookup (means m).apps n) did.allowed.0 in
      let x = found.0 in
      let app : app_of (means m).apps (Some n) ≡ x = ap (λ (o : Option App). unwrap_or o no_app) found.1 in
      let there : lookup (card_of m).apps n ≡ Some x = sym (ap (λ (es : List (List ℕ × App)). lookup es n) s.apps) ∙ found.1 in
      (x, app, found.1, commits m n x ws did.image g.laid there (subst (λ (y : App). CanCommit y.fixed ws) app did.allowed.1))

  slots_by : (d e : D) (c k : ℕ) (i : BankItem) (a : Answer) (q : ℕ) (n : List ℕ) → StoreDid state wrote d c i a e k → place_named (state d) q ≡ Some n
      → name_of_place (item_done (store_site_bytes (state d)) i (apps_in (state d).words)) q ≡ Some n → place_named (state e) q ≡ Some n
  slots_by d e c k i a q n did is new =
      elim (map_of (state d) (state e) c k _ a (going_is (state d) c did.going) (turns state wrote obeys i d e c k a did)) [
        | inl old ↦ ap (λ (es : List (List ℕ × App)). name_of_place es q) old ∙ is
        | inr later ↦ ap (λ (es : List (List ℕ × App)). name_of_place es q) later ∙ new
      ]

  -- an item keeps the places of all applications but the one that it deletes
  places_keep : (d e : D) (c k : ℕ) (i : BankItem) (a : Answer) → StoreDid state wrote d c i a e k → (q : ℕ) (n : List ℕ) → place_named (state d) q ≡ Some n → Spares n i → place_named (state e) q ≡ Some n
  places_keep d e c k (Piece s p at b) a did q n is spares = slots_by d e c k (Piece s p at b) a q n did is is
  places_keep d e c k (Blank s at x) a did q n is spares = slots_by d e c k (Blank s at x) a q n did is is
  places_keep d e c k (Note s m i) a did q n is spares = slots_by d e c k (Note s m i) a q n did is is
  places_keep d e c k (Commit m ws) a did q n is spares =
      slots_by d e c k (Commit m ws) a q n did is (place_of_commit d e c k m ws a did q ∙ is)
    where
      place_of_commit : (d e : D) (c k : ℕ) (n : List ℕ) (ws : List (ℕ × List ℕ)) (a : Answer) → StoreDid state wrote d c (Commit n ws) a e k → (q : ℕ) → name_of_place (apps_after_commit (apps_in (state d).words) n ws) q ≡ name_of_place (apps_in (state d).words) q
      place_of_commit d e c k n ws a did q =
          let m = (state d).words in
          let g : Going (state d) c = going_is (state d) c did.going in
          let s : SiteBytes m = site_bytes_of (state d) c g in
          let t = commit_of d e c k n ws a did in
          let x = t.0 in
          let one : OneAt n x.place (means m).apps = (found_application m n x did.image g.closed s.well t.2).one in
          let same : apps_in m ≡ (means m).apps = s.map ∙ sym s.apps in
          ap (λ (es : List (List ℕ × App)). name_of_place (insert es n (with_words ws (app_of es (Some n)))) q) same
          ∙ ap (λ (y : App). name_of_place (insert (means m).apps n (with_words ws y)) q) t.1
          ∙ place_changed (means m).apps n x.place q x (with_words ws x) refl one t.2
          ∙ ap (λ (es : List (List ℕ × App)). name_of_place es q) (sym same)
  places_keep d e c k (Enter s m) a did q n is spares =
      let w = (state d).words in
      let g : Going (state d) c = going_is (state d) c did.going in
      let t : SiteBytes w = site_bytes_of (state d) c g in
      let p : Creates w s m = creates_plan w s m did.image g.closed t.well did.allowed.good did.allowed.fresh in
      let same : apps_in w ≡ (means w).apps = t.map ∙ sym t.apps in
      slots_by d e c k (Enter s m) a q n did is
      (ap (λ (es : List (List ℕ × App)). name_of_place (insert es m (app_of_site s (store_site_bytes (state d) s))) q) same
      ∙ place_new (means w).apps m n s.place q (app_of_site s (store_site_bytes (state d) s)) refl p.free (ap (λ (es : List (List ℕ × App)). name_of_place es q) (sym same) ∙ is))
  places_keep d e c k (Remove m) a did q n is spares = slots_by d e c k (Remove m) a q n did is (place_removed (apps_in (state d).words) m n q spares is)

  -- no item enters a name that is there
  enters_other : (d e : D) (c k : ℕ) (i : BankItem) (a : Answer) → StoreDid state wrote d c i a e k → (q : ℕ) (n : List ℕ) → place_named (state d) q ≡ Some n → EntersNot n i
  enters_other d e c k (Piece s p at b) a did q n is = tt
  enters_other d e c k (Blank s at x) a did q n is = tt
  enters_other d e c k (Note s m i) a did q n is = tt
  enters_other d e c k (Commit m ws) a did q n is = tt
  enters_other d e c k (Enter s m) a did q n is = λ same.
      let w = (state d).words in
      let t : SiteBytes w = site_bytes_of (state d) c (going_is (state d) c did.going) in
      let there : IsSome (lookup (means w).apps n) = subst (λ (es : List (List ℕ × App)). IsSome (lookup es n)) (t.map ∙ sym t.apps) (named_there (apps_in w) q n is) in
      let fresh : lookup (means w).apps n ≡ None = subst (λ (x : List ℕ). lookup (means w).apps x ≡ None) same did.allowed.fresh in
      cc (sym (some_is (lookup (means w).apps n) there).1 ∙ fresh)
  enters_other d e c k (Remove m) a did q n is = tt

  -- the sizes of an application after an item that spares it
  sizes_keep : (d e : D) (c k : ℕ) (i : BankItem) (a : Answer) → StoreDid state wrote d c i a e k → (q : ℕ) (n : List ℕ) → place_named (state d) q ≡ Some n → Spares n i
      → sizes_of (app_of (apps_in (state e).words) (Some n)) ≡ sizes_of (app_of (apps_in (state d).words) (Some n))
  sizes_keep d e c k i a did q n is spares =
      elim (map_of (state d) (state e) c k _ a (going_is (state d) c did.going) (turns state wrote obeys i d e c k a did)) [
        | inl old ↦ ap (λ (es : List (List ℕ × App)). sizes_of (app_of es (Some n))) old
        | inr later ↦
            ap (λ (es : List (List ℕ × App)). sizes_of (app_of es (Some n))) later
            ∙ item_sized (store_site_bytes (state d)) i (apps_in (state d).words) n spares (enters_other d e c k i a did q n is)
      ]

  -- an item keeps the slots of all applications but the one that it deletes
  pub store_keeps : (d e : D) (c k : ℕ) (i : BankItem) (a : Answer) → StoreDid state wrote d c i a e k → (q : ℕ) (n : List ℕ) → store_named (state d) q ≡ Some n → Spares n i → store_named (state e) q ≡ Some n
  store_keeps d e c k i a did q n is spares =
      let s : HasSizes (apps_in (state d).words) q (place_named (state d) (slot_place q)) n = has_sizes (apps_in (state d).words) q (place_named (state d) (slot_place q)) n is in
      slot_named (apps_in (state e).words) q (place_named (state e) (slot_place q)) n
      (places_keep d e c k i a did (slot_place q) n s.name spares)
      (s.sizes ∙ sym (sizes_keep d e c k i a did (slot_place q) n s.name spares))

  -- a commit keeps the holes
  holes_stay : (d e : D) (c k : ℕ) (n : List ℕ) (ws : List (ℕ × List ℕ)) (a : Answer) → StoreDid state wrote d c (Commit n ws) a e k → (gaps (means (state e).words) ≡ gaps (means (state d).words)) × (length (apps_in (state e).words) ≡ length (apps_in (state d).words))
  holes_stay d e c k n ws a did =
      let m = (state d).words in
      let g : Going (state d) c = going_is (state d) c did.going in
      let s : SiteBytes m = site_bytes_of (state d) c g in
      let t = commit_of d e c k n ws a did in
      let x = t.0 in
      let there : lookup (card_of m).apps n ≡ Some x = sym (ap (λ (es : List (List ℕ × App)). lookup es n) s.apps) ∙ t.2 in
      let apps : apps_after_commit (apps_in m) n ws ≡ insert (card_of m).apps n (with_words ws x) =
      ap (λ (es : List (List ℕ × App)). insert es n (with_words ws (app_of es (Some n)))) s.map
      ∙ ap (λ (y : App). insert (card_of m).apps n (with_words ws y)) (ap (λ (o : Option App). unwrap_or o no_app) there) in
      let turned = turns state wrote obeys (Commit n ws) d e c k a did in
      let same : gaps (record (card_of m) { apps = apps_after_commit (apps_in m) n ws }) ≡ gaps (card_of m) = ap (λ (es : List (List ℕ × App)). gaps (record (card_of m) { apps = es })) apps ∙ sym (ap gaps t.3.card) ∙ t.3.left in
      let own : gaps (card_of m) ≡ gaps (means m) = ap gaps (sym (closed_means m g.closed)) in (
        elim (means_of (state d) (state e) k (apps_after_commit (apps_in m) n ws) a turned) [ inl old ↦ ap gaps old ∙ own | inr new ↦ ap gaps new ∙ same ∙ own ],
        elim (map_of (state d) (state e) c k (apps_after_commit (apps_in m) n ws) a g turned) [
          | inl old ↦ ap length old
          | inr new ↦ ap length new ∙ ap length apps ∙ t.3.count ∙ sym (ap length s.map)
        ],
      )

  -- so good sites stay good
  pub store_spares : (d e : D) (c k : ℕ) (n : List ℕ) (ws : List (ℕ × List ℕ)) (a : Answer) → StoreDid state wrote d c (Commit n ws) a e k → StayGood (apps_in (state d).words) (store_room (state d)) (apps_in (state e).words) (store_room (state e))
  store_spares d e c k n ws a did = λ s good.
      let h = holes_stay d e c k n ws a did in
      record {
        limits = good.limits;
        few = subst (λ (x : ℕ). x < 32) (sym h.1) good.few;
        place = ap (λ (x : List (ℕ × ℕ)). first_fitting (words_of_sizes s.sizes) x) h.0 ∙ good.place;
      }

  -- the bytes of good sites stay
  pub store_leaves : (d e : D) (c k : ℕ) (n : List ℕ) (ws : List (ℕ × List ℕ)) (a : Answer) → StoreDid state wrote d c (Commit n ws) a e k → BytesStay (apps_in (state d).words) (store_room (state d)) (store_site_bytes (state d)) (store_site_bytes (state e))
  store_leaves d e c k n ws a did = λ s good p.
      let m = (state d).words in
      let g : Going (state d) c = going_is (state d) c did.going in
      let stand : SiteBytes m = site_bytes_of (state d) c g in
      let t = commit_of d e c k n ws a did in
      let x = t.0 in
      let list = static_writes x ws in
      let made : Makes wrote d (writes Two list) a e = subst (λ (y : App). Makes wrote d (writes Two (static_writes y ws)) a e) t.1 did.makes in
      let ends : AtomicEnds (state d) list a (state e) = atomic_ends state wrote obeys list d e a did.image g.on g.closed t.3.atomic made in
      let in-it : IsGoodIn m s = record { limits = good.limits; few = subst (λ (y : ℕ). y < 32) (ap length (stand.map ∙ sym stand.apps)) good.few; place = good.place } in
      let site : AtSite m s = at_site m s did.image g.closed stand.well in-it in
      let room : has_room s.place (words_of_sizes s.sizes) (gaps (card_of m)) ≡ true = subst (λ (y : Card). has_room s.place (words_of_sizes s.sizes) (gaps y) ≡ true) (closed_means m g.closed) site.room in
      let w = settled_words (state e).words in
      let now : part_in w s p ≡ part_in m s p =
      elim (settled_alike (state d) (state e) list a ends) [
        | inl old ↦ site_stays m w s p good.limits site.ends old.size (λ i low high. old.heap i (omega (arith, site.low)))
        | inr new ↦ site_stays m w s p good.limits site.ends (new.size ∙ length_laid m list) (λ i low high. new.heap i (omega (arith, site.low)) ∙ t.3.holes s.place (words_of_sizes s.sizes) i room low high)
      ] in
      now ∙ ap (λ (y : List (List ℕ)). part_in y s p) (sym stand.self)
