-- The results of the calls of a store that read.
use Rattle.std.proofs.Common.{◌≡◌, ℕ, suc, cond, ◌+◌, ◌*◌, ◌<◌, ◌≤◌, Bool, true, false, not, List, [], ◌∷◌, length, take, drop, Option, Some, None, Ok, Err, refl, sym, ◌∙◌, ap, subst, arith}
use Rattle.std.specs.Prelude.{IsSome, IfSome, option_map, IfOk, Result, is_some, nat_le}
use Rattle.std.proofs.lemmas.Bool.{leb-false}
use Rattle.mc_bank.specs.model_card.specs.declared.card.Part.{Part}
use Rattle.mc_bank.specs.model_card.specs.declared.card.Sizes.{Sizes}
use Rattle.mc_bank.specs.model_card.specs.declared.card.OpenRefusal.{OpenRefusal}
use Rattle.mc_words.specs.model_device.specs.Bytes.{up, lookup}
use Rattle.mc_words.specs.model_device.specs.Device.{DeviceState, IsSized}
use Rattle.mc_words.specs.model_device.specs.Card.{App, Card, record_at, name_at, app_at, section, blocks, means}
use Rattle.mc_words.specs.model_device.specs.Layout.{words_fault, gaps, IsWellLaid}
use Rattle.mc_words.specs.model_device.specs.Image.{look, Closed}
use Rattle.mc_bank.specs.model_card.specs.Items.{Site}
use Rattle.mc_bank.specs.Bank.{app_of, sizes_of, FitsLimits, AreApps, search_result, IsGoodSite, HasParts, part_len}
use Rattle.mc_bank.specs.Slots.{slot_place, slot_sizes}
use Rattle.mc_bank.specs.SlotLaws.{name_there, some_there, slot_sized, slot_named}
use Rattle.mc_blocks.specs.Chains.{count_of_searched_gaps}
use Rattle.mc_store.specs.Store.{apps_in, search_steps, is_going, place_named, store_named, store_room, store_site_bytes, name_of_place, part_from, part_in, words_of_sizes}
use Rattle.mc_store.specs.Slots.{first_named, record_sizes, IsUsedBlock, part_of_app, flat}
use Rattle.mc_store.specs.GoingLaws.{Going, closed_settled}
use Rattle.mc_blocks.proofs.Sections.{length_section}
use Rattle.mc_store.specs.CreationLaws.{AtSite, at_site}
use Rattle.mc_store.proofs.RecordLemmas.{RecordIs, record_is}
use Rattle.mc_store.proofs.FlatLemmas.{section_bytes}
use Rattle.mc_store.proofs.SlotLemmas.{runs, map_is, name_there as found_there, name_slot, are_apps, sizes_are, fits_limits, Slot, slot}
use Rattle.mc_words.specs.model_device.proofs.LayoutLemmas.{closed_fault, closed_means}

-- ---- sections

part_ends : (m : List (List ℕ)) (k : ℕ) (p : Part) → IsUsedBlock m k → part_from p (record_sizes (record_at m k)) k + up (part_len p (record_sizes (record_at m k))) 8 ≤ length m
part_ends m k p b = grind (arith, RecordIs, record_is)

part_is : (m : List (List ℕ)) (k : ℕ) (p : Part) → part_of_app p (app_at m k) ≡ section m (part_from p (record_sizes (record_at m k)) k) (part_len p (record_sizes (record_at m k)))
part_is m k p = grind arith

-- bytes of a section of a slot
pub record ReadsSection (d : DeviceState) (k : ℕ) (p : Part) (at count from : ℕ) : Type 0 where
  pub inside : 8 * from + at + count ≤ 8 * length d.words
  pub bytes : take count (drop (8 * from + at) (flat d.words)) ≡ take count (drop at (part_of_app p (app_of (apps_in d.words) (store_named d k))))

-- the application of a slot, at its place
pub record OfSlot (d : DeviceState) (j : ℕ) : Type 0 where
  pub at : Slot d (slot_place j)
  pub name : store_named d j ≡ Some (name_at d.words (slot_place j))
  pub app : app_of (apps_in d.words) (store_named d j) ≡ app_at d.words (slot_place j)
  pub sizes : slot_sizes j ≡ record_sizes (record_at d.words (slot_place j))

pub of_slot : (d : DeviceState) (c j : ℕ) → IsSized d.words → not (is_going d c) ≡ false → IsSome (store_named d j) → OfSlot d j
of_slot d c j image h some =
    let k = slot_place j in
    let same : store_named d j ≡ place_named d k = name_there (apps_in d.words) j (place_named d k) some in
    let s : Slot d k = slot d c k image h (some_there (apps_in d.words) j (place_named d k) some) in
    let app : app_of (apps_in d.words) (store_named d j) ≡ app_at d.words k = ap (λ (o : Option (List ℕ)). app_of (apps_in d.words) o) same ∙ s.app in
    record {
      at = s;
      name = same ∙ s.name;
      app = app;
      sizes = slot_sized (apps_in d.words) j (place_named d k) some ∙ ap sizes_of app ∙ sizes_are d.words image (runs d c h).laid k s.block;
    }

pub reads : (d : DeviceState) (c k : ℕ) (p : Part) (at count from : ℕ) → IsSized d.words → not (is_going d c) ≡ false → IsSome (store_named d k)
    → at + count ≤ length (part_of_app p (app_of (apps_in d.words) (store_named d k))) → from ≡ part_from p (slot_sizes k) (slot_place k) → ReadsSection d k p at count from
reads d c k p at count from image h some range place =
    let m = d.words in
    let s : OfSlot d k = of_slot d c k image h some in
    let sizes = record_sizes (record_at m (slot_place k)) in
    let q = part_from p sizes (slot_place k) in
    let n = part_len p sizes in
    let is : from ≡ q = place ∙ ap (λ (z : Sizes). part_from p z (slot_place k)) s.sizes in
    let ends : q + up n 8 ≤ length m = part_ends m (slot_place k) p s.at.block in
    let part : part_of_app p (app_of (apps_in m) (store_named d k)) ≡ section m q n = ap (λ (a : App). part_of_app p a) s.app ∙ part_is m (slot_place k) p in
    let long : length (part_of_app p (app_of (apps_in m) (store_named d k))) ≡ n = ap length part ∙ length_section m q n image ends in
    record {
      inside = omega (arith, is, ends, long, range);
      bytes = ap (λ (x : ℕ). take count (drop (8 * x + at) (flat m))) is
          ∙ section_bytes m image q n at count ends (omega (arith, long, range))
          ∙ ap (λ (l : List ℕ). take count (drop at l)) (sym part);
    }

-- ---- names and facts

pub good_words : (d : DeviceState) (c : ℕ) → not (is_going d c) ≡ false → words_fault d.words ≡ None
good_words d c h = (runs d c h).laid

pub is_there : (d : DeviceState) (c : ℕ) (n : List ℕ) (o : Option ℕ) → IsSized d.words → not (is_going d c) ≡ false → o ≡ first_named d.words (blocks d.words) n → is_some o ≡ is_some (lookup (apps_in d.words) n)
is_there d c n o image h is = found_there d.words image (good_words d c h) n o is ∙ ap (λ (es : List (List ℕ × App)). is_some (lookup es n)) (sym (map_is d c h))

is_place : (d : DeviceState) (c : ℕ) (n : List ℕ) (p : ℕ) → IsSized d.words → not (is_going d c) ≡ false → Some p ≡ first_named d.words (blocks d.words) n → place_named d p ≡ Some n
is_place d c n p image h is = ap (λ (es : List (List ℕ × App)). name_of_place es p) (map_is d c h) ∙ name_slot d.words image (good_words d c h) n p is

is_slot : (d : DeviceState) (c : ℕ) (n : List ℕ) (k : ℕ) → IsSized d.words → not (is_going d c) ≡ false → Some (slot_place k) ≡ first_named d.words (blocks d.words) n
    → slot_sizes k ≡ record_sizes (record_at d.words (slot_place k)) → store_named d k ≡ Some n
is_slot d c n k image h is sizes =
    let p = slot_place k in
    let named : place_named d p ≡ Some n = is_place d c n p image h is in
    let s : Slot d p = slot d c p image h (ap (λ (o : Option (List ℕ)). is_some o) named) in
    slot_named (apps_in d.words) k (place_named d p) n named
    (sizes ∙ sym (sizes_are d.words image (good_words d c h) p s.block) ∙ ap sizes_of (sym s.app) ∙ ap (λ (o : Option (List ℕ)). sizes_of (app_of (apps_in d.words) o)) named)

-- the slot that a search for a name found
pub record FindsSlot (d : DeviceState) (n : List ℕ) (r : Option ℕ) : Type 0 where
  pub there : is_some r ≡ is_some (lookup (apps_in d.words) n)
  pub slot : IfSome r (λ k. store_named d k ≡ Some n)

pub finds_slot : (d : DeviceState) (c : ℕ) (n : List ℕ) (r : Option ℕ) → IsSized d.words → not (is_going d c) ≡ false → option_map slot_place r ≡ first_named d.words (blocks d.words) n
    → IfSome r (λ k. slot_sizes k ≡ record_sizes (record_at d.words (slot_place k))) → FindsSlot d n r
finds_slot d c n None image h is sizes = record { there = is_there d c n None image h is; slot = tt }
finds_slot d c n (Some k) image h is sizes =
    record { there = is_there d c n (Some (slot_place k)) image h is; slot = is_slot d c n k image h is sizes }

-- the facts of the application of a slot
pub record SlotReported (d : DeviceState) (k : ℕ) (n : List ℕ) (z : Sizes) : Type 0 where
  pub name : store_named d k ≡ Some n
  pub app : IsSome (lookup (apps_in d.words) n)
  pub sizes : z ≡ sizes_of (app_of (apps_in d.words) (store_named d k))
  pub limits : FitsLimits z

pub reported : (d : DeviceState) (c k : ℕ) (n : List ℕ) (z : Sizes) → IsSized d.words → not (is_going d c) ≡ false → IsSome (store_named d k) → n ≡ name_at d.words (slot_place k) → z ≡ slot_sizes k → SlotReported d k n z
reported d c k n z image h some named sized =
    let m = d.words in
    let s : OfSlot d k = of_slot d c k image h some in
    let known : z ≡ record_sizes (record_at m (slot_place k)) = sized ∙ s.sizes in
    record {
      name = s.name ∙ ap (λ (x : List ℕ). Some x) (sym named);
      app = subst (λ (o : Option App). IsSome o) (sym (ap (λ (x : List ℕ). lookup (apps_in m) x) named ∙ s.at.there)) refl;
      sizes = known ∙ sym (sizes_are m image (good_words d c h) (slot_place k) s.at.block) ∙ ap sizes_of (sym s.app);
      limits = subst (λ (x : Sizes). FitsLimits x) (sym known) (fits_limits m image (good_words d c h) (slot_place k) s.at.block);
    }

pub counted : (d : DeviceState) (c : ℕ) → not (is_going d c) ≡ false → c ≡ length (apps_in d.words)
counted d c h = (runs d c h).count ∙ ap length (sym (map_is d c h))

pub all_apps : (d : DeviceState) (c : ℕ) → IsSized d.words → not (is_going d c) ≡ false → AreApps (apps_in d.words)
all_apps d c image h = subst (λ (es : List (List ℕ × App)). AreApps es) (sym (map_is d c h)) (are_apps d.words image (good_words d c h) (runs d c h).closed)

-- ---- room

pub no_journal : (d : DeviceState) (c : ℕ) → not (is_going d c) ≡ false → look d.words ≡ Closed
no_journal d c h = (runs d c h).closed

pub well_laid : (d : DeviceState) (c : ℕ) → not (is_going d c) ≡ false → IsWellLaid d.words
well_laid d c h = closed_fault d.words (no_journal d c h) ∙ good_words d c h

pub answers : (d : DeviceState) (c : ℕ) (s : Sizes) (r : Result Site OpenRefusal) → not (is_going d c) ≡ false → r ≡ search_result s (nat_le 32 c) (store_room d s) → r ≡ search_result s (nat_le 32 (length (apps_in d.words))) (store_room d s)
answers d c s r h is = is ∙ ap (λ (n : ℕ). search_result s (nat_le 32 n) (store_room d s)) (counted d c h)

looked_few : (n : ℕ) (gs : List (ℕ × ℕ)) → count_of_searched_gaps n gs ≤ length gs
looked_few n [] = omega arith
looked_few n (g ∷ gs) = by_test (nat_le n g.1) (looked_few n gs)
  where
    by_test : (t : Bool) → count_of_searched_gaps n gs ≤ length gs → suc (cond t 0 (count_of_searched_gaps n gs)) ≤ suc (length gs)
    by_test true h = omega arith
    by_test false h = omega arith

-- the steps of a search for room
pub record OpenSteps (d : DeviceState) (old new : ℕ) : Type 0 where
  pub rises : old ≤ new
  pub ticks : new ≤ old + (2 + length (gaps (means d.words)))
  pub full : 32 ≤ length (apps_in d.words) → new ≡ old

pub open_steps : (d : DeviceState) (c n old new : ℕ) → not (is_going d c) ≡ false → new ≡ old + search_steps c n (gaps (means d.words)) → OpenSteps d old new
open_steps d c n old new h is = by_test (nat_le 32 c) refl is
  where
    by_test : (t : Bool) → nat_le 32 c ≡ t → new ≡ old + cond t 0 (1 + count_of_searched_gaps n (gaps (means d.words))) → OpenSteps d old new
    by_test true e k = record { rises = omega arith; ticks = omega arith; full = λ many. omega (arith, k) }
    by_test false e k =
        let few = looked_few n (gaps (means d.words)) in
        let past = leb-false 32 c e in
        let count = counted d c h in
        record { rises = omega arith; ticks = omega (arith, k, few); full = λ many. absurd (omega (arith, many, past, count)) }

site_by : (apps : List (List ℕ × App)) (room : Sizes → Option ℕ) (s : Sizes) (t : Bool) (o : Option ℕ) → FitsLimits s → nat_le 32 (length apps) ≡ t → room s ≡ o → IfOk (search_result s t o) (λ site. IsGoodSite apps room site)
site_by apps room s t o limits e f = grind (arith, leb-false)

pub good_site : (apps : List (List ℕ × App)) (room : Sizes → Option ℕ) (s : Sizes) (r : Result Site OpenRefusal) → FitsLimits s → r ≡ search_result s (nat_le 32 (length apps)) (room s) → IfOk r (λ site. IsGoodSite apps room site)
good_site apps room s r limits is = subst (λ (x : Result Site OpenRefusal). IfOk x (λ site. IsGoodSite apps room site)) (sym is) (site_by apps room s (nat_le 32 (length apps)) (room s) limits refl refl)

-- the sections of a good site have their lengths
site_parts : (d : DeviceState) (c : ℕ) (s : Site) → IsSized d.words → not (is_going d c) ≡ false → IsGoodSite (apps_in d.words) (store_room d) s → HasParts s (store_site_bytes d s)
unfolding part_in
site_parts d c s image h good p =
    let m = d.words in
    let g : Going d c = runs d c h in
    let fewer : length (means m).apps < 32 = subst (λ (n : ℕ). n < 32) (ap length (map_is d c h ∙ ap (λ (x : Card). x.apps) (sym (closed_means m g.closed)))) good.few in
    let at : AtSite m s = at_site m s image g.closed (well_laid d c h) (record { limits = good.limits; few = fewer; place = good.place }) in
    ap (λ (w : List (List ℕ)). length (section w (part_from p s.sizes s.place) (part_len p s.sizes))) (closed_settled m g.closed)
    ∙ length_section m (part_from p s.sizes s.place) (part_len p s.sizes) image (by_part p good.limits at.ends)
  where
    by_part : (q : Part) → FitsLimits s.sizes → s.place + words_of_sizes s.sizes ≤ length d.words → part_from q s.sizes s.place + up (part_len q s.sizes) 8 ≤ length d.words
    by_part q l e = grind arith

pub open_parts : (d : DeviceState) (c : ℕ) (r : Result Site OpenRefusal) → IsSized d.words → not (is_going d c) ≡ false → IfOk r (λ site. IsGoodSite (apps_in d.words) (store_room d) site) → IfOk r (λ site. HasParts site (store_site_bytes d site))
open_parts d c (Ok s) image h good = site_parts d c s image h good
open_parts d c (Err e) image h good = tt
