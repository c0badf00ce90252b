-- A creation as items of a store: the words of its record, and what its calls require.
use Rattle.std.proofs.Common.{◌≡◌, ◌⊎◌, ℕ, zero, suc, ◌+◌, ◌-◌, ◌%◌, ◌/◌, ◌<◌, ◌≤◌, true, false, List, [], ◌∷◌, ◌++◌, length, take, drop, map, Ok, Err, refl, sym, ◌∙◌, ap, inl, inr, arith, length-append}
use Rattle.std.specs.Prelude.{OnOk, slice_index_or}
use Rattle.std.proofs.lemmas.List.{drop_more, length-replicate, get_or_append_left}
use Rattle.std.proofs.Math.Seq.{drop-append-add}
use Rattle.mc_bank.specs.model_card.specs.declared.card.Sizes.{Sizes}
use Rattle.mc_bank.specs.model_card.specs.declared.card.Part.TheVariants.{Data}
use Rattle.mc_words.specs.model_device.specs.Orders.{Answer}
use Rattle.mc_words.specs.model_device.specs.Bytes.{zeros, bytes2, splice}
use Rattle.mc_words.specs.model_device.specs.Device.{DeviceState, IsSized, Wrote, Makes}
use Rattle.mc_words.specs.model_device.specs.Image.{Two, is_open, look, Closed}
use Rattle.mc_words.specs.model_device.specs.Stopped.{writes}
use Rattle.mc_words.specs.model_device.specs.Card.{means, word}
use Rattle.mc_words.specs.model_device.specs.Layout.{gaps, spans, put_at, step_of, IsWellLaid}
use Rattle.mc_bank.specs.model_card.specs.Items.{Site, Blank, Note, Enter}
use Rattle.mc_words.specs.Name.{IsName}
use Rattle.mc_blocks.specs.Plans.{plan, has_room}
use Rattle.mc_store.specs.Store.{is_going, words_of_sizes, part_from, record_bytes, record_word, card_with, count_after, IsGoodIn, IsInWord, IsReadySite, StoreDid}
use Rattle.mc_store.specs.GoingLaws.{Going, going_is}
use Rattle.mc_store.specs.AlikeLaws.{gates}
use Rattle.mc_store.specs.CreationLaws.{AtSite, at_site, Creates, creates_plan}
use Rattle.mc_store.specs.TurnLaws.{SiteBytes, site_bytes_of, blanked}
use Rattle.mc_store.specs.StoreItems.{blank_items}
use Rattle.mc_store.proofs.FillLemmas.{good_on, blank_on, note_on, parts_step}

-- ---- the words of a record

-- eight bytes from one on
eight : (l : List ℕ) (i : ℕ) → i + 8 ≤ length l → take 8 (drop i l)
    ≡ slice_index_or l i 0 ∷ slice_index_or l (i + 1) 0 ∷ slice_index_or l (i + 1 + 1) 0 ∷ slice_index_or l (i + 1 + 1 + 1) 0 ∷ slice_index_or l (i + 1 + 1 + 1 + 1) 0 ∷ slice_index_or l (i + 1 + 1 + 1 + 1 + 1) 0 ∷ slice_index_or l (i + 1 + 1 + 1 + 1 + 1 + 1) 0 ∷ slice_index_or l (i + 1 + 1 + 1 + 1 + 1 + 1 + 1) 0 ∷ []
eight l i h = grind (arith, drop_more)

abbrev behind : Sizes → List ℕ → List ℕ
behind s n = length n ∷ s.dir ∷ s.fci ∷ 0 ∷ (bytes2 s.code ++ bytes2 s.fixed ++ bytes2 s.session ++ bytes2 s.deny ++ zeros 4)

front_size : (n r : List ℕ) → IsName n → r ≡ n ++ zeros (16 - length n) → length r ≡ 16
front_size n r is e = let a = ap length e ∙ length-append n (zeros (16 - length n)) in let f = length-replicate {A = ℕ} (16 - length n) 0 in omega (arith, a, f, is)

of_front : (s : Sizes) (n r : List ℕ) (i : ℕ) → IsName n → r ≡ n ++ zeros (16 - length n) → i < 16 → slice_index_or (record_bytes s n) i 0 ≡ slice_index_or r i 0
of_front s n r i is e lt =
    ap (λ (l : List ℕ). slice_index_or (l ++ behind s n) i 0) (sym e) ∙ get_or_append_left r (behind s n) 0 i (let f = front_size n r is e in omega (arith, f))

record_long : (s : Sizes) (n : List ℕ) → IsName n → 16 ≤ length (record_bytes s n)
record_long s n is = let a = length-append (n ++ zeros (16 - length n)) (behind s n) in let f = front_size n (n ++ zeros (16 - length n)) is refl in omega (arith, a, f)

pub first_word : (s : Sizes) (n r : List ℕ) (k : ℕ) → IsName n → r ≡ n ++ zeros (16 - length n) → k ≡ 0
    → slice_index_or r 0 0 ∷ slice_index_or r 1 0 ∷ slice_index_or r 2 0 ∷ slice_index_or r 3 0 ∷ slice_index_or r 4 0 ∷ slice_index_or r 5 0 ∷ slice_index_or r 6 0 ∷ slice_index_or r 7 0 ∷ [] ≡ record_word s n k
first_word s n r k is e none = grind (arith, eight, record_long, of_front)

pub second_word : (s : Sizes) (n r : List ℕ) (k : ℕ) → IsName n → r ≡ n ++ zeros (16 - length n) → k ≡ 1
    → slice_index_or r 8 0 ∷ slice_index_or r 9 0 ∷ slice_index_or r 10 0 ∷ slice_index_or r 11 0 ∷ slice_index_or r 12 0 ∷ slice_index_or r 13 0 ∷ slice_index_or r 14 0 ∷ slice_index_or r 15 0 ∷ [] ≡ record_word s n k
second_word s n r k is e one = grind (arith, eight, record_long, of_front)

pub last_word : (s : Sizes) (n : List ℕ) (k : ℕ) (w : List ℕ) → IsName n → k ≡ 3 → w ≡ bytes2 s.session ++ bytes2 s.deny ++ zeros 4 → w ≡ record_word s n k
last_word s n k w is three e =
    let f : length (n ++ zeros (16 - length n)) ≡ 16 = front_size n (n ++ zeros (16 - length n)) is refl in
    e ∙ sym (ap (λ (x : ℕ). record_word s n x) three ∙ ap (λ (t : ℕ). take 8 (drop (t + 8) (record_bytes s n))) (sym f) ∙ ap (λ (l : List ℕ). take 8 l) (drop-append-add (n ++ zeros (16 - length n)) (behind s n) 8))

-- ---- the creation itself

pub record EnterIs (d : DeviceState) (c : ℕ) (s : Site) (n : List ℕ) : Type 0 where
  pub on : d.on ≡ true
  pub closed : look d.words ≡ Closed
  pub well : IsWellLaid d.words
  pub gate : is_open Two d.words ≡ false
  pub room : has_room s.place (words_of_sizes s.sizes) (gaps (means d.words)) ≡ true
  pub few : c < 32
  pub plan : plan (means d.words) (put_at s.place (words_of_sizes s.sizes) (spans (means d.words))) ≡ step_of (means d.words) (card_with d.words s n)

pub enter_is : (d : DeviceState) (c : ℕ) (s : Site) (n : List ℕ) → IsSized d.words → is_going d c ≡ true → IsReadySite d.words s n → EnterIs d c s n
enter_is d c s n image going ready =
    let m = d.words in
    let g : Going d c = going_is d c going in
    let t : SiteBytes m = site_bytes_of d c g in
    let site : AtSite m s = at_site m s image g.closed t.well ready.good in
    let p : Creates m s n = creates_plan m s n image g.closed t.well ready.good ready.fresh in
    let few : length (means m).apps < 32 = ready.good.few in
    let old : c ≡ length (means m).apps = g.count ∙ sym (ap length t.apps) in
    record { on = g.on; closed = g.closed; well = t.well; gate = (gates m g.closed).two; room = site.room; few = omega (arith, few, old); plan = sym p.plan }

module _ {D : Type 0} (state : D → DeviceState) (wrote : D → ℕ → List ℕ → Answer → D → Type 0) where
  pub enter_did : (d e : D) (c p need : ℕ) (s : Site) (n : List ℕ) (items : List (ℕ × List ℕ)) (a : Answer) → IsSized (state d).words → is_going (state d) c ≡ true → IsReadySite (state d).words s n → p ≡ s.place → need ≡ words_of_sizes s.sizes
      → items ≡ plan (means (state d).words) (put_at p need (spans (means (state d).words))) → Makes wrote d (writes Two items) a e → StoreDid state wrote d c (Enter s n) a e (count_after (Enter s n) a c)
  enter_did d e c p need s n items a image going ready place sizes is made = grind (arith, enter_is (state d) c s n image going ready)

-- ---- zeros and the words of the record

pub blank_word : (d : DeviceState) (c : ℕ) (s : Site) (at n : ℕ) → IsSized d.words → is_going d c ≡ true → IsGoodIn d.words s → IsInWord s.sizes.fixed at n → part_from Data s.sizes s.place + at / 8 < length d.words
blank_word d c s at n image going good i =
    grind (arith, going_is d c going, at_site d.words s image (going_is d c going).closed (site_bytes_of d c (going_is d c going)).well good, blanked s.sizes s.place at n i)

pub note_word : (d : DeviceState) (c : ℕ) (s : Site) (i : ℕ) → IsSized d.words → is_going d c ≡ true → IsGoodIn d.words s → i < 4 → s.place + 1 + i < length d.words
note_word d c s i image going good few =
    grind (arith, going_is d c going, at_site d.words s image (going_is d c going).closed (site_bytes_of d c (going_is d c going)).well good)

pub zeros_front : (n k : ℕ) → n ≤ k → take n (zeros k) ≡ zeros n
zeros_front zero k h = refl
zeros_front (suc n) zero h = absurd (omega arith)
zeros_front (suc n) (suc k) h = ap (λ (l : List ℕ). 0 ∷ l) (zeros_front n k (omega arith))

module _ {D : Type 0} (state : D → DeviceState) (wrote : D → ℕ → List ℕ → Answer → D → Type 0)
    (obeys : (d : D) (at : ℕ) (w : List ℕ) (a : Answer) (e : D) → (state d).on ≡ true → wrote d at w a e → Wrote (state d) at w a (state e)) where
  one_write : (d e : D) (at : ℕ) (w : List ℕ) (a : Answer) → wrote d at w a e → Makes wrote d ((at, w) ∷ []) a e
  one_write d e at w (Ok u) h = inl (e, h, refl)
  one_write d e at w (Err s) h = inr (s, h, refl)

  pub blank_did : (d e : D) (c : ℕ) (s : Site) (at n from : ℕ) (b : List ℕ) (a : Answer) → IsSized (state d).words → is_going (state d) c ≡ true → IsGoodIn (state d).words s → IsInWord s.sizes.fixed at n → from ≡ part_from Data s.sizes s.place → b ≡ zeros n
      → wrote d (from + at / 8) (splice (word (state d).words (from + at / 8)) (at % 8) b) a e → StoreDid state wrote d c (Blank s at n) a e c
  blank_did d e c s at n from b a image going good i is clear made = grind (arith, one_write)

  pub note_did : (d e : D) (c : ℕ) (s : Site) (n : List ℕ) (i place : ℕ) (w : List ℕ) (a : Answer) → IsSized (state d).words → is_going (state d) c ≡ true → IsGoodIn (state d).words s → IsName n → i < 4 → place ≡ s.place → w ≡ record_word s.sizes n i
      → wrote d (place + 1 + i) w a e → StoreDid state wrote d c (Note s n i) a e c
  note_did d e c s n i place w a image going good name few at is made = grind (arith, one_write)

  pub blank_going : (d e : D) (c : ℕ) (s : Site) (at n : ℕ) (a : Answer) → StoreDid state wrote d c (Blank s at n) a e c → OnOk a (is_going (state e) c ≡ true)
  blank_going d e c s at n (Ok tt) did = (blank_on state wrote obeys d e c s at n did).going
  blank_going d e c s at n (Err t) did = tt

  pub blank_good : (d e : D) (c : ℕ) (s : Site) (at n : ℕ) (a : Answer) → IsGoodIn (state d).words s → StoreDid state wrote d c (Blank s at n) a e c → OnOk a (IsGoodIn (state e).words s)
  blank_good d e c s at n (Ok tt) good did = good_on (state d) (state e) c s (blank_on state wrote obeys d e c s at n did) good
  blank_good d e c s at n (Err t) good did = tt

  pub note_going : (d e : D) (c : ℕ) (s : Site) (n : List ℕ) (i : ℕ) (a : Answer) → StoreDid state wrote d c (Note s n i) a e c → OnOk a (is_going (state e) c ≡ true)
  note_going d e c s n i (Ok tt) did = (note_on state wrote obeys d e c s n i did).going
  note_going d e c s n i (Err t) did = tt

  pub note_good : (d e : D) (c : ℕ) (s : Site) (n : List ℕ) (i : ℕ) (a : Answer) → IsGoodIn (state d).words s → StoreDid state wrote d c (Note s n i) a e c → OnOk a (IsGoodIn (state e).words s)
  note_good d e c s n i (Ok tt) good did = good_on (state d) (state e) c s (note_on state wrote obeys d e c s n i did) good
  note_good d e c s n i (Err t) good did = tt

-- ---- zeros after the data

zeros_drop : (j k : ℕ) → j ≤ k → drop j (zeros k) ≡ zeros (k - j)
zeros_drop zero k h = ap zeros (let e : k ≡ k - 0 = omega arith in e)
zeros_drop (suc j) zero h = absurd (omega arith)
zeros_drop (suc j) (suc k) h = zeros_drop j k (omega arith) ∙ ap zeros (let e : k - j ≡ suc k - suc j = omega arith in e)

-- the zeros from one on, as a loop has them
pub blank_next : (s : Site) (at j end : ℕ) → at < end → 1 ≤ j → j ≤ end - at → at % 8 + j ≤ 8 → (j ≡ end - at) ⊎ (at % 8 + j ≡ 8) → blank_items s at (zeros (end - at)) ≡ Blank s at j ∷ blank_items s (at + j) (zeros (end - (at + j)))
blank_next s at j end lt some few fits least =
    let b = zeros (end - at) in
    let long : length b ≡ end - at = length-replicate {A = ℕ} (end - at) 0 in
    ap (λ (l : List (ℕ × List ℕ)). map (λ (c : ℕ × List ℕ). Blank s c.0 (length c.1)) l) (parts_step at j b some (omega (arith, long, few)) fits (elim least [ inl all ↦ inl (all ∙ sym long) | inr full ↦ inr full ]))
    ∙ ap (λ (k : ℕ). Blank s at k ∷ blank_items s (at + j) (drop j b)) (ap length (zeros_front j (end - at) few) ∙ length-replicate {A = ℕ} j 0)
    ∙ ap (λ (l : List ℕ). Blank s at j ∷ blank_items s (at + j) l) (zeros_drop j (end - at) few ∙ ap zeros (let e : end - at - j ≡ end - (at + j) = omega arith in e))
