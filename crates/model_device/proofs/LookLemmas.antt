-- A look at a journal depends on the journal's words alone, and finds what was written there.
use Rattle.std.proofs.Common.{◌≡◌, ◌⊎◌, ℕ, zero, suc, ◌+◌, ◌-◌, ◌*◌, ◌<◌, ◌≤◌, Bool, true, false, ◌&&◌, List, [], ◌∷◌, ◌++◌, length, take, drop, Option, Some, None, Result, Ok, Err, refl, sym, ◌∙◌, ap, subst, inl, inr, arith, add-one, length-append, length-take}
use Rattle.std.proofs.lemmas.Bool.{leb-true, and_parts}
use Rattle.std.specs.Prelude.{nat_le, bytes_eq}
use Rattle.std.specs.List.{AllByRecursion}
use Rattle.model_device.specs.Bytes.{AreBytes, up}
use Rattle.model_device.specs.Device.{IsImage}
use Rattle.model_device.specs.Image.{Journal, One, Two, opening, gate, word_at, is_open, is_count, within, when, number, count, one_before, targets_1, four, all_zero, ascend, after_all, all_before, targets_2, targets, value, pairs, Look, Refused, Closed, Pending, debt, look_by_targets, look_by_head, look_by_gate, look_j}
use Rattle.model_device.specs.Stopped.{InJournal}
use Rattle.model_device.proofs.ImageLemmas.{all_append}

-- ---- equal words in a journal, equal looks

-- two images of one size with the same words in journal j
pub record SameInside (j : Journal) (m n : List (List ℕ)) : Type 0 where
  pub size : length m ≡ length n
  pub words : (i : ℕ) → InJournal j i → word_at m i ≡ word_at n i

pub gate_inside : (j : Journal) → InJournal j (gate j)
gate_inside One = (omega arith, omega arith)
gate_inside Two = inr refl

pub head_inside : (j : Journal) → InJournal j 2
head_inside One = (omega arith, omega arith)
head_inside Two = inl (omega arith, omega arith)

pub outside_two : (i : ℕ) → (i ≡ 0) ⊎ (131 ≤ i) → InJournal Two i → ⊥
outside_two i h h2 = grind arith

same_1 : (m n : List (List ℕ)) → SameInside One m n → (c i : ℕ) → i + c ≤ 64 → targets_1 m i c ≡ targets_1 n i c
unfolding targets_1
same_1 m n s zero i h = refl
same_1 m n s (suc c) i h =
    rw (s.words (3 + 2 * i) (omega arith, omega arith), s.size, same_1 m n s c (i + 1) (omega arith))

same_2 : (m n : List (List ℕ)) → SameInside Two m n → (k i c least : ℕ) → i + k ≤ 16 → targets_2 m i k c least ≡ targets_2 n i k c least
unfolding targets_2
same_2 m n s zero i c least h = refl
same_2 m n s (suc k) i c least h =
    rw (s.words (3 + i) (inl (omega arith, omega arith)), s.size, same_2 m n s k (i + 1) (c - 4) _ (omega arith))

up_four : (c : ℕ) → c ≤ 64 → up c 4 ≤ 16
up_four c h = omega arith

same_targets : (j : Journal) (m n : List (List ℕ)) → SameInside j m n → (c : ℕ) → c ≤ 64 → targets j m c ≡ targets j n c
same_targets One m n s c h = same_1 m n s c 0 (omega arith)
same_targets Two m n s c h = same_2 m n s (up c 4) 0 c 0 (omega (arith, up_four c h))

value_inside : (j : Journal) (m n : List (List ℕ)) → SameInside j m n → (i : ℕ) → i < 64 → value j m i ≡ value j n i
value_inside One m n s i h = s.words (4 + 2 * i) (omega arith, omega arith)
value_inside Two m n s i h = s.words (19 + i) (inl (omega arith, omega arith))

same_pairs : (j : Journal) (m n : List (List ℕ)) → SameInside j m n → (ts : List ℕ) (i : ℕ) → i + length ts ≤ 64 → pairs j m i ts ≡ pairs j n i ts
unfolding pairs
same_pairs j m n s [] i h = refl
same_pairs j m n s (t ∷ ts) i h =
    rw (value_inside j m n s i (omega arith), same_pairs j m n s ts (i + 1) (omega arith))

-- ---- what a look that is pending has

when_some : (b : Bool) (n c : ℕ) → when b n ≡ Some c → (b ≡ true) × (n ≡ c)
when_some true n c h = (refl, cc)
when_some false n c h = absurd (cc h)

-- a number passed its test
number_test : (test : ℕ → Bool) (g : List ℕ) (c : ℕ) → number test g ≡ Some c → test c ≡ true
number_test test g c h = grind (arith, when_some, and_parts)

pub count_range : (c : ℕ) → is_count c ≡ true → (1 ≤ c) × (c ≤ 64)
count_range c h = let b : (nat_le 1 c ≡ true) × (nat_le c 64 ≡ true) = and_parts (nat_le 1 c) (nat_le c 64) h in (leb-true 1 c b.0, leb-true c 64 b.1)

-- targets that were found: each is within, and there are at most 64
pub record GoodTargets (size most : ℕ) (ts : List ℕ) : Type 0 where
  pub all : AllByRecursion (λ t. within size t ≡ true) ts
  pub few : length ts ≤ most

good_one : (size most p : ℕ) (o : Option ℕ) (rest : Result (List ℕ) ℕ) (ts : List ℕ) → ((t : ℕ) → o ≡ Some t → within size t ≡ true)
    → ((us : List ℕ) → rest ≡ Ok us → GoodTargets size most us) → one_before o p rest ≡ Ok ts → GoodTargets size (most + 1) ts
good_one size most p None rest ts ht hr h = absurd (cc h)
good_one size most p (Some t) (Err q) ts ht hr h = absurd (cc h)
good_one size most p (Some t) (Ok us) ts ht hr h =
    let is : t ∷ us ≡ ts = cc in
    let good : GoodTargets size most us = hr us refl in
    subst (λ (l : List ℕ). GoodTargets size (most + 1) l) is (record { all = (ht t refl, good.all); few = let few : length us ≤ most = good.few in omega arith })

good_1 : (m : List (List ℕ)) (i c : ℕ) (ts : List ℕ) → targets_1 m i c ≡ Ok ts → GoodTargets (length m) c ts
unfolding targets_1
good_1 m i zero ts h = let is : [] ≡ ts = cc in subst (λ (l : List ℕ). GoodTargets (length m) 0 l) is (record { all = tt; few = omega arith })
good_1 m i (suc c) ts h =
    subst (λ (n : ℕ). GoodTargets (length m) n ts) (add-one c)
    (good_one (length m) c (3 + 2 * i) (number (within (length m)) (word_at m (3 + 2 * i))) (targets_1 m (i + 1) c) ts
    (λ t e. number_test (within (length m)) (word_at m (3 + 2 * i)) t e) (λ us e. good_1 m (i + 1) c us e) h)

pub all_within : (size least : ℕ) (ts : List ℕ) → ascend size least ts ≡ true → AllByRecursion (λ t. within size t ≡ true) ts
all_within size least [] h = tt
all_within size least (t ∷ ts) h =
    let a : (nat_le least t ≡ true) × ((within size t && ascend size (t + 1) ts) ≡ true) = and_parts (nat_le least t) (within size t && ascend size (t + 1) ts) h in
    let b : (within size t ≡ true) × (ascend size (t + 1) ts ≡ true) = and_parts (within size t) (ascend size (t + 1) ts) a.1 in
    (b.0, all_within size (t + 1) ts b.1)

good_all : (size least most p : ℕ) (past now : List ℕ) (rest : Result (List ℕ) ℕ) (ts : List ℕ) → length now ≤ 4
    → ((us : List ℕ) → rest ≡ Ok us → GoodTargets size most us) → (b : Bool) → (all_zero past && ascend size least now) ≡ b → all_before b now p rest ≡ Ok ts → GoodTargets size (most + 4) ts
good_all size least most p past now rest ts few hr false hb h = absurd (cc h)
good_all size least most p past now (Err q) ts few hr true hb h = absurd (cc h)
good_all size least most p past now (Ok us) ts few hr true hb h =
    let is : now ++ us ≡ ts = cc in
    let good : GoodTargets size most us = hr us refl in
    subst (λ (l : List ℕ). GoodTargets size (most + 4) l) is
    (record {
      all = all_append (λ t. within size t ≡ true) now us (all_within size least now (and_parts (all_zero past) (ascend size least now) hb).1) good.all;
      few = let fewer : length us ≤ most = good.few in omega (arith, length-append now us);
    })

few_four : (c : ℕ) (g : List ℕ) → length (take c (four g)) ≤ 4
few_four c g = omega (arith, length-take c (four g))

good_2 : (m : List (List ℕ)) (k i c least : ℕ) (ts : List ℕ) → targets_2 m i k c least ≡ Ok ts → GoodTargets (length m) (4 * k) ts
unfolding targets_2
good_2 m zero i c least ts h = let is : [] ≡ ts = cc in subst (λ (l : List ℕ). GoodTargets (length m) 0 l) is (record { all = tt; few = omega arith })
good_2 m (suc k) i c least ts h =
    let e : 4 * k + 4 ≡ 4 * suc k = omega arith in
    let all = four (word_at m (3 + i)) in
    subst (λ (n : ℕ). GoodTargets (length m) n ts) e
    (good_all (length m) least (4 * k) (3 + i) (drop c all) (take c all) (targets_2 m (i + 1) k (c - 4) (after_all least (take c all))) ts (few_four c (word_at m (3 + i)))
    (λ us e. good_2 m k (i + 1) (c - 4) (after_all least (take c all)) us e) (all_zero (drop c all) && ascend (length m) least (take c all)) refl h)

wider : (size a b : ℕ) (ts : List ℕ) → a ≤ b → GoodTargets size a ts → GoodTargets size b ts
wider size a b ts h g = record { all = g.all; few = let few : length ts ≤ a = g.few in omega arith }

pub good_targets : (j : Journal) (m : List (List ℕ)) (c : ℕ) (ts : List ℕ) → c ≤ 64 → targets j m c ≡ Ok ts → GoodTargets (length m) 64 ts
good_targets One m c ts h e = wider (length m) c 64 ts h (good_1 m 0 c ts e)
good_targets Two m c ts h e = wider (length m) (4 * up c 4) 64 ts (omega (arith, up_four c h)) (good_2 m (up c 4) 0 c 0 ts e)

pairs_length : (j : Journal) (m : List (List ℕ)) (i : ℕ) (ts : List ℕ) → length (pairs j m i ts) ≡ length ts
unfolding pairs
pairs_length j m i [] = refl
pairs_length j m i (t ∷ ts) = ap suc (pairs_length j m (i + 1) ts)

pairs_within : (j : Journal) (m : List (List ℕ)) (size i : ℕ) (ts : List ℕ) → AllByRecursion (λ t. within size t ≡ true) ts → AllByRecursion (λ p. within size p.0 ≡ true) (pairs j m i ts)
unfolding pairs
pairs_within j m size i [] a = tt
pairs_within j m size i (t ∷ ts) a = (a.0, pairs_within j m size (i + 1) ts a.1)

-- a word of eight bytes
abbrev pub IsFull : List ℕ → Type 0
IsFull w = (length w ≡ 8) × AreBytes w

-- a word below 256 of an image is one
full_word : (m : List (List ℕ)) (i : ℕ) → IsImage m → i < 256 → IsFull (word_at m i)
full_word m i image h = let low : 256 ≤ length m = image.low in (image.words i (omega arith), image.bytes i)

value_full : (j : Journal) (m : List (List ℕ)) (i : ℕ) → IsImage m → i < 64 → IsFull (value j m i)
value_full One m i image h = full_word m (4 + 2 * i) image (omega arith)
value_full Two m i image h = full_word m (19 + i) image (omega arith)

pairs_full : (j : Journal) (m : List (List ℕ)) (i : ℕ) (ts : List ℕ) → i + length ts ≤ 64 → IsImage m → AllByRecursion (λ p. IsFull p.1) (pairs j m i ts)
unfolding pairs
pairs_full j m i [] h image = tt
pairs_full j m i (t ∷ ts) h image = (value_full j m i image (omega arith), pairs_full j m (i + 1) ts (omega arith) image)

-- a journal that is pending: it is open, and its pairs are at most 64, each within, and in an image of whole words
pub record GoodPending (j k : Journal) (m : List (List ℕ)) (ps : List (ℕ × List ℕ)) : Type 0 where
  pub same : k ≡ j
  pub opens : is_open j m ≡ true
  pub all : AllByRecursion (λ p. within (length m) p.0 ≡ true) ps
  pub few : length ps ≤ 64
  pub full : IsImage m → AllByRecursion (λ p. IsFull p.1) ps

pending_aimed : (j k : Journal) (m : List (List ℕ)) (c : ℕ) (ps : List (ℕ × List ℕ)) (r : Result (List ℕ) ℕ) → is_open j m ≡ true → c ≤ 64 → targets j m c ≡ r → look_by_targets j m r ≡ Pending k ps → GoodPending j k m ps
pending_aimed j k m c ps (Err p) ho hc hr h = absurd (cc h)
pending_aimed j k m c ps (Ok ts) ho hc hr h =
    let same : j ≡ k = cc in
    let is : pairs j m 0 ts ≡ ps = cc in
    let good : GoodTargets (length m) 64 ts = good_targets j m c ts hc hr in
    subst (λ (l : List (ℕ × List ℕ)). GoodPending j k m l) is
    (record {
      same = sym same;
      opens = ho;
      all = pairs_within j m (length m) 0 ts good.all;
      few = subst (λ (n : ℕ). n ≤ 64) (sym (pairs_length j m 0 ts)) good.few;
      full = λ image. pairs_full j m 0 ts (let few : length ts ≤ 64 = good.few in omega arith) image;
    })

pending_headed : (j k : Journal) (m : List (List ℕ)) (ps : List (ℕ × List ℕ)) (o : Option ℕ) → is_open j m ≡ true → count m ≡ o → look_by_head j m o ≡ Pending k ps → GoodPending j k m ps
pending_headed j k m ps None ho hc h = absurd (cc h)
pending_headed j k m ps (Some c) ho hc h =
    pending_aimed j k m c ps (targets j m c) ho (count_range c (number_test is_count (word_at m 2) c hc)).1 refl h

pending_opened : (j k : Journal) (m : List (List ℕ)) (ps : List (ℕ × List ℕ)) (b : Bool) → is_open j m ≡ b → look_by_gate j m b ≡ Pending k ps → GoodPending j k m ps
pending_opened j k m ps false ho h = absurd (cc h)
pending_opened j k m ps true ho h = pending_headed j k m ps (count m) ho refl h

pub good_pending : (j k : Journal) (m : List (List ℕ)) (ps : List (ℕ × List ℕ)) → look_j j m ≡ Pending k ps → GoodPending j k m ps
good_pending j k m ps h = pending_opened j k m ps (is_open j m) refl h

-- ---- equal looks

same_aimed : (j : Journal) (m n : List (List ℕ)) → SameInside j m n → (c : ℕ) → c ≤ 64 → (r : Result (List ℕ) ℕ) → targets j n c ≡ r → look_by_targets j m r ≡ look_by_targets j n r
same_aimed j m n s c hc (Err p) h = refl
same_aimed j m n s c hc (Ok ts) h = ap (λ (l : List (ℕ × List ℕ)). Pending j l) (same_pairs j m n s ts 0 (let few : length ts ≤ 64 = (good_targets j n c ts hc h).few in omega arith))

same_headed : (j : Journal) (m n : List (List ℕ)) → SameInside j m n → (o : Option ℕ) → count n ≡ o → look_by_head j m o ≡ look_by_head j n o
same_headed j m n s None h = refl
same_headed j m n s (Some c) h =
    let few : c ≤ 64 = (count_range c (number_test is_count (word_at n 2) c h)).1 in
    ap (λ (r : Result (List ℕ) ℕ). look_by_targets j m r) (same_targets j m n s c few) ∙ same_aimed j m n s c few (targets j n c) refl

same_opened : (j : Journal) (m n : List (List ℕ)) → SameInside j m n → (b : Bool) → look_by_gate j m b ≡ look_by_gate j n b
same_opened j m n s b = grind (arith, head_inside, same_headed)

pub look_same : (j : Journal) (m n : List (List ℕ)) → SameInside j m n → look_j j m ≡ look_j j n
look_same j m n s = ap (λ (w : List ℕ). look_by_gate j m (bytes_eq w (opening j))) (s.words (gate j) (gate_inside j)) ∙ same_opened j m n s (is_open j n)

-- recovery still has to make at most 65 writes after a look
pub owed_few : (j : Journal) (m : List (List ℕ)) (l : Look) → look_j j m ≡ l → debt l ≤ 65
owed_few j m (Refused p) h = omega arith
owed_few j m Closed h = omega arith
owed_few j m (Pending k ps) h = let few : length ps ≤ 64 = (good_pending j k m ps h).few in omega arith
