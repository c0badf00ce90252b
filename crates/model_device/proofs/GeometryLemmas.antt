-- The places of the words of an atomic write in its journal.
use Rattle.std.proofs.Common.{◌≡◌, ◌≢◌, ℕ, zero, suc, ◌+◌, ◌*◌, ◌<◌, ◌≤◌, true, List, [], ◌∷◌, ◌++◌, length, map, Ok, refl, sym, ◌∙◌, ap, subst, inl, arith, length-append}
use Rattle.std.proofs.lemmas.List.{length-map}
use Rattle.std.specs.Prelude.{bytes_eq}
use Rattle.std.specs.List.{AllByRecursion}
use Rattle.model_device.specs.Bytes.{up}
use Rattle.model_device.specs.Image.{Journal, One, Two, opening, gate, word_at, within, ascend, targets, targets_2, pairs, Pending, look_j}
use Rattle.model_device.specs.Stopped.{InJournal, cost, opens_at, word_of_number, entries_1, target_words, values_2, entries, IsAtomic}
use Rattle.model_device.proofs.ImageLemmas.{HoldsWords, Ascends, all_append, all_map}
use Rattle.model_device.proofs.LookLemmas.{all_within}
use Rattle.model_device.proofs.WrittenLemmas.{within_small, read_1, pairs_1, read_2, pairs_2, count_numbered}

-- a place of a target or value
pub record InEntries (j : Journal) (i : ℕ) : Type 0 where
  pub low : 3 ≤ i
  pub high : i ≤ 130
  pub apart : i ≢ gate j
  pub inside : InJournal j i

all_unmap : {A B : Type 0} (P : B → Type 0) (f : A → B) (xs : List A) → AllByRecursion P (map f xs) → AllByRecursion (λ x. P (f x)) xs
all_unmap P f [] a = tt
all_unmap P f (x ∷ xs) a = (a.0, all_unmap P f xs a.1)

places_1 : (i : ℕ) (list : List (ℕ × List ℕ)) → i + length list ≤ 64 → AllByRecursion (λ p. InEntries One p.0) (entries_1 i list)
places_1 i [] h = tt
places_1 i (p ∷ ps) h = (
  record { low = omega arith; high = omega arith; apart = λ e. absurd (omega (arith, e)); inside = (omega arith, omega arith) },
  (record { low = omega arith; high = omega arith; apart = λ e. absurd (omega (arith, e)); inside = (omega arith, omega arith) }, places_1 (i + 1) ps (omega arith)),
)

ascends_1 : (i least : ℕ) (list : List (ℕ × List ℕ)) → least ≤ 3 + 2 * i → Ascends least (entries_1 i list)
ascends_1 i least [] h = tt
ascends_1 i least (p ∷ ps) h = (h, (omega arith, ascends_1 (i + 1) (4 + 2 * i + 1) ps (omega arith)))

length_1 : (i : ℕ) (list : List (ℕ × List ℕ)) → length (entries_1 i list) ≡ 2 * length list
length_1 i [] = refl
length_1 i (p ∷ ps) = let e : length (entries_1 (i + 1) ps) ≡ 2 * length ps = length_1 (i + 1) ps in omega arith

places_t : (i k : ℕ) (ts : List ℕ) → i + k ≤ 16 → AllByRecursion (λ p. InEntries Two p.0) (target_words i k ts)
places_t i zero ts h = tt
places_t i (suc k) ts h =
    (record { low = omega arith; high = omega arith; apart = λ e. absurd (omega (arith, e)); inside = inl (omega arith, omega arith) }, places_t (i + 1) k _ (omega arith))

places_v : (i : ℕ) (list : List (ℕ × List ℕ)) → i + length list ≤ 64 → AllByRecursion (λ p. InEntries Two p.0) (values_2 i list)
places_v i [] h = tt
places_v i (p ∷ ps) h =
    (record { low = omega arith; high = omega arith; apart = λ e. absurd (omega (arith, e)); inside = inl (omega arith, omega arith) }, places_v (i + 1) ps (omega arith))

ascends_v : (i least : ℕ) (list : List (ℕ × List ℕ)) → least ≤ 19 + i → Ascends least (values_2 i list)
ascends_v i least [] h = tt
ascends_v i least (p ∷ ps) h = (h, ascends_v (i + 1) (19 + i + 1) ps (omega arith))

-- target words, and then what lies at 19 and above
ascends_t : (i k least : ℕ) (ts : List ℕ) (rest : List (ℕ × List ℕ)) → i + k ≤ 16 → least ≤ 3 + i → ((low : ℕ) → low ≤ 19 → Ascends low rest) → Ascends least (target_words i k ts ++ rest)
ascends_t i zero least ts rest h low r = r least (omega arith)
ascends_t i (suc k) least ts rest h low r = (low, ascends_t (i + 1) k (3 + i + 1) _ rest (omega arith) (omega arith) r)

length_t : (i k : ℕ) (ts : List ℕ) → length (target_words i k ts) ≡ k
length_t i zero ts = refl
length_t i (suc k) ts = ap suc (length_t (i + 1) k _)

length_v : (i : ℕ) (list : List (ℕ × List ℕ)) → length (values_2 i list) ≡ length list
length_v i [] = refl
length_v i (p ∷ ps) = ap suc (length_v (i + 1) ps)

holds_split : (n : List (List ℕ)) (xs ys : List (ℕ × List ℕ)) → HoldsWords n (xs ++ ys) → HoldsWords n xs × HoldsWords n ys
holds_split n [] ys h = (tt, h)
holds_split n (x ∷ xs) ys h = let r = holds_split n xs ys h.1 in ((h.0, r.0), r.1)

small : (size : ℕ) (ts : List ℕ) → size ≤ 16384 → AllByRecursion (λ t. within size t ≡ true) ts → AllByRecursion (λ t. t < 65536) ts
small size ts h a = all_map (λ t. within size t ≡ true) (λ t. t < 65536) (λ t w. within_small size t h w) ts a

-- each target is within
pub targets_within : (size : ℕ) (list : List (ℕ × List ℕ)) → IsAtomic size list → AllByRecursion (λ p. within size p.0 ≡ true) list
targets_within size list atomic = all_unmap (λ t. within size t ≡ true) (λ p. p.0) list (all_within size 0 (map (λ p. p.0) list) atomic.targets)

pub record Geometry (j : Journal) (size : ℕ) (list : List (ℕ × List ℕ)) : Type 0 where
  pub ascends : Ascends 3 (entries j list)
  pub places : AllByRecursion (λ p. InEntries j p.0) (entries j list)
  pub opens : length (entries j list) + 2 ≡ opens_at j (length list)
  pub costs : length (entries j list) + length list + 3 ≡ cost j (length list)
  pub targets : (n : List (List ℕ)) → length n ≡ size → HoldsWords n (entries j list) → targets j n (length list) ≡ Ok (map (λ p. p.0) list)
  pub pairs : (n : List (List ℕ)) → HoldsWords n (entries j list) → pairs j n 0 (map (λ p. p.0) list) ≡ list

up_four : (c : ℕ) → c ≤ 64 → (up c 4 ≤ 16) × (c ≤ 4 * up c 4)
up_four c h = (omega arith, omega arith)

pub geometry : (j : Journal) (size : ℕ) (list : List (ℕ × List ℕ)) → size ≤ 16384 → IsAtomic size list → Geometry j size list
geometry One size list high atomic =
    let few : length list ≤ 64 = atomic.high in
    let l : length (entries_1 0 list) ≡ 2 * length list = length_1 0 list in
    record {
      ascends = ascends_1 0 3 list (omega arith);
      places = places_1 0 list (omega arith);
      opens = omega arith;
      costs = omega arith;
      targets = λ n e h. read_1 n list 0 (subst (λ (s : ℕ). s ≤ 16384) (sym e) high) (subst (λ (s : ℕ). AllByRecursion (λ p. within s p.0 ≡ true) list) (sym e) (targets_within size list atomic)) h;
      pairs = λ n h. pairs_1 n list 0 h;
    }
geometry Two size list high atomic =
    let few : length list ≤ 64 = atomic.high in
    let ts = map (λ p. p.0) list in
    let words = target_words 0 (up (length list) 4) ts in
    let same : length ts ≡ length list = length-map list (λ p. p.0) in
    let bound = up_four (length list) few in
    let l : length (words ++ values_2 0 list) ≡ up (length list) 4 + length list = length-append words (values_2 0 list) ∙ ap (λ (x : ℕ). x + length (values_2 0 list)) (length_t 0 (up (length list) 4) ts) ∙ ap (λ (x : ℕ). up (length list) 4 + x) (length_v 0 list) in
    record {
      ascends = ascends_t 0 (up (length list) 4) 3 ts (values_2 0 list) (omega (arith, bound.0)) (omega arith) (λ low h. ascends_v 0 low list h);
      places = all_append (λ p. InEntries Two p.0) words (values_2 0 list) (places_t 0 (up (length list) 4) ts (omega (arith, bound.0))) (places_v 0 list (omega arith));
      opens = omega (arith, l);
      costs = omega (arith, l);
      targets = λ n e h.
          subst (λ (c : ℕ). targets_2 n 0 (up (length list) 4) c 0 ≡ Ok ts) same
          (read_2 n (up (length list) 4) 0 0 ts (small size ts high (all_within size 0 ts atomic.targets)) (subst (λ (s : ℕ). ascend s 0 ts ≡ true) (sym e) atomic.targets)
          (subst (λ (c : ℕ). c ≤ 4 * up (length list) 4) (sym same) bound.1) (holds_split n words (values_2 0 list) h).0);
      pairs = λ n h. pairs_2 n list 0 (holds_split n words (values_2 0 list) h).1;
    }

open_self : (j : Journal) → bytes_eq (opening j) (opening j) ≡ true
open_self One = refl
open_self Two = refl

-- what was written there is found
pub look_written : (j : Journal) (size : ℕ) (list : List (ℕ × List ℕ)) → Geometry j size list → IsAtomic size list → (n : List (List ℕ)) → length n ≡ size
    → HoldsWords n (entries j list) → word_at n 2 ≡ word_of_number (length list) → word_at n (gate j) ≡ opening j → look_j j n ≡ Pending j list
look_written j size list geo atomic n same holds head gate_is = grind (arith, open_self, count_numbered)
