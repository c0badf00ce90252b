-- What an atomic write puts into its journal is what a look finds there.
use Rattle.std.proofs.Common.{◌≡◌, ℕ, zero, suc, ◌+◌, ◌-◌, ◌*◌, ◌<◌, ◌≤◌, Bool, true, ◌&&◌, List, [], ◌∷◌, ◌++◌, length, take, drop, map, Option, Some, Result, Ok, refl, ◌∙◌, ap, arith, take_all, le-leb}
use Rattle.std.proofs.lemmas.List.{drop_all}
use Rattle.std.specs.List.{AllByRecursion}
use Rattle.std.proofs.lemmas.Bool.{ltb-true, eqb-true, and_parts, or_cases}
use Rattle.model_device.specs.Image.{One, Two, word_at, is_count, within, number, one_before, targets_1, four, all_zero, ascend, after_all, all_before, targets_2, pairs}
use Rattle.model_device.specs.Stopped.{word_of_number, entries_1, four_targets, target_words, values_2}
use Rattle.model_device.proofs.ImageLemmas.{HoldsWords}
use Rattle.model_device.proofs.ListLemmas.{two_bytes}

-- ---- numbers of two bytes

-- a target has two bytes
pub within_small : (size t : ℕ) → size ≤ 16384 → within size t ≡ true → t < 65536
within_small size t hs h = grind (arith, or_cases, eqb-true, ltb-true, and_parts)

number_numbered : (test : ℕ → Bool) (t : ℕ) → t < 65536 → test t ≡ true → number test (word_of_number t) ≡ Some t
number_numbered test t h ok = grind (arith, two_bytes)

pub count_numbered : (c : ℕ) → 1 ≤ c → c ≤ 64 → number is_count (word_of_number c) ≡ Some c
count_numbered c low high = number_numbered is_count c (omega arith) (rw (le-leb 1 c low, le-leb c 64 high) refl)

-- ---- journal 1

pub read_1 : (n : List (List ℕ)) (list : List (ℕ × List ℕ)) (i : ℕ) → length n ≤ 16384 → AllByRecursion (λ p. within (length n) p.0 ≡ true) list → HoldsWords n (entries_1 i list)
    → targets_1 n i (length list) ≡ Ok (map (λ p. p.0) list)
unfolding targets_1
read_1 n [] i hs a h = refl
read_1 n (p ∷ ps) i hs a h =
    let first : number (within (length n)) (word_at n (3 + 2 * i)) ≡ Some p.0 =
    ap (λ (w : List ℕ). number (within (length n)) w) h.0 ∙ number_numbered (within (length n)) p.0 (within_small (length n) p.0 hs a.0) a.0 in
    ap (λ (o : Option ℕ). one_before o (3 + 2 * i) (targets_1 n (i + 1) (length ps))) first
    ∙ ap (λ (r : Result (List ℕ) ℕ). one_before (Some p.0) (3 + 2 * i) r) (read_1 n ps (i + 1) hs a.1 h.1.1)

pub pairs_1 : (n : List (List ℕ)) (list : List (ℕ × List ℕ)) (i : ℕ) → HoldsWords n (entries_1 i list) → pairs One n i (map (λ p. p.0) list) ≡ list
unfolding pairs
pairs_1 n [] i h = refl
pairs_1 n (p ∷ ps) i h =
    ap (λ (w : List ℕ). (p.0, w) ∷ pairs One n (i + 1) (map (λ q. q.0) ps)) h.1.0 ∙ ap (λ (l : List (ℕ × List ℕ)). p ∷ l) (pairs_1 n ps (i + 1) h.1.1)

-- ---- journal 2

four_back : (a b c d : ℕ) → a < 65536 → b < 65536 → c < 65536 → d < 65536 → four (four_targets (a ∷ b ∷ c ∷ d ∷ [])) ≡ a ∷ b ∷ c ∷ d ∷ []
four_back a b c d ha hb hc hd = grind (arith, two_bytes)

step_2 : (n : List (List ℕ)) (i k c least : ℕ) (all now past us : List ℕ) → four (word_at n (3 + i)) ≡ all → take c all ≡ now → drop c all ≡ past
    → all_zero past ≡ true → ascend (length n) least now ≡ true → targets_2 n (i + 1) k (c - 4) (after_all least now) ≡ Ok us → targets_2 n i (suc k) c least ≡ Ok (now ++ us)
unfolding targets_2
step_2 n i k c least all now past us h1 h2 h3 h4 h5 h6 =
    ap (λ (x : List ℕ). all_before (all_zero (drop c x) && ascend (length n) least (take c x)) (take c x) (3 + i) (targets_2 n (i + 1) k (c - 4) (after_all least (take c x)))) h1
    ∙ ap (λ (x : List ℕ). all_before (all_zero (drop c all) && ascend (length n) least x) x (3 + i) (targets_2 n (i + 1) k (c - 4) (after_all least x))) h2
    ∙ ap (λ (x : List ℕ). all_before (all_zero x && ascend (length n) least now) now (3 + i) (targets_2 n (i + 1) k (c - 4) (after_all least now))) h3
    ∙ ap (λ (x : Bool). all_before (x && ascend (length n) least now) now (3 + i) (targets_2 n (i + 1) k (c - 4) (after_all least now))) h4
    ∙ ap (λ (x : Bool). all_before x now (3 + i) (targets_2 n (i + 1) k (c - 4) (after_all least now))) h5
    ∙ ap (λ (x : Result (List ℕ) ℕ). all_before true now (3 + i) x) h6

abbrev pub Small : List ℕ → Type 0
Small ts = AllByRecursion (λ t. t < 65536) ts

-- the first four of ascending targets ascend, and so do the others after them
first_four : (size least a b c d : ℕ) (ts : List ℕ) → ascend size least (a ∷ b ∷ c ∷ d ∷ ts) ≡ true → (ascend size least (a ∷ b ∷ c ∷ d ∷ []) ≡ true) × (ascend size (d + 1) ts ≡ true)
first_four size least a b c d ts h = grind (arith, and_parts)

pub read_2 : (n : List (List ℕ)) (k i least : ℕ) (ts : List ℕ) → Small ts → ascend (length n) least ts ≡ true → length ts ≤ 4 * k → HoldsWords n (target_words i k ts)
    → targets_2 n i k (length ts) least ≡ Ok ts
unfolding targets_2
read_2 n zero i least [] s a few h = refl
read_2 n zero i least (t ∷ ts) s a few h = absurd (omega arith)
read_2 n (suc k) i least [] s a few h =
    step_2 n i k 0 least (0 ∷ 0 ∷ 0 ∷ 0 ∷ []) [] (0 ∷ 0 ∷ 0 ∷ 0 ∷ []) [] (ap four h.0) refl refl refl refl (read_2 n k (i + 1) least [] tt refl (omega arith) h.1)
read_2 n (suc k) i least (x ∷ []) s a few h =
    step_2 n i k 1 least (x ∷ 0 ∷ 0 ∷ 0 ∷ []) (x ∷ []) (0 ∷ 0 ∷ 0 ∷ []) [] (ap four h.0 ∙ four_back x 0 0 0 s.0 (omega arith) (omega arith) (omega arith)) refl refl refl a (read_2 n k (i + 1) (x + 1) [] tt refl (omega arith) h.1)
read_2 n (suc k) i least (x ∷ y ∷ []) s a few h =
    step_2 n i k 2 least (x ∷ y ∷ 0 ∷ 0 ∷ []) (x ∷ y ∷ []) (0 ∷ 0 ∷ []) [] (ap four h.0 ∙ four_back x y 0 0 s.0 s.1.0 (omega arith) (omega arith)) refl refl refl a (read_2 n k (i + 1) (y + 1) [] tt refl (omega arith) h.1)
read_2 n (suc k) i least (x ∷ y ∷ z ∷ []) s a few h =
    step_2 n i k 3 least (x ∷ y ∷ z ∷ 0 ∷ []) (x ∷ y ∷ z ∷ []) (0 ∷ []) [] (ap four h.0 ∙ four_back x y z 0 s.0 s.1.0 s.1.1.0 (omega arith)) refl refl refl a (read_2 n k (i + 1) (z + 1) [] tt refl (omega arith) h.1)
read_2 n (suc k) i least (x ∷ y ∷ z ∷ u ∷ ts) s a few h =
    let parts = first_four (length n) least x y z u ts a in
    let l = length (x ∷ y ∷ z ∷ u ∷ ts) in
    let less : l - 4 ≡ length ts = omega arith in
    let rest : targets_2 n (i + 1) k (l - 4) (u + 1) ≡ Ok ts =
    ap (λ (c : ℕ). targets_2 n (i + 1) k c (u + 1)) less ∙ read_2 n k (i + 1) (u + 1) ts s.1.1.1.1 parts.1 (omega arith) h.1 in
    step_2 n i k l least (x ∷ y ∷ z ∷ u ∷ []) (x ∷ y ∷ z ∷ u ∷ []) [] ts (ap four h.0 ∙ four_back x y z u s.0 s.1.0 s.1.1.0 s.1.1.1.0)
    (take_all l (x ∷ y ∷ z ∷ u ∷ []) (omega arith)) (drop_all l (x ∷ y ∷ z ∷ u ∷ []) (omega arith)) refl parts.0 rest

pub pairs_2 : (n : List (List ℕ)) (list : List (ℕ × List ℕ)) (i : ℕ) → HoldsWords n (values_2 i list) → pairs Two n i (map (λ p. p.0) list) ≡ list
unfolding pairs
pairs_2 n [] i h = refl
pairs_2 n (p ∷ ps) i h =
    ap (λ (w : List ℕ). (p.0, w) ∷ pairs Two n (i + 1) (map (λ q. q.0) ps)) h.0 ∙ ap (λ (l : List (ℕ × List ℕ)). p ∷ l) (pairs_2 n ps (i + 1) h.1)
