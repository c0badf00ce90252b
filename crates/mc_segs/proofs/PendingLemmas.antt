-- Pending words, and the pieces of a segment that they make.
use Rattle.std.proofs.Common.{◌≡◌, ℕ, zero, suc, ◌+◌, ◌-◌, ◌*◌, ◌/◌, ◌%◌, ◌≤◌, ◌<◌, cond, List, [], ◌∷◌, ◌++◌, length, take, get_or, Option, Some, None, refl, sym, ap, subst, ◌∙◌, inl, inr, arith, append_assoc}
use Rattle.std.specs.Prelude.{nat_le, slice_get, unwrap_or, option_map, IfSome}
use Rattle.std.specs.List.{AllByRecursion}
use Rattle.std.proofs.lemmas.Bool.{cases_lt, lt-leb}
use Rattle.std.proofs.lemmas.Bool.Decides.{nat_tests}
use Rattle.std.proofs.lemmas.List.{length-take}
use Rattle.mc_words.specs.model_device.specs.Pieces.{covering_byte, laid_pieces, word_pieces, with_number, with_words, with_touched, touched_words, numbers, pending_at, Ascend, HoldPieces, LieIn}
use Rattle.mc_trans.proofs.Overlay.{LieIn_begin, laid_covered}
use Rattle.mc_trans.proofs.Touched.{covered_word}
use Rattle.mc_segs.specs.HeldFrames.{pieces_of, ArePendingIn}
use Rattle.mc_words.specs.model_device.proofs.PieceLemmas.{one_word}

-- ---- numbers

-- a number above all others is the last
last_number : (n : ℕ) (ns : List ℕ) → AllByRecursion (λ k. k < n) ns → with_number n ns ≡ ns ++ n ∷ []
last_number n [] all = refl
last_number n (k ∷ ks) all = let low : k < n = all.0 in grind (arith, nat_tests, low, last_number n ks all.1)

below_more : (least n : ℕ) (ns : List ℕ) → least ≤ n → AllByRecursion (λ k. k < least) ns → AllByRecursion (λ k. k < n + 1) (ns ++ n ∷ [])
below_more least n [] le all = (omega arith, tt)
below_more least n (k ∷ ks) le all = (omega (arith, all.0), below_more least n ks le all.1)

append_nil : (ns : List ℕ) → ns ≡ ns ++ []
append_nil [] = refl
append_nil (n ∷ ns) = ap (λ (t : List ℕ). n ∷ t) (append_nil ns)

abbrev AreWhole : List (ℕ × List ℕ) → Type 0
AreWhole ws = AllByRecursion (λ w. length w.1 ≡ 8) ws

abbrev AreWithin : ℕ → List (ℕ × List ℕ) → Type 0
AreWithin n ws = AllByRecursion (λ w. 8 * w.0 < n) ws

touched_are : (n least : ℕ) (ns : List ℕ) (ws : List (ℕ × List ℕ)) → AllByRecursion (λ k. k < least) ns → Ascend least (numbers ws) → AreWhole ws → AreWithin n ws → with_touched ns (pieces_of n ws) ≡ ns ++ numbers ws
touched_are n least ns [] below asc whole within = append_nil ns
touched_are n least ns (w ∷ ws) below asc whole within =
    let part = take (n - 8 * w.0) w.1 in
    let len : length part ≤ 8 = omega (arith, length-take (n - 8 * w.0) w.1, whole.0) in
    let some : 0 < length part = omega (arith, length-take (n - 8 * w.0) w.1, whole.0, within.0) in
    let one : with_words (8 * w.0) part ns ≡ with_number w.0 ns = one_word w.0 (8 * w.0) part ns some (omega arith) (omega arith) in
    let low = above least w.0 ns asc.0 below in
    let here : with_words (8 * w.0) part ns ≡ ns ++ w.0 ∷ [] = one ∙ last_number w.0 ns low in
    ap (λ (t : List ℕ). with_touched t (pieces_of n ws)) here
    ∙ touched_are n (w.0 + 1) (ns ++ w.0 ∷ []) ws (below_more least w.0 ns asc.0 below) asc.1 whole.1 within.1
    ∙ append_assoc ns (w.0 ∷ []) (numbers ws)
  where
    above : (least n : ℕ) (ns : List ℕ) → least ≤ n → AllByRecursion (λ k. k < least) ns → AllByRecursion (λ k. k < n) ns
    above least n [] le all = tt
    above least n (k ∷ ks) le all = (omega (arith, all.0), above least n ks le all.1)

-- ---- bytes

get_take : (xs : List ℕ) (k i : ℕ) → i < k → slice_get (take k xs) i ≡ slice_get xs i
get_take [] zero i lt = refl
get_take [] (suc k) i lt = refl
get_take (x ∷ xs) zero i lt = absurd (omega arith)
get_take (x ∷ xs) (suc k) zero lt = refl
get_take (x ∷ xs) (suc k) (suc i) lt = get_take xs k i (omega arith)

one_same : (n i : ℕ) (w : ℕ × List ℕ) → i < n → cond (nat_le (8 * w.0) i) (slice_get (take (n - 8 * w.0) w.1) (i - 8 * w.0)) None ≡ cond (nat_le (8 * w.0) i) (slice_get w.1 (i - 8 * w.0)) None
one_same n i w lt =
    elim (cases_lt i (8 * w.0)) [
      | inl out ↦ rw (lt-leb (8 * w.0) i out) refl
      | inr le ↦ ap (λ (o : Option ℕ). cond (nat_le (8 * w.0) i) o None) (get_take w.1 (n - 8 * w.0) (i - 8 * w.0) (omega arith))
    ]

pub covered_same : (n i : ℕ) (ws : List (ℕ × List ℕ)) → i < n → covering_byte (pieces_of n ws) i ≡ covering_byte (word_pieces ws) i
covered_same n i [] lt = refl
covered_same n i (w ∷ ws) lt = rw (covered_same n i ws lt, one_same n i w lt) refl

-- ---- pieces

lie_in : (n : ℕ) (ws : List (ℕ × List ℕ)) → AreWhole ws → AreWithin n ws → LieIn n (pieces_of n ws)
lie_in n [] whole within = tt
lie_in n (w ∷ ws) whole within =
    let len = length-take (n - 8 * w.0) w.1 in
    ((omega (arith, len, whole.0, within.0), omega (arith, len, whole.0, within.0)), lie_in n ws whole.1 within.1)

-- the pieces of pending words lie in their segment
pub pieces_lie : (n : ℕ) (ws : List (ℕ × List ℕ)) → ArePendingIn n ws → LieIn n (pieces_of n ws)
pieces_lie n ws are = lie_in n ws are.pending.whole are.within

word_holds : (o : Option (List ℕ)) (d x k : ℕ) → x ≡ unwrap_or (option_map (λ b. get_or b k 0) o) d → IfSome o (λ b. get_or b k 0 ≡ x)
word_holds (Some b) d x k e = sym e
word_holds None d x k e = tt

-- pending words hold the pieces that they make
pub pieces_held : (l : List ℕ) (ws : List (ℕ × List ℕ)) → ArePendingIn (length l) ws → HoldPieces l (pieces_of (length l) ws) ws
unfolding touched_words
pieces_held l ws are =
    let n = length l in
    let ps = pieces_of n ws in
    let lie = pieces_lie n ws are in
    record {
      pending = are.pending;
      touched_words = sym (touched_are n 0 [] ws tt are.pending.ascending are.pending.whole are.within);
      bytes = λ m k lt within.
          let i = 8 * m + k in
          let byte : get_or (laid_pieces l ps) i 0 ≡ unwrap_or (covering_byte ps i) (get_or l i 0) = laid_covered n l ps i (LieIn_begin n ps lie) (omega arith) in
          let word : covering_byte ps i ≡ option_map (λ b. get_or b (i % 8) 0) (pending_at ws (i / 8)) = covered_same n i ws within ∙ covered_word 0 i ws are.pending.ascending are.pending.whole in
          let all = byte ∙ ap (λ (o : Option ℕ). unwrap_or o (get_or l i 0)) word in
          let place : i % 8 ≡ k = omega arith in
          let number : i / 8 ≡ m = omega arith in
          word_holds (pending_at ws m) (get_or l i 0) (get_or (laid_pieces l ps) i 0) k
          (subst (λ (j : ℕ). get_or (laid_pieces l ps) i 0 ≡ unwrap_or (option_map (λ b. get_or b j 0) (pending_at ws m)) (get_or l i 0)) place
          (subst (λ (j : ℕ). get_or (laid_pieces l ps) i 0 ≡ unwrap_or (option_map (λ b. get_or b (i % 8) 0) (pending_at ws j)) (get_or l i 0)) number all));
    }

-- ---- reading

-- a byte of a segment with pending words written over it: that of the word that covers it, and else the segment's
pub read_byte : (l : List ℕ) (ws : List (ℕ × List ℕ)) (i : ℕ) → ArePendingIn (length l) ws → i < length l → get_or (laid_pieces l (pieces_of (length l) ws)) i 0 ≡ unwrap_or (covering_byte (word_pieces ws) i) (get_or l i 0)
read_byte l ws i are lt =
    let n = length l in
    laid_covered n l (pieces_of n ws) i (LieIn_begin n (pieces_of n ws) (pieces_lie n ws are)) (omega arith)
    ∙ ap (λ (o : Option ℕ). unwrap_or o (get_or l i 0)) (covered_same n i ws lt)
