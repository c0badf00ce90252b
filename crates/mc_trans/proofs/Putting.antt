-- Pending words hold a piece more where the word that it lies in is put with its bytes.
use Rattle.std.proofs.Common.{◌≡◌, ◌≢◌, ℕ, ◌+◌, ◌-◌, ◌*◌, ◌/◌, ◌≤◌, ◌<◌, cond, List, [], ◌∷◌, ◌++◌, length, get_or, Option, Some, None, refl, sym, ap, ◌∙◌, inl, inr, arith}
use Rattle.std.specs.Prelude.{nat_eq, IfSome}
use Rattle.std.proofs.lemmas.Bool.{cases_lt}
use Rattle.std.proofs.lemmas.Bool.Decides.{nat_tests, eqb_tells}
use Rattle.model_device.specs.Bytes.{splice}
use Rattle.model_device.specs.Pieces.{laid_pieces, touched_words, numbers, pending_at, put_word, with_number, with_words, HoldPieces, LieIn}
use Rattle.model_device.proofs.ListLemmas.{length_splice}
use Rattle.mc_trans.proofs.Overlay.{length_laid, splice_before, splice_in, splice_behind, splice_append}
use Rattle.mc_trans.proofs.Words.{put_pending}
use Rattle.model_device.proofs.PieceLemmas.{laid_append, touched_append, one_word, held_same}

-- ---- numbers

numbers_put : (n : ℕ) (b : List ℕ) (ws : List (ℕ × List ℕ)) → numbers (put_word n b ws) ≡ with_number n (numbers ws)
numbers_put n b [] = refl
numbers_put n b (w ∷ ws) = grind (arith, nat_tests, numbers_put n b ws)

pending_at_put : (n m : ℕ) (b : List ℕ) (ws : List (ℕ × List ℕ)) → pending_at (put_word n b ws) m ≡ cond (nat_eq n m) (Some b) (pending_at ws m)
pending_at_put n m b [] = refl
pending_at_put n m b (w ∷ ws) = grind (arith, nat_tests, pending_at_put n m b ws)

-- ---- the bytes of the words

-- the bytes of the word that is put
put_byte : (l word b : List ℕ) (n j k : ℕ) → j + length b ≤ length word → 8 * n + j ≤ length l → get_or word k 0 ≡ get_or l (8 * n + k) 0 → get_or (splice word j b) k 0 ≡ get_or (splice l (8 * n + j) b) (8 * n + k) 0
put_byte l word b n j k fits_word fits old =
    elim (cases_lt k j) [
      | inl lt ↦ splice_before word j b k (omega arith) lt ∙ old ∙ sym (splice_before l (8 * n + j) b (8 * n + k) fits (omega arith))
      | inr le ↦
          elim (cases_lt k (j + length b)) [
            | inl lt ↦
                let place : 8 * n + k - (8 * n + j) ≡ k - j = omega arith in
                splice_in word j b k (omega arith) le lt ∙ sym (splice_in l (8 * n + j) b (8 * n + k) fits (omega arith) (omega arith) ∙ ap (λ (i : ℕ). get_or b i 0) place)
            | inr past ↦ splice_behind word j b k (omega arith) past ∙ old ∙ sym (splice_behind l (8 * n + j) b (8 * n + k) fits (omega arith))
          ]
    ]

-- the bytes of any other word are unchanged
other_byte : (l b : List ℕ) (n m j k : ℕ) → n ≢ m → j + length b ≤ 8 → 8 * n + j ≤ length l → k < 8 → get_or (splice l (8 * n + j) b) (8 * m + k) 0 ≡ get_or l (8 * m + k) 0
other_byte l b n m j k other small fits lt =
    elim (cases_lt m n) [
      | inl less ↦ splice_before l (8 * n + j) b (8 * m + k) fits (omega arith)
      | inr le ↦ splice_behind l (8 * n + j) b (8 * m + k) fits (omega arith)
    ]

abbrev HasByte : List ℕ → ℕ → ℕ → List ℕ → Type 0
HasByte l m k b = get_or b k 0 ≡ get_or l (8 * m + k) 0

moved : (o : Option (List ℕ)) (l l' : List ℕ) (m k : ℕ) → get_or l' (8 * m + k) 0 ≡ get_or l (8 * m + k) 0 → IfSome o (HasByte l m k) → IfSome o (HasByte l' m k)
moved (Some b) l l' m k same has = has ∙ sym same
moved None l l' m k same has = tt

pub piece_put : (l : List ℕ) (ps ws : List (ℕ × List ℕ)) (n j : ℕ) (word b : List ℕ) → LieIn (length l) ps → HoldPieces l ps ws → length word ≡ 8
    → ((k : ℕ) → k < 8 → 8 * n + k < length l → get_or word k 0 ≡ get_or (laid_pieces l ps) (8 * n + k) 0) → 0 < length b → j + length b ≤ 8 → 8 * n + j + length b ≤ length l
    → HoldPieces l (ps ++ (8 * n + j, b) ∷ []) (put_word n (splice word j b) ws)
piece_put l ps ws n j word b lie held eight old some small fits =
    let len = length_laid l ps lie in
    let laid = laid_pieces l ps in
    let next = splice laid (8 * n + j) b in
    let put = splice word j b in
    let after : laid_pieces l (ps ++ (8 * n + j, b) ∷ []) ≡ next = laid_append l ps ((8 * n + j, b) ∷ []) in
    let words : numbers (put_word n put ws) ≡ touched_words (ps ++ (8 * n + j, b) ∷ []) =
    numbers_put n put ws ∙ ap (with_number n) held.touched_words ∙ sym (touched_append ps ((8 * n + j, b) ∷ []) ∙ one_word n (8 * n + j) b (touched_words ps) some (omega arith) (omega arith)) in
    record {
      pending = put_pending n put ws held.pending (length_splice word j b (omega arith) ∙ eight);
      touched_words = words;
      bytes = λ m k lt within.
          elim (eqb_tells n m) [
            | inl here ↦
                let is : pending_at (put_word n put ws) m ≡ Some put = pending_at_put n m put ws ∙ rw here.0 refl in
                let same : get_or put k 0 ≡ get_or next (8 * n + k) 0 = put_byte laid word b n j k (omega arith) (omega arith) (old k lt (omega (arith, here.1))) in
                let moved_place : get_or put k 0 ≡ get_or next (8 * m + k) 0 = same ∙ ap (λ (i : ℕ). get_or next (8 * i + k) 0) here.1 in
                rw (is, after) moved_place
            | inr other ↦
                let is : pending_at (put_word n put ws) m ≡ pending_at ws m = pending_at_put n m put ws ∙ rw other.0 refl in
                rw (is, after) (moved (pending_at ws m) laid next m k (other_byte laid b n m j k other.1 small (omega arith) lt) (held.bytes m k lt within))
          ];
    }

-- ---- one piece in two parts

with_words_append : (at : ℕ) (a b ns : List ℕ) → with_words at (a ++ b) ns ≡ with_words (at + length a) b (with_words at a ns)
with_words_append at [] b ns = ap (λ (n : ℕ). with_words n b ns) (omega arith)
with_words_append at (x ∷ a) b ns =
    with_words_append (at + 1) a b (with_number (at / 8) ns) ∙ ap (λ (n : ℕ). with_words n b (with_words (at + 1) a (with_number (at / 8) ns))) (omega arith)

pub pieces_joined : (l : List ℕ) (ps ws : List (ℕ × List ℕ)) (at : ℕ) (a b : List ℕ) → LieIn (length l) ps → at + length a ≤ length l → HoldPieces l (ps ++ (at, a) ∷ (at + length a, b) ∷ []) ws → HoldPieces l (ps ++ (at, a ++ b) ∷ []) ws
pieces_joined l ps ws at a b lie fits held =
    let two : List (ℕ × List ℕ) = (at, a) ∷ (at + length a, b) ∷ [] in
    let one : List (ℕ × List ℕ) = (at, a ++ b) ∷ [] in
    let len = length_laid l ps lie in
    let words : touched_words (ps ++ two) ≡ touched_words (ps ++ one) = touched_append ps two ∙ sym (touched_append ps one ∙ with_words_append at a b (touched_words ps)) in
    let laid : laid_pieces l (ps ++ two) ≡ laid_pieces l (ps ++ one) = laid_append l ps two ∙ splice_append (laid_pieces l ps) at a b (omega arith) ∙ sym (laid_append l ps one) in
    held_same l (ps ++ two) (ps ++ one) ws words laid held
