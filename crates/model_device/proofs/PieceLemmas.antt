-- Pieces of bytes that are laid over a list: pieces after others, the words that they touch, and the pending words that
-- hold them.
use Rattle.std.proofs.Common.{◌≡◌, ℕ, ◌+◌, ◌*◌, ◌/◌, ◌<◌, ◌≤◌, List, [], ◌∷◌, ◌++◌, length, refl, ap, ◌∙◌, arith}
use Rattle.std.proofs.lemmas.Bool.Decides.{nat_tests}
use Rattle.model_device.specs.Bytes.{splice}
use Rattle.model_device.specs.Pieces.{laid_pieces, touched_words, with_number, with_words, with_touched, HoldPieces}

-- pieces that are laid after others
pub laid_append : (l : List ℕ) (ps qs : List (ℕ × List ℕ)) → laid_pieces l (ps ++ qs) ≡ laid_pieces (laid_pieces l ps) qs
laid_append l [] qs = refl
laid_append l (p ∷ ps) qs = laid_append (splice l p.0 p.1) ps qs

-- the words that they touch
pub with_touched_append : (ns : List ℕ) (ps qs : List (ℕ × List ℕ)) → with_touched ns (ps ++ qs) ≡ with_touched (with_touched ns ps) qs
with_touched_append ns [] qs = refl
with_touched_append ns (p ∷ ps) qs = with_touched_append (with_words p.0 p.1 ns) ps qs

pub touched_append : (ps qs : List (ℕ × List ℕ)) → touched_words (ps ++ qs) ≡ with_touched (touched_words ps) qs
unfolding touched_words
touched_append ps qs = with_touched_append [] ps qs

-- no pieces touch no word, so few enough to be pending
pub none_touched : length (touched_words []) ≤ 64
unfolding touched_words
none_touched = omega arith

-- ---- the words of a piece's bytes

pub with_number_twice : (n : ℕ) (ns : List ℕ) → with_number n (with_number n ns) ≡ with_number n ns
with_number_twice n [] = grind (arith, nat_tests)
with_number_twice n (k ∷ ks) = grind (arith, nat_tests, with_number_twice n ks)

-- bytes of a word that is there
pub same_word : (n at : ℕ) (b ns : List ℕ) → 8 * n ≤ at → at + length b ≤ 8 * n + 8 → with_words at b (with_number n ns) ≡ with_number n ns
same_word n at [] ns low high = refl
same_word n at (x ∷ b) ns low high =
    let here : at / 8 ≡ n = omega arith in
    let once : with_number (at / 8) (with_number n ns) ≡ with_number n ns = ap (λ (m : ℕ). with_number m (with_number n ns)) here ∙ with_number_twice n ns in
    ap (with_words (at + 1) b) once ∙ same_word n (at + 1) b ns (omega arith) (omega arith)

-- bytes that lie in one word
pub one_word : (n at : ℕ) (b ns : List ℕ) → 0 < length b → 8 * n ≤ at → at + length b ≤ 8 * n + 8 → with_words at b ns ≡ with_number n ns
one_word n at [] ns some low high = absurd (omega arith)
one_word n at (x ∷ b) ns some low high =
    let here : at / 8 ≡ n = omega arith in
    ap (λ (m : ℕ). with_words (at + 1) b (with_number m ns)) here ∙ same_word n (at + 1) b ns (omega arith) (omega arith)

-- words that hold pieces hold others that touch the same words and leave the same bytes
pub held_same : (l : List ℕ) (ps qs ws : List (ℕ × List ℕ)) → touched_words ps ≡ touched_words qs → laid_pieces l ps ≡ laid_pieces l qs → HoldPieces l ps ws → HoldPieces l qs ws
held_same l ps qs ws words laid held = grind arith
