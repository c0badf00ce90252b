-- The number of words that pieces touch.
use Rattle.std.proofs.Common.{◌≡◌, ℕ, zero, suc, ◌+◌, ◌*◌, ◌/◌, ◌≤◌, Bool, cond, List, [], ◌∷◌, ◌++◌, length, refl, ◌∙◌, ap, arith}
use Rattle.std.specs.Prelude.{◌==◌, nat_lt}
use Rattle.std.proofs.lemmas.Bool.{eqb-true, eqb-false, eq-eqb}
use Rattle.model_card.specs.model_device.specs.Bytes.{down, zeros}
use Rattle.model_card.specs.model_device.specs.Pieces.{with_number, with_words, with_touched, touched_words}

-- ---- one number more

more_cond : (b c : Bool) (n k : ℕ) (ks ms : List ℕ) → length ms ≤ length ks + 1 → length (cond b (k ∷ ks) (cond c (n ∷ k ∷ ks) (k ∷ ms))) ≤ suc (length ks) + 1
more_cond b c n k ks ms h = grind arith

more_number : (n : ℕ) (ks : List ℕ) → length (with_number n ks) ≤ length ks + 1
more_number n [] = omega arith
more_number n (k ∷ ks) = more_cond (n == k) (nat_lt n k) n k ks (with_number n ks) (more_number n ks)

no_fewer_cond : (b c : Bool) (n k : ℕ) (ks ms : List ℕ) → length ks ≤ length ms → suc (length ks) ≤ length (cond b (k ∷ ks) (cond c (n ∷ k ∷ ks) (k ∷ ms)))
no_fewer_cond b c n k ks ms h = grind arith

no_fewer : (n : ℕ) (ks : List ℕ) → length ks ≤ length (with_number n ks)
no_fewer n [] = omega arith
no_fewer n (k ∷ ks) = no_fewer_cond (n == k) (nat_lt n k) n k ks (with_number n ks) (no_fewer n ks)

-- a number that is there
abbrev HasNumber : ℕ → List ℕ → Type 0
HasNumber n ks = with_number n ks ≡ ks

has_first : (n : ℕ) (ks : List ℕ) → HasNumber n (n ∷ ks)
has_first n ks = ap (λ (b : Bool). cond b (n ∷ ks) (cond (nat_lt n n) (n ∷ n ∷ ks) (n ∷ with_number n ks))) (eq-eqb n n refl)

has_by : (n k : ℕ) (ks : List ℕ) (b c : Bool) → (n == k) ≡ b → nat_lt n k ≡ c → HasNumber n (with_number n ks) → HasNumber n (cond b (k ∷ ks) (cond c (n ∷ k ∷ ks) (k ∷ with_number n ks)))
has_by n k ks b c e l h = grind (arith, has_first)

has_added : (n : ℕ) (ks : List ℕ) → HasNumber n (with_number n ks)
has_added n [] = has_first n []
has_added n (k ∷ ks) = has_by n k ks (n == k) (nat_lt n k) refl refl (has_added n ks)

-- ---- the words of a piece

-- bytes of one length touch the same words
by_length : (at : ℕ) (b : List ℕ) (ns : List ℕ) → with_words at b ns ≡ with_words at (zeros (length b)) ns
by_length at [] ns = refl
by_length at (c ∷ b) ns = by_length (at + 1) b (with_number (down at 8) ns)

kept_words : (at : ℕ) (b : List ℕ) (ns : List ℕ) → length ns ≤ length (with_words at b ns)
kept_words at [] ns = omega arith
kept_words at (c ∷ b) ns =
    let one : length ns ≤ length (with_number (down at 8) ns) = no_fewer (down at 8) ns in
    let rest : length (with_number (down at 8) ns) ≤ length (with_words (at + 1) b (with_number (down at 8) ns)) = kept_words (at + 1) b (with_number (down at 8) ns) in
    omega arith

-- fewer bytes touch no more words
fewer_zeros : (m n at : ℕ) (ns : List ℕ) → m ≤ n → length (with_words at (zeros m) ns) ≤ length (with_words at (zeros n) ns)
fewer_zeros zero n at ns h = kept_words at (zeros n) ns
fewer_zeros (suc m) zero at ns h = absurd (omega (arith, h))
fewer_zeros (suc m) (suc n) at ns h = fewer_zeros m n (at + 1) (with_number (down at 8) ns) (omega arith)

-- the words of n bytes after some, of which the last holds the byte before `at`
abbrev FewTouched : ℕ → ℕ → List ℕ → List ℕ → Type 0
FewTouched q at b ns = HasNumber q ns → 8 * q + 1 ≤ at → at ≤ 8 * q + 8 → length (with_words at b ns) + q + 1 ≤ length ns + (at + length b + 7) / 8

words_by : (q at : ℕ) (c : ℕ) (b ns : List ℕ) (t : Bool) → (down at 8 == q) ≡ t → ((p : ℕ) (ms : List ℕ) → FewTouched p (at + 1) b ms) → FewTouched q at (c ∷ b) ns
words_by q at c b ns t e next h low high = grind (arith, eqb-true, eqb-false, has_added, more_number)

words_from : (q at : ℕ) (b : List ℕ) (ns : List ℕ) → FewTouched q at b ns
words_from q at [] ns h low high = omega arith
words_from q at (c ∷ b) ns h low high = words_by q at c b ns (down at 8 == q) refl (λ p ms. words_from p (at + 1) b ms) h low high

-- the words of one piece of at most 256 bytes
few_words : (at : ℕ) (b : List ℕ) → length b ≤ 256 → length (with_words at b []) ≤ 33
few_words at [] h = omega arith
few_words at (c ∷ b) h =
    let q : ℕ = at / 8 in
    let rest : length (with_words (at + 1) b (q ∷ [])) + q + 1 ≤ 1 + (at + 1 + length b + 7) / 8 = words_from q (at + 1) b (q ∷ []) (has_first q []) (omega arith) (omega arith) in
    omega arith

-- ---- pieces

-- a piece of at most 256 bytes touches at most 33 words
pub one_piece : (at : ℕ) (b : List ℕ) → length b ≤ 256 → length (touched_words ((at, b) ∷ [])) ≤ 33
unfolding touched_words
one_piece at b h = few_words at b h

touched_from : (ns : List ℕ) (ps : List (ℕ × List ℕ)) (q : ℕ × List ℕ) → with_touched ns (ps ++ q ∷ []) ≡ with_words q.0 q.1 (with_touched ns ps)
touched_from ns [] q = refl
touched_from ns (p ∷ ps) q = touched_from (with_words p.0 p.1 ns) ps q

-- a piece in the place of one with at least as many bytes
pub shorter_piece : (ps : List (ℕ × List ℕ)) (at n : ℕ) (b : List ℕ) → length b ≤ n → length (touched_words (ps ++ (at, b) ∷ [])) ≤ length (touched_words (ps ++ (at, zeros n) ∷ []))
unfolding touched_words
shorter_piece ps at n b h =
    let ns = with_touched [] ps in
    rw (touched_from [] ps (at, b), touched_from [] ps (at, zeros n), by_length at b ns) (fewer_zeros (length b) n at ns h)

-- a piece without bytes
pub empty_piece : (ps : List (ℕ × List ℕ)) (at : ℕ) (b : List ℕ) → length b ≡ 0 → length (touched_words (ps ++ (at, b) ∷ [])) ≤ length (touched_words ps)
unfolding touched_words
empty_piece ps at b h =
    let ns = with_touched [] ps in
    let same : with_words at b ns ≡ ns = by_length at b ns ∙ ap (λ (k : ℕ). with_words at (zeros k) ns) h in
    rw (touched_from [] ps (at, b), same) (omega arith)
