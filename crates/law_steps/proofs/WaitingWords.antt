-- Words that wait: those that pieces touch, with one piece more.
use Rattle.std.proofs.Common.{◌≡◌, ℕ, zero, suc, ◌+◌, ◌-◌, ◌/◌, ◌≤◌, ◌<◌, ◌⊎◌, Bool, true, cond, List, [], ◌∷◌, ◌++◌, length, refl, sym, ap, subst, ◌∙◌, inl, inr, arith}
use Rattle.std.specs.Prelude.{nat_lt}
use Rattle.std.proofs.lemmas.Bool.{cases_lt}
use Rattle.std.proofs.lemmas.Bool.Decides.{nat_tests}
use Rattle.law_family.specs.model_device.specs.Pieces.{touched_words, with_number, with_words}
use Rattle.law_family.specs.model_device.proofs.PieceLemmas.{touched_append, with_number_twice}
use Rattle.law_steps.specs.Writes.{with_wait, with_waits, words_under}

-- ascending numbers, with some more from one on
with_numbers : ℕ → ℕ → List ℕ → List ℕ
with_numbers n zero ns = ns
with_numbers n (suc count) ns = with_numbers (n + 1) count (with_number n ns)

-- ---- the words of a piece

-- the next byte is in the same word, or in the next one
here_or_next : (at : ℕ) → ((at + 1) / 8 ≡ at / 8) ⊎ ((at + 1) / 8 ≡ at / 8 + 1)
here_or_next at = elim (cases_lt ((at + 1) / 8) (at / 8 + 1)) [ inl lt ↦ inl (omega arith) | inr le ↦ inr (omega arith) ]

one_byte : (at len : ℕ) (ns : List ℕ) → ((at + 1) / 8 ≡ at / 8) ⊎ ((at + 1) / 8 ≡ at / 8 + 1) → with_numbers ((at + 1) / 8) (words_under (at + 1, suc len)) (with_number (at / 8) ns) ≡ with_numbers (at / 8) (words_under (at, suc (suc len))) ns
unfolding with_numbers
one_byte at len ns (inl here) =
    let n = at / 8 in
    let more = with_number n ns in
    let rest = (at + suc len) / 8 - n in
    let count : words_under (at + 1, suc len) ≡ suc rest = omega arith in
    let all : words_under (at, suc (suc len)) ≡ suc rest = omega arith in
    ap (λ (m : ℕ). with_numbers m (words_under (at + 1, suc len)) more) here
    ∙ ap (λ (c : ℕ). with_numbers n c more) count
    ∙ ap (with_numbers (n + 1) rest) (with_number_twice n ns)
    ∙ ap (λ (c : ℕ). with_numbers n c ns) (sym all)
one_byte at len ns (inr next) =
    let n = at / 8 in
    let more = with_number n ns in
    let all : words_under (at, suc (suc len)) ≡ suc (words_under (at + 1, suc len)) = omega arith in
    ap (λ (m : ℕ). with_numbers m (words_under (at + 1, suc len)) more) next ∙ ap (λ (c : ℕ). with_numbers n c ns) (sym all)

numbers_are : (at : ℕ) (x : ℕ) (b ns : List ℕ) → with_words at (x ∷ b) ns ≡ with_numbers (at / 8) (words_under (at, suc (length b))) ns
unfolding with_numbers
numbers_are at x [] ns =
    let one : words_under (at, 1) ≡ suc zero = omega arith in
    ap (λ (c : ℕ). with_numbers (at / 8) c ns) (sym one)
numbers_are at x (y ∷ b) ns = numbers_are (at + 1) y b (with_number (at / 8) ns) ∙ one_byte at (length b) ns (here_or_next at)

-- the words of some bytes after those of pieces
piece_added : (ps : List (ℕ × List ℕ)) (at n : ℕ) (b : List ℕ) → length b ≡ n → 0 < n → touched_words (ps ++ (at, b) ∷ []) ≡ with_numbers (at / 8) (words_under (at, n)) (touched_words ps)
piece_added ps at n [] size some = absurd (omega (arith, size, some))
piece_added ps at n (x ∷ b) size some =
    touched_append ps ((at, x ∷ b) ∷ []) ∙ numbers_are at x b (touched_words ps) ∙ ap (λ (k : ℕ). with_numbers (at / 8) (words_under (at, k)) (touched_words ps)) size

some_words : (at n : ℕ) → 0 < n → 0 < words_under (at, n)
some_words at n some = omega (arith, some)

-- ---- how many

no_fewer : (n : ℕ) (ns : List ℕ) → length ns ≤ length (with_number n ns)
no_fewer n [] = omega arith
no_fewer n (k ∷ ks) = grind (arith, nat_tests, no_fewer n ks)

one_there : (n : ℕ) (ns : List ℕ) → 0 < length (with_number n ns)
one_there n [] = omega arith
one_there n (k ∷ ks) = grind (arith, nat_tests)

no_fewer_all : (n count : ℕ) (ns : List ℕ) → length ns ≤ length (with_numbers n count ns)
unfolding with_numbers
no_fewer_all n zero ns = omega arith
no_fewer_all n (suc count) ns = omega (arith, no_fewer n ns, no_fewer_all (n + 1) count (with_number n ns))

some_there : (n count : ℕ) (ns : List ℕ) → 0 < count → 0 < length (with_numbers n count ns)
unfolding with_numbers
some_there n zero ns some = absurd (omega (arith, some))
some_there n (suc count) ns some = omega (arith, one_there n ns, no_fewer_all (n + 1) count (with_number n ns))

-- while there is room, each is kept
kept : (n count : ℕ) (ns : List ℕ) → length (with_numbers n count ns) ≤ 64 → with_waits n count ns ≡ with_numbers n count ns
unfolding with_numbers
kept n zero ns few = refl
kept n (suc count) ns few =
    let less : length ns ≤ 64 = omega (arith, few, no_fewer n ns, no_fewer_all (n + 1) count (with_number n ns)) in
    let room : nat_lt (length ns) 128 ≡ true = grind (arith, nat_tests, less) in
    let one : with_wait n ns ≡ with_number n ns = ap (λ (b : Bool). cond b (with_number n ns) ns) room in
    ap (λ (ks : List ℕ). with_waits (n + 1) count ks) one ∙ kept (n + 1) count (with_number n ns) few

-- numbers one after the other
from : ℕ → ℕ → List ℕ
from k zero = []
from k (suc n) = k ∷ from (suc k) n

count_from : (n k : ℕ) → length (from k n) ≡ n
unfolding from
count_from zero k = refl
count_from (suc n) k = ap suc (count_from n (suc k))

later : (n k : ℕ) (ks : List ℕ) → k < n → with_number n (k ∷ ks) ≡ k ∷ with_number n ks
later n k ks h = grind (arith, nat_tests, h)

-- the number after some comes at their end
next_comes : (m k n : ℕ) → n ≡ k + m → with_number n (from k m) ≡ from k (suc m)
unfolding from
next_comes zero k n e = let same : n ≡ k = omega (arith, e) in ap (λ (j : ℕ). j ∷ []) same
next_comes (suc m) k n e = later n k (from (suc k) m) (omega (arith, e)) ∙ ap (λ (t : List ℕ). k ∷ t) (next_comes m (suc k) n (omega (arith, e)))

all_come : (count m k n : ℕ) → n ≡ k + m → with_numbers n count (from k m) ≡ from k (m + count)
unfolding with_numbers
all_come zero m k n e = let same : m ≡ m + zero = omega arith in ap (λ (j : ℕ). from k j) same
all_come (suc count) m k n e =
    let same : suc m + count ≡ m + suc count = omega arith in
    ap (λ (ns : List ℕ). with_numbers (n + 1) count ns) (next_comes m k n e) ∙ all_come count (suc m) k (n + 1) (omega (arith, e)) ∙ ap (λ (j : ℕ). from k j) same

none_touch : touched_words [] ≡ []
unfolding touched_words
none_touch = refl

-- ---- what the law needs

-- the number of words that some bytes touch
pub words_of_bytes : (at n : ℕ) (b : List ℕ) → length b ≡ n → 0 < n → words_under (at, n) ≡ length (touched_words ((at, b) ∷ []))
unfolding from
words_of_bytes at n b size some =
    let k : ℕ = at / 8 in
    let c : ℕ = words_under (at, n) in
    let all : touched_words ((at, b) ∷ []) ≡ from k c =
    piece_added [] at n b size some ∙ ap (λ (ns : List ℕ). with_numbers k c ns) none_touch ∙ all_come c 0 k k (omega arith) ∙ ap (λ (j : ℕ). from k j) (omega arith)
    in
    sym (ap (λ (ns : List ℕ). length ns) all ∙ count_from c k)

-- words are kept after those of pieces, if few enough are pending then
pub words_kept : (ps : List (ℕ × List ℕ)) (at n : ℕ) (b : List ℕ) → length b ≡ n → 0 < n → length (touched_words (ps ++ (at, b) ∷ [])) ≤ 64 → with_waits (at / 8) (words_under (at, n)) (touched_words ps) ≡ touched_words (ps ++ (at, b) ∷ [])
words_kept ps at n b size some few =
    let is = piece_added ps at n b size some in
    kept (at / 8) (words_under (at, n)) (touched_words ps) (subst (λ (ns : List ℕ). length ns ≤ 64) is few) ∙ sym is

-- a piece with bytes touches a word
pub some_touched : (ps : List (ℕ × List ℕ)) (at n : ℕ) (b : List ℕ) → length b ≡ n → 0 < n → 0 < length (touched_words (ps ++ (at, b) ∷ []))
some_touched ps at n b size some =
    subst (λ (ns : List ℕ). 0 < length ns) (sym (piece_added ps at n b size some)) (some_there (at / 8) (words_under (at, n)) (touched_words ps) (some_words at n some))

-- pieces with as many bytes touch as many words
pub as_many : (ps : List (ℕ × List ℕ)) (at n : ℕ) (b c : List ℕ) → length b ≡ n → length c ≡ n → 0 < n → touched_words (ps ++ (at, b) ∷ []) ≡ touched_words (ps ++ (at, c) ∷ [])
as_many ps at n b c size other some = piece_added ps at n b size some ∙ sym (piece_added ps at n c other some)
