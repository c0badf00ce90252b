-- The number of words that are pending after one piece more.
use Rattle.std.proofs.Common.{◌≡◌, ℕ, zero, suc, ◌+◌, ◌-◌, ◌/◌, ◌≤◌, ◌<◌, ◌⊎◌, false, cond, List, [], ◌∷◌, ◌++◌, length, refl, sym, ap, ◌∙◌, inl, inr, arith}
use Rattle.std.specs.Prelude.{nat_eq, is_none}
use Rattle.std.proofs.lemmas.Bool.{cases_lt, ne_eqb}
use Rattle.std.proofs.lemmas.Bool.Decides.{nat_tests}
use Rattle.model_device.specs.Pieces.{touched_words, numbers, pending_at, not_pending, with_number, with_words, Ascend, HoldPieces}
use Rattle.mc_trans.proofs.Touched.{mem, mem_number}
use Rattle.model_device.proofs.PieceLemmas.{touched_append, with_number_twice}

-- a sorted set of numbers with `count` more, from n on
with_numbers : ℕ → ℕ → List ℕ → List ℕ
with_numbers n zero ns = ns
with_numbers n (suc count) ns = with_numbers (n + 1) count (with_number n ns)

-- the number of words in which a piece of len bytes at `at` has a byte
abbrev words_in : ℕ → ℕ → ℕ
words_in at len = (at + len - 1) / 8 + 1 - at / 8

-- the next byte is in the same word, or in the next one
here_or_next : (at : ℕ) → ((at + 1) / 8 ≡ at / 8) ⊎ ((at + 1) / 8 ≡ at / 8 + 1)
here_or_next at = elim (cases_lt ((at + 1) / 8) (at / 8 + 1)) [ inl lt ↦ inl (omega arith) | inr le ↦ inr (omega arith) ]

one_byte : (at len : ℕ) (ns : List ℕ) → ((at + 1) / 8 ≡ at / 8) ⊎ ((at + 1) / 8 ≡ at / 8 + 1) → with_numbers ((at + 1) / 8) (words_in (at + 1) (suc len)) (with_number (at / 8) ns) ≡ with_numbers (at / 8) (words_in at (suc (suc len))) ns
unfolding with_numbers
one_byte at len ns (inl here) =
    let n = at / 8 in
    let more = with_number n ns in
    let rest = (at + suc len) / 8 - n in
    let count : words_in (at + 1) (suc len) ≡ suc rest = omega arith in
    let all : words_in at (suc (suc len)) ≡ suc rest = omega arith in
    ap (λ (m : ℕ). with_numbers m (words_in (at + 1) (suc len)) more) here
    ∙ ap (λ (c : ℕ). with_numbers n c more) count
    ∙ ap (with_numbers (n + 1) rest) (with_number_twice n ns)
    ∙ ap (λ (c : ℕ). with_numbers n c ns) (sym all)
one_byte at len ns (inr next) =
    let n = at / 8 in
    let more = with_number n ns in
    let all : words_in at (suc (suc len)) ≡ suc (words_in (at + 1) (suc len)) = omega arith in
    ap (λ (m : ℕ). with_numbers m (words_in (at + 1) (suc len)) more) next ∙ ap (λ (c : ℕ). with_numbers n c ns) (sym all)

numbers_are : (at : ℕ) (x : ℕ) (b ns : List ℕ) → with_words at (x ∷ b) ns ≡ with_numbers (at / 8) (words_in at (suc (length b))) ns
unfolding with_numbers
numbers_are at x [] ns =
    let one : words_in at 1 ≡ suc zero = omega arith in
    ap (λ (c : ℕ). with_numbers (at / 8) c ns) (sym one)
numbers_are at x (y ∷ b) ns = numbers_are (at + 1) y b (with_number (at / 8) ns) ∙ one_byte at (length b) ns (here_or_next at)

-- numbers that ascend still ascend with one more
ascends_number : (least n : ℕ) (ns : List ℕ) → least ≤ n → Ascend least ns → Ascend least (with_number n ns)
ascends_number least n [] le asc = (le, tt)
ascends_number least n (k ∷ ks) le asc = grind (arith, nat_tests, ascends_number (k + 1) n ks)

none_below : (least m : ℕ) (ns : List ℕ) → m < least → Ascend least ns → mem m ns ≡ false
none_below least m [] lt asc = refl
none_below least m (k ∷ ks) lt asc = grind (arith, nat_tests, none_below (k + 1) m ks)

length_with_number : (least n : ℕ) (ns : List ℕ) → Ascend least ns → length (with_number n ns) ≡ length ns + cond (mem n ns) 0 1
length_with_number least n [] asc = refl
length_with_number least n (k ∷ ks) asc = grind (arith, nat_tests, length_with_number (k + 1) n ks, none_below (k + 1) n ks)

-- the number of numbers in n..n + count that are not in the list
abbrev missing : ℕ → ℕ → List ℕ → ℕ
missing n zero ns = 0
missing n (suc count) ns = cond (mem n ns) 0 1 + missing (n + 1) count ns

missing_later : (n m count : ℕ) (ns : List ℕ) → n < m → missing m count (with_number n ns) ≡ missing m count ns
missing_later n m zero ns lt = refl
missing_later n m (suc count) ns lt =
    let other : nat_eq n m ≡ false = ne_eqb _ _ (omega arith) in
    rw (mem_number m n ns, other, missing_later n (m + 1) count ns (omega arith)) refl

length_with_numbers : (n count : ℕ) (ns : List ℕ) → Ascend 0 ns → length (with_numbers n count ns) ≡ length ns + missing n count ns
unfolding with_numbers
length_with_numbers n zero ns asc = omega arith
length_with_numbers n (suc count) ns asc =
    let rest = length_with_numbers (n + 1) count (with_number n ns) (ascends_number 0 n ns (omega arith) asc) in
    let later = missing_later n (n + 1) count ns (omega arith) in
    omega (arith, length_with_number 0 n ns asc, rest, later)

-- a number is missing from the numbers of pending words exactly if no word is pending under it
one_missing : (n : ℕ) (ws : List (ℕ × List ℕ)) → ◌≡◌ {A = ℕ} (cond (mem n (numbers ws)) 0 1) (cond (is_none (pending_at ws n)) 1 0)
one_missing n [] = refl
one_missing n (w ∷ ws) = grind (arith, nat_tests, one_missing n ws)

missing_is : (n count : ℕ) (ws : List (ℕ × List ℕ)) → missing n count (numbers ws) ≡ not_pending n count ws
missing_is n zero ws = refl
missing_is n (suc count) ws = omega (arith, one_missing n ws, missing_is (n + 1) count ws)

length_numbers : (ws : List (ℕ × List ℕ)) → length (numbers ws) ≡ length ws
length_numbers [] = refl
length_numbers (w ∷ ws) = ap suc (length_numbers ws)

pub words_counted : (l : List ℕ) (ps ws : List (ℕ × List ℕ)) (at : ℕ) (b : List ℕ) → HoldPieces l ps ws → 0 < length b → length (touched_words (ps ++ (at, b) ∷ [])) ≡ length ws + not_pending (at / 8) ((at + length b - 1) / 8 + 1 - at / 8) ws
words_counted l ps ws at [] held some = absurd (omega arith)
words_counted l ps ws at (x ∷ b) held some =
    let count = words_in at (suc (length b)) in
    let words : touched_words (ps ++ (at, x ∷ b) ∷ []) ≡ with_numbers (at / 8) count (numbers ws) =
    touched_append ps ((at, x ∷ b) ∷ []) ∙ ap (with_words at (x ∷ b)) (sym held.touched_words) ∙ numbers_are at x b (numbers ws) in
    ap length words ∙ omega (arith, length_with_numbers (at / 8) count (numbers ws) held.pending.ascending, missing_is (at / 8) count ws, length_numbers ws)
