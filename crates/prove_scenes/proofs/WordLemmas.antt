-- The words that bytes touch, where nothing else is pending.
use Rattle.std.proofs.Common.{◌≡◌, ℕ, zero, suc, ◌+◌, ◌-◌, ◌*◌, ◌/◌, ◌≤◌, ◌<◌, Bool, cond, List, [], ◌∷◌, length, refl, sym, ◌∙◌, ap, arith, inl, inr, ◌≢◌}
use Rattle.std.specs.Prelude.{nat_lt}
use Rattle.std.proofs.lemmas.Bool.{eq-eqb, cases_lt}
use Rattle.model_machine.specs.model_device.specs.Bytes.{down, zeros}
use Rattle.model_machine.specs.model_device.specs.Pieces.{with_number, with_words, touched_words}
use Rattle.model_prove.specs.Sets.{numbers_from}

-- a number that is not the first of some, and not below it, goes among the others
later : (n k : ℕ) (ks : List ℕ) → k < n → with_number n (k ∷ ks) ≡ k ∷ with_number n ks
later n k ks h = grind (arith, h)

-- a number that is the first
first : (n : ℕ) (ks : List ℕ) → with_number n (n ∷ ks) ≡ n ∷ ks
first n ks = ap (λ (b : Bool). cond b (n ∷ ks) (cond (nat_lt n n) (n ∷ n ∷ ks) (n ∷ with_number n ks))) (eq-eqb n n refl)

-- the last of some numbers is there already
last_there : (m k n : ℕ) → n ≡ k + m → with_number n (numbers_from k (suc m)) ≡ numbers_from k (suc m)
last_there zero k n e = let same : n ≡ k = omega (arith, e) in ap (λ (j : ℕ). with_number j (k ∷ [])) same ∙ first k []
last_there (suc m) k n e = later n k (numbers_from (suc k) (suc m)) (omega (arith, e)) ∙ ap (λ (t : List ℕ). k ∷ t) (last_there m (suc k) n (omega (arith, e)))

-- the number after them comes at their end
next_comes : (m k n : ℕ) → n ≡ k + m → with_number n (numbers_from k m) ≡ numbers_from k (suc m)
next_comes zero k n e = let same : n ≡ k = omega (arith, e) in ap (λ (j : ℕ). j ∷ []) same
next_comes (suc m) k n e = later n k (numbers_from (suc k) m) (omega (arith, e)) ∙ ap (λ (t : List ℕ). k ∷ t) (next_comes m (suc k) n (omega (arith, e)))

-- the words of n bytes after some, of which the last holds the byte before `at`
more_words : (n at k m r : ℕ) → 8 * (k + m) + 1 ≤ at → at ≤ 8 * (k + m) + 8 → r ≡ (at + n + 7) / 8 - k → with_words at (zeros n) (numbers_from k (suc m)) ≡ numbers_from k r
more_words zero at k m r low high is = let same : suc m ≡ r = omega (arith, is) in ap (numbers_from k) same
more_words (suc n) at k m r low high is =
    elim (cases_lt at (8 * (k + m) + 8)) [
      | inl in_last ↦
          let word : down at 8 ≡ k + m = omega arith in
          ap (λ (t : List ℕ). with_words (at + 1) (zeros n) t) (last_there m k (down at 8) word)
          ∙ more_words n (at + 1) k m r (omega arith) (omega arith) (omega (arith, is))
      | inr in_next ↦
          let word : down at 8 ≡ k + suc m = omega arith in
          ap (λ (t : List ℕ). with_words (at + 1) (zeros n) t) (next_comes (suc m) k (down at 8) word)
          ∙ more_words n (at + 1) k (suc m) r (omega arith) (omega arith) (omega (arith, is))
    ]

count_of_numbers : (n k : ℕ) → length (numbers_from k n) ≡ n
count_of_numbers zero k = refl
count_of_numbers (suc n) k = ap suc (count_of_numbers n (suc k))

-- no bytes touch no words
pub no_words : (at n : ℕ) → n ≡ 0 → 0 ≡ length (touched_words ((at, zeros n) ∷ []))
unfolding touched_words
no_words at n h = rw h refl

-- the number of words that bytes touch
pub words_are : (at n : ℕ) → n ≢ 0 → (at + n - 1) / 8 - at / 8 + 1 ≡ length (touched_words ((at, zeros n) ∷ []))
unfolding touched_words
words_are at zero h = absurd (h refl)
words_are at (suc n) h =
    let r : ℕ = (at + suc n - 1) / 8 - at / 8 + 1 in
    let all : with_words (at + 1) (zeros n) (numbers_from (at / 8) 1) ≡ numbers_from (at / 8) r =
    more_words n (at + 1) (at / 8) 0 r (omega arith) (omega arith) (omega arith) in
    sym (ap length all ∙ count_of_numbers r (at / 8))
