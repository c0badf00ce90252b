-- Blocks of equal bytes, and the number 1 in a block.
use Rattle.std.proofs.Common.{◌≡◌, ◌≢◌, ℕ, zero, suc, ◌+◌, ◌-◌, ◌/◌, ◌%◌, ◌^◌, ◌≤◌, List, [], ◌∷◌, ◌++◌, length, refl, sym, ap, ◌∙◌, arith}
use Rattle.std.specs.Prelude.{replicate}
use Rattle.std.proofs.lemmas.List.{length-replicate}
use Rattle.std.proofs.Math.Nat.{div-eq_of_lt, pow-suc}
use Rattle.model_machine.specs.model_device.specs.Bytes.{bytes, zeros}

-- one more equal byte
pub one_more : (n v : ℕ) → replicate n v ++ v ∷ [] ≡ replicate (n + 1) v
one_more zero v = refl
one_more (suc n) v =
    let next : suc (n + 1) ≡ suc n + 1 = omega arith in
    ap (λ (t : List ℕ). v ∷ t) (one_more n v) ∙ ap (λ (k : ℕ). replicate k v) next

-- a power of 256 above the first is above 1
power : (n : ℕ) → 2 ≤ 256 ^ suc n
power zero = omega arith
power (suc n) = let h : 2 ≤ 256 ^ suc n = power n in omega (arith, h, pow-suc 256 (suc n))

small : (p : ℕ) → 2 ≤ p → 1 / p % 256 ≡ 0
small p h = let zero_is : 1 / p ≡ 0 = div-eq_of_lt (omega (arith, h)) in ap (λ (k : ℕ). k % 256) zero_is

one_bytes : (n : ℕ) → replicate n 0 ++ 1 ∷ [] ≡ bytes (suc n) 1
one_bytes zero = refl
one_bytes (suc n) = ap (λ (k : ℕ). k ∷ (replicate n 0 ++ 1 ∷ [])) (sym (small (256 ^ suc n) (power n))) ∙ ap (λ (t : List ℕ). (1 / 256 ^ suc n % 256) ∷ t) (one_bytes n)

-- the number 1 in a block
pub one_is : (n : ℕ) → n ≢ 0 → replicate (n - 1) 0 ++ 1 ∷ [] ≡ bytes n 1
one_is zero h = absurd (h refl)
one_is (suc n) h = let less : suc n - 1 ≡ n = omega arith in ap (λ (k : ℕ). replicate k 0 ++ 1 ∷ []) less ∙ one_bytes n

-- a block of no bytes
pub none_is : (n : ℕ) → n ≡ 0 → [] ≡ bytes n 1
none_is n h = rw h refl

-- the length of a name of zeros
pub name_length : (n : ℕ) → length (zeros n) ≡ n
name_length n = length-replicate n 0
