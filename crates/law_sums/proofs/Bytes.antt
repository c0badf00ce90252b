-- Numbers in memory: those of bytes that a write does not touch stay.
use Rattle.std.specs.Prelude.{◌≡◌, ◌⊎◌, ℕ, zero, suc, ◌+◌, ◌<◌, ◌≤◌, false, nat_lt, nat_le, refl}
use Rattle.std.proofs.Common.{arith, ap}
use Rattle.std.proofs.lemmas.Bool.{leb-true, ltb-true, lt-ltb, and_from, cases_Bool}
use Rattle.model_sums.specs.model_device.specs.Bytes.{num}
use Rattle.model_sums.specs.model_prove.specs.Facts.{Memory}
use Rattle.model_sums.specs.model_prove.specs.Compares.{meet, bytes_from}
use Rattle.model_sums.specs.Says.{number_at}

-- two memories are the same outside of n bytes at an address
abbrev pub SameBut : ℕ → ℕ → Memory → Memory → Type 0
SameBut a n m k = (b : ℕ) → (b < a) ⊎ (a + n ≤ b) → m b ≡ k b

apart_not : (a n b l x : ℕ) → meet a n b l ≡ false → b ≤ x → x < b + l → nat_lt x a ≡ false → nat_le (a + n) x ≡ false → ⊥
apart_not a n b l x e low high h k = grind (arith, lt-ltb, and_from)

apart : (a n b l x : ℕ) → meet a n b l ≡ false → b ≤ x → x < b + l → (x < a) ⊎ (a + n ≤ x)
apart a n b l x e low high = grind (arith, cases_Bool, ltb-true, leb-true, apart_not)

-- the bytes at an address are the same where each of them is
pub same_bytes : (m k : Memory) (b l : ℕ) → ((x : ℕ) → b ≤ x → x < b + l → m x ≡ k x) → bytes_from m b l ≡ bytes_from k b l
same_bytes m k b zero h = refl
same_bytes m k b (suc l) h = grind (arith, h b (omega arith) (omega arith), same_bytes m k (suc b) l (λ x low high. h x (omega (arith, low)) (omega (arith, high))))

-- the number in bytes that a write does not touch stays
pub number_stays : (a n : ℕ) (m k : Memory) (b l : ℕ) → SameBut a n m k → meet a n b l ≡ false → number_at m b l ≡ number_at k b l
number_stays a n m k b l h e = ap num (same_bytes m k b l (λ x low high. h x (apart a n b l x e low high)))
