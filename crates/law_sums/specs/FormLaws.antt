-- Laws of forms: sums and multiples are those of their values, and what is zero or the same modulo 256 ^ n is so
-- whatever the public bytes were.
use Rattle.std.specs.Prelude.{◌≡◌, ℕ, ◌+◌, ◌*◌, ◌%◌, ◌^◌, true, List}
use Rattle.model_sums.specs.Forms.{Form, value, plus, times, minus, is_zero, same_forms}

-- of the public bytes as the frame began
pub record ArithmeticHolds (first : List ℕ) : Type 0 where
  pub plus : (f g : Form) → value (plus f g) first ≡ value f first + value g first
  pub times : (k : ℕ) (f : Form) → value (times k f) first ≡ k * value f first
  pub minus : (n : ℕ) (f g : Form) → (value (minus n f g) first + value g first) % 256 ^ n ≡ value f first % 256 ^ n
  pub is_zero : (n : ℕ) (f : Form) → is_zero n f ≡ true → value f first % 256 ^ n ≡ 0
  pub same_forms : (n : ℕ) (f g : Form) → same_forms n f g ≡ true → value f first % 256 ^ n ≡ value g first % 256 ^ n

-- whatever they were
abbrev pub FormLaw : Type 0
FormLaw = (first : List ℕ) → ArithmeticHolds first
