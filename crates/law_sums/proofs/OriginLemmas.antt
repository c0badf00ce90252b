-- The number that bytes of known origins are.
use Rattle.std.specs.Prelude.{◌≡◌, ℕ, ◌+◌, ◌*◌, ◌^◌, List, [], ◌∷◌, length, Option, Some, None, refl}
use Rattle.std.proofs.Common.{arith, ap, subst, ◌∙◌}
use Rattle.std.proofs.Math.Nat.{mul_comm}
use Rattle.model_sums.specs.model_device.specs.Bytes.{num}
use Rattle.model_sums.specs.Forms.{Form, value, times}
use Rattle.model_sums.specs.Origins.{Origin, form_of_byte, above, form_of}
use Rattle.model_sums.specs.Says.{IsFrom, AreFrom}
use Rattle.law_sums.proofs.FormLemmas.{value_plus, value_times}

-- a byte is the value of its form
pub byte_value : (first : List ℕ) (o : Origin) (v : ℕ) (f : Form) → IsFrom first o v → form_of_byte o ≡ Some f → v ≡ value f first
byte_value first o v f h e = grind arith

-- bytes of known origins are as many as the origins
pub from_length : (first : List ℕ) (os : List Origin) (bs : List ℕ) → AreFrom first os bs → length os ≡ length bs
from_length first [] [] h = refl
from_length first [] (b ∷ bs) h = absurd h
from_length first (o ∷ os) [] h = absurd h
from_length first (o ∷ os) (b ∷ bs) h = omega (arith, from_length first os bs h.1)

above_value : (first : List ℕ) (n b r : ℕ) (x y : Option Form) (f : Form)
    → ((g : Form) → x ≡ Some g → b ≡ value g first) → ((g : Form) → y ≡ Some g → r ≡ value g first)
    → above n x y ≡ Some f → b * 256 ^ n + r ≡ value f first
above_value first n b r None y f h k e = absurd (cc e)
above_value first n b r (Some g) None f h k e = absurd (cc e)
above_value first n b r (Some g) (Some i) f h k e =
    grind (arith, h g refl, k i refl, value_plus (times (256 ^ n) g) i first, value_times (256 ^ n) g first, mul_comm b (256 ^ n) ∙ ap (λ (x : ℕ). 256 ^ n * x) (h g refl))

-- the number that bytes are is the value of the form of their origins
pub number_value : (first : List ℕ) (os : List Origin) (bs : List ℕ) (f : Form) → AreFrom first os bs → form_of os ≡ Some f → num bs ≡ value f first
number_value first [] [] f h e = grind arith
number_value first [] (b ∷ bs) f h e = absurd h
number_value first (o ∷ os) [] f h e = absurd h
number_value first (o ∷ os) (b ∷ bs) f h e =
    let one : b * 256 ^ length os + num bs ≡ value f first =
    above_value first (length os) b (num bs) (form_of_byte o) (form_of os) f (λ g i. byte_value first o b g h.0 i) (λ g i. number_value first os bs g h.1 i) e in
    subst (λ (n : ℕ). b * 256 ^ n + num bs ≡ value f first) (from_length first os bs h.1) one
