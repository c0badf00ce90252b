-- Linear forms in the public bytes of a frame's beginning: what sums and the numbers in blocks differ by. Their values
-- are compared modulo 256 ^ n, where n is the length of a block: a subtraction adds 256 ^ n - 1 times what it takes.
-- This is the abstract domain of linear equalities (Karr, Acta Informatica 1976), for the congruences of one modulus.
use Rattle.std.specs.Prelude.{ℕ, ◌+◌, ◌-◌, ◌*◌, ◌%◌, ◌^◌, Bool, true, false, cond, ◌&&◌, ◌==◌, List, [], ◌∷◌, map, slice_index}

-- factors of public bytes, by their places in the public segment, each place once
abbrev pub Terms : Type 0
Terms = List (ℕ × ℕ)

-- a constant, and multiples of public bytes as the frame began
pub record Form : Type 0 where
  pub constant : ℕ
  pub terms : Terms

-- ---- values

-- the value of terms, if the public bytes were these as the frame began
abbrev pub value_of_terms : Terms → List ℕ → ℕ
value_of_terms [] first = 0
value_of_terms (t ∷ ts) first = t.1 * slice_index first t.0 + value_of_terms ts first

-- the value of a form
abbrev pub value : Form → List ℕ → ℕ
value f first = f.constant + value_of_terms f.terms first

-- ---- arithmetic

-- a number
abbrev pub number : ℕ → Form
number k = record { constant = k; terms = [] }

-- the public byte at a place
abbrev pub public_byte : ℕ → Form
public_byte p = record { constant = 0; terms = (p, 1) ∷ [] }

-- terms with one more, which is added to that of its byte
abbrev pub with_term : ℕ × ℕ → Terms → Terms
with_term t [] = t ∷ []
with_term t (u ∷ us) =
    let rest = with_term t us in
    cond (u.0 == t.0) ((u.0, u.1 + t.1) ∷ us) (u ∷ rest)

-- terms with those of another form
abbrev pub with_terms : Terms → Terms → Terms
with_terms [] us = us
with_terms (t ∷ ts) us = with_term t (with_terms ts us)

-- the sum of two forms
abbrev pub plus : Form → Form → Form
plus f g = record { constant = f.constant + g.constant; terms = with_terms g.terms f.terms }

-- a multiple of terms
abbrev pub times_terms : ℕ → Terms → Terms
times_terms k [] = []
times_terms k (t ∷ ts) = (t.0, k * t.1) ∷ times_terms k ts

-- a multiple of a form
abbrev pub times : ℕ → Form → Form
times k f = record { constant = k * f.constant; terms = times_terms k f.terms }

-- what is as good as minus a form, modulo 256 ^ n
abbrev pub negative : ℕ → Form → Form
negative n f = times (256 ^ n - 1) f

-- the difference of two forms, modulo 256 ^ n
abbrev pub minus : ℕ → Form → Form → Form
minus n f g = plus f (negative n g)

-- ---- comparison

-- whether all factors are zero
abbrev pub are_zero : ℕ → Terms → Bool
are_zero n [] = true
are_zero n (t ∷ ts) = t.1 % 256 ^ n == 0 && are_zero n ts

-- whether a form is zero modulo 256 ^ n, whatever the public bytes were
abbrev pub is_zero : ℕ → Form → Bool
is_zero n f = f.constant % 256 ^ n == 0 && are_zero n f.terms

-- whether two forms are the same modulo 256 ^ n, whatever they were
abbrev pub same_forms : ℕ → Form → Form → Bool
same_forms n f g = is_zero n (minus n f g)
