-- Numbers and amounts in the fields of rules.
use Rattle.std.specs.Prelude.{◌≡◌, ◌<◌, ◌≤◌, ℕ, ℤ, Bool, List, [], ◌∷◌, option_map, Option, Some, None, Result, Ok, Err}
use Rattle.mc_text.specs.Reading.{capped_number}
use Rattle.mc_text.specs.model_text.specs.Assembly.{signed_number}
use Rattle.model_rule_text.specs.Reading as reading
use Rattle.model_rule_text.specs.Reading.{place_from}
use Rattle.prove_rules.specs.declared.public.AmountForm.{AmountForm}
use Rattle.prove_rules.specs.declared.public.AmountForm.TheVariants as form
use Rattle.prove_rules.specs.declared.public.AmountRead.{AmountRead}
use Rattle.prove_rules.specs.declared.public.AmountRead.TheVariants as read

-- two texts that are all
abbrev pub two_of : List (List ℕ) → Option (List ℕ × List ℕ)
two_of (a ∷ b ∷ []) = Some (a, b)
two_of other = None

-- A number is one that a text may have; above 4,294,967,296 it counts as that.
pub record IsNumber (o : Option ℕ) (n : ℕ) : Type 0 where
  pub number : ℕ
  pub is : o ≡ Some number
  pub capped : n ≡ capped_number number
  pub low : n < 4294967296 → n ≡ number
  pub high : 4294967296 ≤ n → 4294967296 ≤ number

-- ---- amounts

-- the form of an amount, as the definition has it
abbrev pub form_value : AmountForm → reading.AmountForm
form_value (form.Number t) = reading.OfNumber t.now
form_value (form.Bytes beginning from to) = reading.OfBytes beginning from.now to.now

-- an offset from one of the ends of the public segment has this place; one above 4,294,967,296 counts as that
pub record IsPlace (beginning : Bool) (text : List ℕ) (place : Option ℕ) : Type 0 where
  pub offset : ℤ
  pub reads : signed_number text ≡ Some offset
  pub is : place ≡ option_map capped_number (place_from beginning offset)

-- an amount whose numbers were read is that of the definition
abbrev pub IsReadOf : reading.AmountRead → AmountRead → Type 0
IsReadOf (reading.Number k) (read.Number n) = n ≡ k
IsReadOf (reading.Number k) (read.Places from to) = ⊥
IsReadOf (reading.Offsets beginning p q) (read.Number n) = ⊥
IsReadOf (reading.Offsets beginning p q) (read.Places from to) =
    (from ≡ option_map capped_number (place_from beginning p)) × (to ≡ option_map capped_number (place_from beginning q))

-- it is, if its numbers can be read
abbrev pub IsAmountRead : {E : Type 0} → Result reading.AmountRead E → AmountRead → Type 0
IsAmountRead (Ok r) a = IsReadOf r a
IsAmountRead (Err e) a = ⊥
