-- Amounts of public bytes.
use Rattle.std.proofs.Common.{◌≡◌, ◌-◌, ◌<◌, ◌≤◌, ℕ, zero, suc, List, Bool, true, false, cond, drop, Option, Some, None, Result, Ok, Err, arith, refl, sym, ap, ◌∙◌}
use Rattle.std.specs.Prelude.{◌&&◌, ◌||◌, nat_le, nat_lt, ℤ, pos, bytes_eq, codes, option_map, ok_or}
use Rattle.mc_text.specs.model_text.specs.Text.{◌>>=◌, begins, decimal_number, ok_as}
use Rattle.mc_text.specs.model_text.specs.Assembly.{minus, natural, signed_number}
use Rattle.model_rule_text.specs.model_play.specs.declared.deck.DeckCause.TheVariants.{BadLine, BadNumber, OutOfRange}
use Rattle.mc_text.specs.Reading.{capped_number}
use Rattle.prove_facts.specs.model_rules.specs.Rules as rules
use Rattle.model_rule_text.specs.Reading as reading
use Rattle.model_rule_text.specs.Reading.{Deck, OfBytes, RuleCause, amount_read, ends_of, form_at_register, form_of_amount, place_from, public_amount, register_field, unless}
use Rattle.prove_rules.specs.Fields.{IsAmountRead, IsNumber, IsPlace}
use Rattle.prove_rules.specs.declared.public.AmountRead.TheVariants as read
use Rattle.prove_rules.proofs.FieldLemmas.{capped_same}

-- ---- places

none_more : (m : ℕ) → 0 < m → None ≡ option_map capped_number (place_from true (minus m))
none_more zero e = absurd (omega (arith, e))
none_more (suc k) e = refl

more_than : (n m : ℕ) → n ≡ capped_number m → 0 < n → 0 < m
more_than n zero e h = absurd (omega (arith, e, h))
more_than n (suc k) e h = omega arith

pub before_beginning : (n m : ℕ) → n ≡ capped_number m → 0 < n → None ≡ option_map capped_number (place_from true (minus m))
before_beginning n m e h = none_more m (more_than n m e h)

none_zero : (m : ℕ) → 0 ≡ m → None ≡ option_map capped_number (place_from false (minus m))
none_zero zero e = refl
none_zero (suc k) e = absurd (cc e)

-- no bytes before the end
pub at_end : (n m : ℕ) → n ≡ capped_number m → n ≡ 0 → None ≡ option_map capped_number (place_from false (minus m))
at_end n m e h = none_zero m (sym h ∙ capped_same n m e (omega (arith, h)))

small_same : (n : ℕ) → n ≤ 4294967296 → n ≡ capped_number n
small_same n h = let test : nat_le n 4294967296 ≡ true = grind (arith, h) in sym (ap (λ b. cond b n 4294967296) test)

some_before : (n m : ℕ) → n ≡ m → 0 < n → n ≤ 1041 → Some (1041 - n) ≡ option_map capped_number (place_from false (minus m))
some_before n m e h i = grind (arith, small_same)

pub before_end : (n m : ℕ) → n ≡ capped_number m → 0 < n → n ≤ 1041 → Some (1041 - n) ≡ option_map capped_number (place_from false (minus m))
before_end n m e h i = some_before n m (capped_same n m e (omega (arith, i))) h i

-- ---- offsets

decimal_some : (o : Option ℕ) (n : ℕ) → Some n ≡ option_map capped_number o → (m : ℕ) × (o ≡ Some m) × (n ≡ capped_number m)
decimal_some None n e = absurd (cc e)
decimal_some (Some m) n e = (m, refl, cc e)

-- an offset with a sign
pub place_minus : (b : Bool) (t digits : List ℕ) (n : ℕ) (o : Option ℕ) → begins 45 t ≡ true → digits ≡ drop 1 t → Some n ≡ option_map capped_number (decimal_number digits)
    → ((m : ℕ) → n ≡ capped_number m → o ≡ option_map capped_number (place_from b (minus m))) → IsPlace b t o
place_minus b t digits n o e f h i = grind (arith, decimal_some)

none_of : (o : Option ℕ) → None ≡ option_map capped_number o → o ≡ None
none_of None e = refl
none_of (Some m) e = absurd (cc e)

-- an offset without a sign
pub place_plus : (b : Bool) (t : List ℕ) (n : ℕ) (o : Option ℕ) → begins 45 t ≡ false → IsNumber (natural t) n
    → ((m : ℕ) → n ≡ capped_number m → o ≡ option_map capped_number (place_from b (pos m))) → IsPlace b t o
place_plus b t n o e h i = grind arith

-- ---- forms

pub no_form : (t : List ℕ) → register_field t ≡ Err (Deck BadLine) → form_of_amount false t ≡ Err (Deck BadLine)
no_form t e = ap (λ r. r >>= form_at_register) e

-- the form by its register, with a range
abbrev form_from : Bool → Bool → Result (List ℕ × List ℕ) RuleCause → Result reading.AmountForm RuleCause
form_from known beginning ends = cond known (ok_as (λ e. OfBytes beginning e.0 e.1) ends) (Err (Deck BadLine))

form_is : (t r w : List ℕ) → register_field t ≡ Ok (r, w) → form_of_amount false t ≡ form_from (bytes_eq r (codes "PB") || bytes_eq r (codes "PT")) (bytes_eq r (codes "PB")) (ends_of w)
form_is t r w e = ap (λ x. x >>= form_at_register) e

pub no_end : (t r w : List ℕ) → register_field t ≡ Ok (r, w) → (bytes_eq r (codes "PB") || bytes_eq r (codes "PT")) ≡ false → form_of_amount false t ≡ Err (Deck BadLine)
no_end t r w e h = form_is t r w e ∙ ap (λ b. form_from b (bytes_eq r (codes "PB")) (ends_of w)) h

pub no_range : (t r w : List ℕ) → register_field t ≡ Ok (r, w) → (bytes_eq r (codes "PB") || bytes_eq r (codes "PT")) ≡ true → ends_of w ≡ Err (Deck BadLine) → form_of_amount false t ≡ Err (Deck BadLine)
no_range t r w e h i =
    form_is t r w e ∙ ap (λ b. form_from b (bytes_eq r (codes "PB")) (ends_of w)) h ∙ ap (form_from true (bytes_eq r (codes "PB"))) i

pub bytes_are : (t r w p q : List ℕ) (b : Bool) → register_field t ≡ Ok (r, w) → (bytes_eq r (codes "PB") || bytes_eq r (codes "PT")) ≡ true → bytes_eq r (codes "PB") ≡ b → ends_of w ≡ Ok (p, q) → form_of_amount false t ≡ Ok (OfBytes b p q)
bytes_are t r w p q b e h f i =
    form_is t r w e ∙ ap (λ k. form_from k (bytes_eq r (codes "PB")) (ends_of w)) h ∙ ap (form_from true (bytes_eq r (codes "PB"))) i ∙ ap (λ k. Ok (OfBytes k p q)) f

-- ---- numbers

abbrev offsets_from : Bool → Option ℤ → Option ℤ → Result reading.AmountRead RuleCause
offsets_from b p q = ok_or p (Deck BadNumber) >>= λ p. ok_or q (Deck BadNumber) >>= λ q. Ok (reading.Offsets b p q)

pub no_last : (b : Bool) (p q : List ℕ) (x : ℤ) → signed_number p ≡ Some x → signed_number q ≡ None → amount_read (OfBytes b p q) ≡ Err (Deck BadNumber)
no_last b p q x e h = ap (λ o. offsets_from b o (signed_number q)) e ∙ ap (offsets_from b (Some x)) h

pub places_are : (b : Bool) (p q : List ℕ) (o u : Option ℕ) → IsPlace b p o → IsPlace b q u → IsAmountRead (amount_read (OfBytes b p q)) (read.Places o u)
places_are b p q o u h i = grind arith

-- ---- ranges

pub none_from : (o p : Option ℕ) → None ≡ option_map capped_number o → public_amount o p ≡ Err (Deck OutOfRange)
none_from None p e = refl
none_from (Some a) p e = absurd (cc e)

abbrev within : ℕ → ℕ → Bool → Result rules.Amount RuleCause
within p q b = unless b OutOfRange (rules.PublicBytes p (suc q - p))

upto : (a b : ℕ) → a ≤ b → nat_le a b ≡ true
upto a b h = grind (arith, h)

below : (a b : ℕ) → a < b → nat_lt a b ≡ true
below a b h = grind (arith, h)

not_below : (a b : ℕ) → b ≤ a → nat_lt a b ≡ false
not_below a b h = grind (arith, h)

both : (a b : Bool) → a ≡ true → b ≡ true → (a && b) ≡ true
both a b e f = rw e f

first_false : (a b : Bool) → a ≡ false → (a && b) ≡ false
first_false a b e = rw e refl

last_false : (a b : Bool) → b ≡ false → (a && b) ≡ false
last_false true b e = e
last_false false b e = refl

far_some : (n m : ℕ) (b : Bool) → nat_le m 4294967296 ≡ b → n ≡ cond b m 4294967296 → 1041 ≤ n → 1041 ≤ m
far_some n m true e i h = omega (arith, i, h)
far_some n m false e i h = let k : 4294967296 < m = grind (arith, e) in omega (arith, k)

-- the last place is not in the segment
pub past_end : (o p : Option ℕ) (a b : ℕ) → Some a ≡ option_map capped_number o → Some b ≡ option_map capped_number p → 1041 ≤ b → public_amount o p ≡ Err (Deck OutOfRange)
past_end o p a b e f h = grind (arith, last_false, not_below, far_some)
