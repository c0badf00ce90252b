-- Words with operands.
use Rattle.std.proofs.Common.{◌≡◌, ◌≢◌, ℕ, false, List, [], ◌∷◌, ◌≤◌, length, Bor, Option, Some, None, Result, Ok, Err, refl, ap, arith, ◌∙◌}
use Rattle.std.specs.Prelude.{ℤ, nat_le}
use Rattle.mc_asm.specs.Items.{texts}
use Rattle.mc_asm.specs.Parts.{pair_of}
use Rattle.model_text.specs.declared.assembler.AsmCause.{AsmCause}
use Rattle.model_text.specs.declared.assembler.AsmCause.TheVariants.{BadOperands}
use Rattle.model_text.specs.model_machine.specs.declared.instruction.Ins.{Ins}
use Rattle.model_text.specs.model_machine.specs.declared.instruction.Ins.TheVariants.{Prim}
use Rattle.model_text.specs.Text.{ok_as}
use Rattle.model_text.specs.Assembly.{WordForm, CodeItem, byte, both, all_bytes, primitive, Plain, item_of_word, ByDistance, ByPlace, AddressedByte, AddressedWord, Primitive}

one_more : {A : Type 0} (r : Result ℕ AsmCause) (f : A → List ℕ) (s : Result A AsmCause) → ok_as (λ p. p.0 ∷ p.1) (both r (ok_as f s)) ≡ ok_as (λ p. p.0 ∷ f p.1) (both r s)
one_more r f s = grind arith

last_one : (r : Result ℕ AsmCause) → ok_as (λ p. p.0 ∷ p.1) (both r (all_bytes [])) ≡ ok_as (λ n. n ∷ []) r
last_one (Ok a) = refl
last_one (Err c) = refl

pub one_byte : (a : List ℕ) → all_bytes (a ∷ []) ≡ ok_as (λ n. n ∷ []) (byte a)
one_byte a = last_one (byte a)

pub two_bytes : (a b : List ℕ) → all_bytes (a ∷ b ∷ []) ≡ ok_as (λ p. p.0 ∷ p.1 ∷ []) (both (byte a) (byte b))
two_bytes a b = ap (λ r. ok_as (λ p. p.0 ∷ p.1) (both (byte a) r)) (one_byte b) ∙ one_more (byte a) (λ n. n ∷ []) (byte b)

pub three_bytes : (a b c : List ℕ) → all_bytes (a ∷ b ∷ c ∷ []) ≡ ok_as (λ p. p.0 ∷ (p.1).0 ∷ (p.1).1 ∷ []) (both (byte a) (both (byte b) (byte c)))
three_bytes a b c = ap (λ r. ok_as (λ p. p.0 ∷ p.1) (both (byte a) r)) (two_bytes b c) ∙ one_more (byte a) (λ p. p.0 ∷ p.1 ∷ []) (both (byte b) (byte c))

pub four_bytes : (a b c d : List ℕ) → all_bytes (a ∷ b ∷ c ∷ d ∷ []) ≡ ok_as (λ p. p.0 ∷ (p.1).0 ∷ ((p.1).1).0 ∷ ((p.1).1).1 ∷ []) (both (byte a) (both (byte b) (both (byte c) (byte d))))
four_bytes a b c d = ap (λ r. ok_as (λ p. p.0 ∷ p.1) (both (byte a) r)) (three_bytes b c d) ∙ one_more (byte a) (λ p. p.0 ∷ (p.1).0 ∷ (p.1).1 ∷ []) (both (byte b) (both (byte c) (byte d)))

made : {A : Type 0} (f : A → List ℕ) (r : Result A AsmCause) → ok_as primitive (ok_as f r) ≡ ok_as (λ x. primitive (f x)) r
made f (Ok a) = refl
made f (Err c) = refl

pub primitive_two : (n a : List ℕ) → item_of_word Primitive (n ∷ a ∷ []) ≡ ok_as (λ p. Plain (Prim 1 p.0 (p.1 ∷ 0 ∷ 0 ∷ []))) (both (byte n) (byte a))
primitive_two n a = ap (ok_as primitive) (two_bytes n a) ∙ made (λ p. p.0 ∷ p.1 ∷ []) (both (byte n) (byte a))

pub primitive_three : (n a b : List ℕ) → item_of_word Primitive (n ∷ a ∷ b ∷ []) ≡ ok_as (λ p. Plain (Prim 2 p.0 ((p.1).0 ∷ (p.1).1 ∷ 0 ∷ []))) (both (byte n) (both (byte a) (byte b)))
primitive_three n a b = ap (ok_as primitive) (three_bytes n a b) ∙ made (λ p. p.0 ∷ (p.1).0 ∷ (p.1).1 ∷ []) (both (byte n) (both (byte a) (byte b)))

pub primitive_four : (n a b c : List ℕ) → item_of_word Primitive (n ∷ a ∷ b ∷ c ∷ []) ≡ ok_as (λ p. Plain (Prim 3 p.0 ((p.1).0 ∷ ((p.1).1).0 ∷ ((p.1).1).1 ∷ []))) (both (byte n) (both (byte a) (both (byte b) (byte c))))
primitive_four n a b c = ap (ok_as primitive) (four_bytes n a b c) ∙ made (λ p. p.0 ∷ (p.1).0 ∷ ((p.1).1).0 ∷ ((p.1).1).1 ∷ []) (both (byte n) (both (byte a) (both (byte b) (byte c))))

-- ---- other numbers of operands

abbrev pub by_pair : WordForm → Option (List ℕ × List ℕ) → Result CodeItem AsmCause
by_pair form None = Err BadOperands
by_pair form (Some p) = item_of_word form (p.0 ∷ p.1 ∷ [])

pub distance_of_pair : (f : ℕ → ℤ → Ins) (ts : List (List ℕ)) → item_of_word (ByDistance f) ts ≡ by_pair (ByDistance f) (pair_of ts)
distance_of_pair f ts = grind arith

pub place_of_pair : (f : ℕ → ℕ → Ins) (ts : List (List ℕ)) → length ts ≢ 0 → item_of_word (ByPlace f) ts ≡ by_pair (ByPlace f) (pair_of ts)
place_of_pair f ts h = grind arith

pub no_addressed_byte : (f : ℕ → ℤ → ℕ → Ins) (ts : List (Bor (List ℕ))) → 3 ≤ length ts → Err BadOperands ≡ item_of_word (AddressedByte f) (texts ts)
no_addressed_byte f [] h = absurd (omega (arith, h))
no_addressed_byte f (a ∷ []) h = absurd (omega (arith, h))
no_addressed_byte f (a ∷ b ∷ []) h = absurd (omega (arith, h))
no_addressed_byte f (a ∷ b ∷ c ∷ ts) h = refl

pub no_addressed_word : (f : ℕ → ℤ → ℕ → Ins) (ts : List (Bor (List ℕ))) → 3 ≤ length ts → Err BadOperands ≡ item_of_word (AddressedWord f) (texts ts)
no_addressed_word f [] h = absurd (omega (arith, h))
no_addressed_word f (a ∷ []) h = absurd (omega (arith, h))
no_addressed_word f (a ∷ b ∷ []) h = absurd (omega (arith, h))
no_addressed_word f (a ∷ b ∷ c ∷ ts) h = refl

pub no_primitive : (ts : List (List ℕ)) → 5 ≤ length ts → item_of_word Primitive ts ≡ Err BadOperands
no_primitive [] h = absurd (omega (arith, h))
no_primitive (a ∷ ts) h = let l : nat_le (length ts) 3 ≡ false = grind (arith, h) in rw l refl
