-- Reading back operands as a listing writes them.
use Rattle.std.proofs.Common.{◌≡◌, ℕ, zero, suc, ◌+◌, ◌*◌, ◌-◌, ◌/◌, ◌%◌, ◌^◌, ◌<◌, ◌≤◌, Bool, true, false, List, [], ◌∷◌, ◌++◌, length, map, Some, Ok, arith, refl, ap, append_assoc, ◌∙◌}
use Rattle.std.specs.Prelude.{ℤ, pos, negsuc, FitsSigned, ◌==◌, not, nat_le, nat_lt, bytes_eq, codes, decimal, take}
use Rattle.std.specs.Int.{w8, w16}
use Rattle.std.specs.Fmt.{signed_decimal}
use Rattle.std.proofs.lemmas.Fmt.{decimal_by_steps}
use Rattle.std.proofs.lemmas.Int.{ints}
use Rattle.model_text.specs.Text.{every, is_digit, is_empty, digits_onto, decimal_number, hex_value, begins, is_within}
use Rattle.model_text.specs.Listing.{hex_digit, hex_word, condition_name, register_name, register_names, address_text}
use Rattle.model_text.specs.Assembly.{natural, fits_signed, byte, word, signed_operand, condition, address, is_label, place_among}
use Rattle.mc_asm.proofs.CleanLemmas.{Solid, solid, every_as, pieces_none, pieces_there}
use Rattle.model_text.specs.model_device.proofs.BoolLemmas.{and_false, and_first, and_second}
use Rattle.model_text.proofs.TextLemmas.{every_append}

-- ---- decimal digits

-- at least one digit, which together spell the number n
pub record Numeral (n : ℕ) (ds : List ℕ) : Type 0 where
  pub some : is_empty ds ≡ false
  pub digits : every is_digit ds ≡ true
  pub value : digits_onto 10 0 (map (λ c. c - 48) ds) ≡ n

digit_is : (n : ℕ) → n < 10 → is_digit (48 + n) ≡ true
digit_is n h = grind (arith, h)

digit_value : (n : ℕ) → (48 + n) - 48 ≡ n
digit_value n = omega arith

one_digit : (n : ℕ) → n < 10 → Numeral n ((48 + n) ∷ [])
one_digit n h = record { some = refl; digits = rw (digit_is n h) refl; value = rw (digit_value n) (omega arith) }

behind_is : (base m : ℕ) (ds : List ℕ) (d : ℕ) → digits_onto base m (map (λ c. c - 48) (ds ++ d ∷ [])) ≡ digits_onto base m (map (λ c. c - 48) ds) * base + (d - 48)
behind_is base m [] d = refl
behind_is base m (c ∷ ds) d = behind_is base (m * base + (c - 48)) ds d

some_behind : (ds : List ℕ) (d : ℕ) → is_empty (ds ++ d ∷ []) ≡ false
some_behind [] d = refl
some_behind (c ∷ ds) d = refl

more_digits : (n : ℕ) (ds : List ℕ) → 10 ≤ n → Numeral (n / 10) ds → Numeral n (ds ++ ((48 + n % 10) ∷ []))
more_digits n ds h k = record {
  some = some_behind ds (48 + n % 10);
  digits = every_append is_digit ds ((48 + n % 10) ∷ []) k.digits (rw (digit_is (n % 10) (omega arith)) refl);
  value = behind_is 10 0 ds (48 + n % 10) ∙ rw (k.value, digit_value (n % 10)) (omega arith);
}

pub decimal_is : (n : ℕ) → n < 2 ^ 64 → Numeral n (decimal n)
decimal_is n h = decimal_by_steps Numeral one_digit more_digits n h

number_of : (n : ℕ) (ds : List ℕ) → Numeral n ds → decimal_number ds ≡ Some n
number_of n ds k = rw (k.some, k.digits, k.value) refl

no_x : (c : ℕ) → is_digit c ≡ true → (c == 120) ≡ false
no_x c h = grind (arith, h)

no_sign : (c : ℕ) → is_digit c ≡ true → (c == 45) ≡ false
no_sign c h = grind (arith, h)

digit_solid : (c : ℕ) → is_digit c ≡ true → solid c ≡ true
digit_solid c h = grind (arith, h)

decimal_no_hex : (ds : List ℕ) → every is_digit ds ≡ true → bytes_eq (take 2 ds) (codes "0x") ≡ false
decimal_no_hex ds h = grind (arith, and_false, and_first, and_second, no_x)

natural_of : (n : ℕ) (ds : List ℕ) → Numeral n ds → natural ds ≡ Some n
natural_of n ds k = rw (decimal_no_hex ds k.digits) (number_of n ds k)

pub numeral_solid : (n : ℕ) (ds : List ℕ) → Numeral n ds → Solid ds
numeral_solid n ds k = record { some = k.some; all = every_as is_digit solid ds digit_solid k.digits }

wide : (n m : ℕ) → n < m → m ≤ 65536 → n < 2 ^ 64
wide n m h k = omega (arith, h, k)

low : (n m : ℕ) → n ≤ m → nat_le n m ≡ true
low n m h = grind (arith, h)

-- a byte in decimal is read back
pub byte_read : (n : ℕ) → n < 256 → byte (decimal n) ≡ Ok n
byte_read n h =
    rw (natural_of n (decimal n) (decimal_is n (wide n 256 h (omega arith))), low n 255 (omega (arith, h))) refl

pub byte_solid : (n : ℕ) → n < 256 → Solid (decimal n)
byte_solid n h = numeral_solid n (decimal n) (decimal_is n (wide n 256 h (omega arith)))

-- ---- words

digit_read : (d : ℕ) → d < 16 → hex_value (hex_digit d) ≡ Some d
digit_read d h = grind arith

hex_solid : (d : ℕ) → d < 16 → solid (hex_digit d) ≡ true
hex_solid d h = grind (arith, h)

hex_four : (w : ℕ) → w < 65536 → digits_onto 16 0 (w / 4096 % 16 ∷ w / 256 % 16 ∷ w / 16 % 16 ∷ w % 16 ∷ []) ≡ w
hex_four w h = omega (arith, h)

below_16 : (n : ℕ) → n % 16 < 16
below_16 n = omega arith

hex_natural : (w : ℕ) → w < 65536 → natural (hex_word w) ≡ Some w
hex_natural w h =
    rw (digit_read (w / 4096 % 16) (below_16 (w / 4096)), digit_read (w / 256 % 16) (below_16 (w / 256)), digit_read (w / 16 % 16) (below_16 (w / 16)), digit_read (w % 16) (below_16 w)) (ap Some (hex_four w h))

-- a word in hexadecimal is read back
pub word_read : (w : ℕ) → w < 65536 → word (hex_word w) ≡ Ok w
word_read w h = rw (hex_natural w h, low w 65535 (omega (arith, h))) refl

pub word_solid : (w : ℕ) → Solid (hex_word w)
word_solid w = record {
  some = refl;
  all = rw (hex_solid (w / 4096 % 16) (below_16 (w / 4096)), hex_solid (w / 256 % 16) (below_16 (w / 256)), hex_solid (w / 16 % 16) (below_16 (w / 16)), hex_solid (w % 16) (below_16 w)) refl;
}

-- ---- signed numbers

-- a signed number z from -half to half - 1, and its text
pub record Half (half : ℕ) (z : ℤ) : Type 0 where
  pub bound : half ≤ 32768
  pub fits : fits_signed half z ≡ true

below : (n m : ℕ) → nat_lt n m ≡ true → n < m
below n m h = grind (arith, h)

begins_digit : (n : ℕ) (ds : List ℕ) → Numeral n ds → begins 45 ds ≡ false
begins_digit n [] k = refl
begins_digit n (c ∷ ds) k = no_sign c (and_first (is_digit c) (every is_digit ds) k.digits)

pub signed_read : (half : ℕ) (z : ℤ) → Half half z → signed_operand half (signed_decimal z) ≡ Ok z
signed_read half z k = grind (arith, decimal_is, wide, below, begins_digit, natural_of, number_of)

pub signed_solid : (half : ℕ) (z : ℤ) → Half half z → Solid (signed_decimal z)
signed_solid half (pos n) k = numeral_solid n (decimal n) (decimal_is n (wide n half (below n half k.fits) (omega (arith, k.bound))))
signed_solid half (negsuc n) k =
    let d = decimal_is (suc n) (wide (suc n) (suc half) (omega (arith, below n half k.fits)) (omega (arith, k.bound))) in
    record { some = refl; all = every_as is_digit solid (decimal (suc n)) digit_solid d.digits }

label_not : (n : ℕ) (ds : List ℕ) → Numeral n ds → is_label ds ≡ false
label_not n [] k = refl
label_not n (c ∷ ds) k = rw (and_first (is_digit c) (every is_digit ds) k.digits) refl

sign_no_label : (ds : List ℕ) → is_label (45 ∷ ds) ≡ false
sign_no_label ds = and_false (is_within 1 32 (length (45 ∷ ds)))

pub signed_no_label : (half : ℕ) (z : ℤ) → Half half z → is_label (signed_decimal z) ≡ false
signed_no_label half (pos n) k = label_not n (decimal n) (decimal_is n (wide n half (below n half k.fits) (omega (arith, k.bound))))
signed_no_label half (negsuc n) k = sign_no_label (decimal (suc n))

fits_16 : (z : ℤ) → FitsSigned w16 z → fits_signed 32768 z ≡ true
fits_16 (pos n) h = grind (arith, ints, h)
fits_16 (negsuc n) h = grind (arith, ints, h)

fits_8 : (z : ℤ) → FitsSigned w8 z → fits_signed 128 z ≡ true
fits_8 (pos n) h = grind (arith, ints, h)
fits_8 (negsuc n) h = grind (arith, ints, h)

pub half_16 : (z : ℤ) → FitsSigned w16 z → Half 32768 z
half_16 z h = record { bound = omega arith; fits = fits_16 z h }

pub half_8 : (z : ℤ) → FitsSigned w8 z → Half 128 z
half_8 z h = record { bound = omega arith; fits = fits_8 z h }

-- ---- conditions and addresses

signed_every : (p : ℕ → Bool) (half : ℕ) (z : ℤ) → ((c : ℕ) → is_digit c ≡ true → p c ≡ true) → p 45 ≡ true → Half half z → every p (signed_decimal z) ≡ true
signed_every p half (pos n) h s k =
    let d = decimal_is n (wide n half (below n half k.fits) (omega (arith, k.bound))) in
    every_as is_digit p (decimal n) h d.digits
signed_every p half (negsuc n) h s k =
    let d = decimal_is (suc n) (wide (suc n) (suc half) (omega (arith, below n half k.fits)) (omega (arith, k.bound))) in
    rw s (every_as is_digit p (decimal (suc n)) h d.digits)

no_open : (c : ℕ) → is_digit c ≡ true → not (c == 91) ≡ true
no_open c h = grind (arith, h)

no_close : (c : ℕ) → is_digit c ≡ true → not (c == 93) ≡ true
no_close c h = grind (arith, h)

-- a condition is read back from its name
pub condition_read : (c : ℕ) → 0 < c → c < 8 → condition (condition_name c) ≡ Ok c
condition_read c l h = grind arith

-- the facts of a register's name
record Register (tag : ℕ) (name : List ℕ) : Type 0 where
  some : is_empty name ≡ false
  all : every solid name ≡ true
  no_bracket : every (λ c. not (c == 91)) name ≡ true
  found : place_among 1 register_names name ≡ Some tag

register_is : (tag : ℕ) → 0 < tag → tag < 8 → Register tag (register_name tag)
register_is zero l h = absurd (omega (arith, l))
register_is (suc zero) l h = record { some = refl; all = refl; no_bracket = refl; found = refl }
register_is (suc (suc zero)) l h = record { some = refl; all = refl; no_bracket = refl; found = refl }
register_is (suc (suc (suc zero))) l h = record { some = refl; all = refl; no_bracket = refl; found = refl }
register_is (suc (suc (suc (suc zero)))) l h = record { some = refl; all = refl; no_bracket = refl; found = refl }
register_is (suc (suc (suc (suc (suc zero))))) l h = record { some = refl; all = refl; no_bracket = refl; found = refl }
register_is (suc (suc (suc (suc (suc (suc zero)))))) l h = record { some = refl; all = refl; no_bracket = refl; found = refl }
register_is (suc (suc (suc (suc (suc (suc (suc zero))))))) l h = record { some = refl; all = refl; no_bracket = refl; found = refl }
register_is (suc (suc (suc (suc (suc (suc (suc (suc c)))))))) l h = absurd (omega (arith, h))

pub condition_solid : (c : ℕ) → 0 < c → c < 8 → Solid (condition_name c)
condition_solid zero l h = absurd (omega (arith, l))
condition_solid (suc zero) l h = record { some = refl; all = refl }
condition_solid (suc (suc zero)) l h = record { some = refl; all = refl }
condition_solid (suc (suc (suc zero))) l h = record { some = refl; all = refl }
condition_solid (suc (suc (suc (suc zero)))) l h = record { some = refl; all = refl }
condition_solid (suc (suc (suc (suc (suc zero))))) l h = record { some = refl; all = refl }
condition_solid (suc (suc (suc (suc (suc (suc zero)))))) l h = record { some = refl; all = refl }
condition_solid (suc (suc (suc (suc (suc (suc (suc zero))))))) l h = record { some = refl; all = refl }
condition_solid (suc (suc (suc (suc (suc (suc (suc (suc c)))))))) l h = absurd (omega (arith, h))

address_is : (tag : ℕ) (off : ℤ) → address_text tag off ≡ register_name tag ++ (91 ∷ (signed_decimal off ++ 93 ∷ []))
address_is tag off =
    append_assoc (register_name tag ++ codes "[") (signed_decimal off) (codes "]") ∙ append_assoc (register_name tag) (codes "[") (signed_decimal off ++ codes "]")

-- an address with its register and its offset is read back
pub address_read : (tag : ℕ) (off : ℤ) → 0 < tag → tag < 8 → FitsSigned w16 off → address (address_text tag off) ≡ Ok (tag, off)
address_read tag off l h f =
    let r = register_is tag l h in
    let k = half_16 off f in
    let text = signed_decimal off ++ 93 ∷ [] in
    let one = pieces_there (λ c. c == 91) (register_name tag) 91 text r.no_bracket refl in
    let two = pieces_none (λ c. c == 91) text (every_append (λ c. not (c == 91)) (signed_decimal off) (93 ∷ []) (signed_every (λ c. not (c == 91)) 32768 off no_open refl k) refl) in
    let three = pieces_there (λ c. c == 93) (signed_decimal off) 93 [] (signed_every (λ c. not (c == 93)) 32768 off no_close refl k) refl in
    rw (address_is tag off, one, two, r.found, three, signed_read 32768 off k) refl

pub address_solid : (tag : ℕ) (off : ℤ) → 0 < tag → tag < 8 → FitsSigned w16 off → Solid (address_text tag off)
address_solid tag off l h f =
    grind (arith, register_is tag l h, signed_solid 32768 off (half_16 off f), every_append solid (register_name tag) (91 ∷ (signed_decimal off ++ 93 ∷ [])) (register_is tag l h).all (every_append solid (signed_decimal off) (93 ∷ []) (signed_solid 32768 off (half_16 off f)).all refl))
