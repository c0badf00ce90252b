-- Assembled code is bytes.
use Rattle.std.proofs.Common.{◌≡◌, ℕ, suc, ◌+◌, ◌≤◌, ◌<◌, Bool, true, false, cond, List, [], ◌∷◌, ◌++◌, take, length, Option, Some, None, Result, Ok, Err, refl, ap, arith}
use Rattle.std.specs.Prelude.{⊤, ◌==◌, nat_le, bytes_eq, ok_or, IfOk, ℤ, pos, negsuc}
use Rattle.std.specs.List.{AllByRecursion}
use Rattle.std.specs.Int.{w8, w16, cast_unsigned}
use Rattle.std.proofs.lemmas.Int.{ints}
use Rattle.std.proofs.lemmas.Bool.{leb-true}
use Rattle.model_play.specs.model_text.specs.declared.assembler.AsmCause.{AsmCause}
use Rattle.model_play.specs.model_text.specs.declared.assembler.AsmCause.TheVariants.{UnknownWord, BadOperands, BadNumber, OutOfRange, LabelTwice, TooLong}
use Rattle.model_play.specs.model_machine.specs.declared.instruction.Ins.{Ins}
use Rattle.model_play.specs.model_device.specs.Bytes.{AreBytes, bytes2, zeros, lookup}
use Rattle.model_play.specs.model_text.specs.Text.{◌>>=◌, ok_as, err_as, only_if, first_cut, is_blank, is_empty, trim, pieces}
use Rattle.model_play.specs.model_machine.specs.Code.{spell, target, offset}
use Rattle.model_play.specs.model_text.specs.Listing.{condition_names, register_names}
use Rattle.model_play.specs.model_text.specs.Assembly.{fits_signed, number_operand, byte, word, signed_operand, natural, signed_number, place_among, condition, offset_and_end, register_and_rest, address, both, all_bytes, CodeItem, Nothing, Raw, Plain, ToPlace, ToDistance, WordForm, Bare, OfByte, OfBytes, OfWord, OfWords, RawByte, ByDistance, ByPlace, Primitive, Addressed, AddressedByte, AddressedWord, words, Given, label_or_given, is_label, by_distance, by_place, primitive, item_of_word, operands, word_and_operands, Line, label_and_rest, line_read, size, Placed, Laid, is_new, with_label, line_laid, laid_lines, bytes_of_item, joined_code, assembled_lines}
use Rattle.model_play.specs.model_device.proofs.ImageLemmas.{all_append}
use Rattle.law_family.proofs.CardFacts.{all_take}
use Rattle.model_play.specs.model_device.proofs.ListLemmas.{pair_bytes}

-- ---- results in turn

pub bind_ok : {A B E : Type 0} (r : Result A E) (f : A → Result B E) (P : A → Type 0) (Q : B → Type 0) → IfOk r P → ((a : A) → P a → IfOk (f a) Q) → IfOk (r >>= f) Q
bind_ok (Ok a) f P Q h k = k a h
bind_ok (Err e) f P Q h k = tt

pub as_ok : {A B E : Type 0} (f : A → B) (r : Result A E) (P : A → Type 0) (Q : B → Type 0) → IfOk r P → ((a : A) → P a → Q (f a)) → IfOk (ok_as f r) Q
as_ok f (Ok a) P Q h k = k a h
as_ok f (Err e) P Q h k = tt

pub err_ok : {A E F : Type 0} (f : E → F) (r : Result A E) (P : A → Type 0) → IfOk r P → IfOk (err_as f r) P
err_ok f (Ok a) P h = h
err_ok f (Err e) P h = tt

pub only_ok : {A E : Type 0} (b : Bool) (e : E) (a : A) (P : A → Type 0) → (b ≡ true → P a) → IfOk (only_if b e a) P
only_ok true e a P h = h refl
only_ok false e a P h = tt

pub cond_ok : {A E : Type 0} (b : Bool) (r s : Result A E) (P : A → Type 0) → (b ≡ true → IfOk r P) → (b ≡ false → IfOk s P) → IfOk (cond b r s) P
cond_ok true r s P h k = h refl
cond_ok false r s P h k = k refl

-- any value
pub any_ok : {A E : Type 0} (r : Result A E) → IfOk r (λ a. ⊤)
any_ok (Ok a) = tt
any_ok (Err e) = tt

both_ok : {A B : Type 0} (r : Result A AsmCause) (s : Result B AsmCause) (P : A → Type 0) (Q : B → Type 0) → IfOk r P → IfOk s Q → IfOk (both r s) (λ p. P p.0 × Q p.1)
both_ok r s h h3 h4 k = grind arith

-- ---- operands

number_ok : (high : ℕ) (t : List ℕ) → IfOk (number_operand high t) (λ n. n ≤ high)
number_ok high t = bind_ok (ok_or (natural t) BadNumber) (λ n. only_if (nat_le n high) OutOfRange n) (λ n. ⊤) (λ n. n ≤ high) (any_ok (ok_or (natural t) BadNumber)) (λ n h. only_ok (nat_le n high) OutOfRange n (λ n. n ≤ high) (λ e. leb-true n high e))

signed_ok : (half : ℕ) (t : List ℕ) → IfOk (signed_operand half t) (λ z. fits_signed half z ≡ true)
signed_ok half t =
    bind_ok (ok_or (signed_number t) BadNumber) (λ z. only_if (fits_signed half z) OutOfRange z) (λ z. ⊤) (λ z. fits_signed half z ≡ true) (any_ok (ok_or (signed_number t) BadNumber)) (λ z h. only_ok (fits_signed half z) OutOfRange z (λ z. fits_signed half z ≡ true) (λ e. e))

-- a place in a list of words
SomeMost : ℕ → Option ℕ → Type 0
SomeMost high None = ⊤
SomeMost high (Some n) = n < high

place_most : (n high : ℕ) (ws : List (List ℕ)) (t : List ℕ) → n + length ws ≤ high → SomeMost high (place_among n ws t)
unfolding SomeMost
place_most n high [] t h = tt
place_most n high (w ∷ ws) t h = by (bytes_eq w t) (place_most (suc n) high ws t (omega (arith, h)))
  where
    by : (b : Bool) → SomeMost high (place_among (suc n) ws t) → SomeMost high (cond b (Some n) (place_among (suc n) ws t))
    by true r = omega (arith, h)
    by false r = r

some_ok : {E : Type 0} (high : ℕ) (o : Option ℕ) (e : E) → SomeMost high o → IfOk (ok_or o e) (λ n. n < high)
unfolding SomeMost
some_ok high None e h = tt
some_ok high (Some n) e h = h

condition_ok : (t : List ℕ) → IfOk (condition t) (λ c. c < 8)
condition_ok t = some_ok 8 (place_among 1 condition_names t) BadOperands (place_most 1 8 condition_names t (omega arith))

offset_ok : (o : Option ℕ) (rest : List (List ℕ)) → SomeMost 8 o → IfOk (offset_and_end o rest) (λ a. a.0 < 8)
unfolding SomeMost
offset_ok None rest h = tt
offset_ok (Some tag) [] h = tt
offset_ok (Some tag) (off ∷ []) h = tt
offset_ok (Some tag) (off ∷ [] ∷ []) h = as_ok (λ z. (tag, z)) (signed_operand 32768 off) (λ z. ⊤) (λ a. a.0 < 8) (any_ok (signed_operand 32768 off)) (λ z k. h)
offset_ok (Some tag) (off ∷ [] ∷ x ∷ xs) h = tt
offset_ok (Some tag) (off ∷ (y ∷ ys) ∷ xs) h = tt

address_ok : (parts : List (List ℕ)) → IfOk (register_and_rest parts) (λ a. a.0 < 8)
address_ok [] = tt
address_ok (r ∷ []) = tt
address_ok (r ∷ rest ∷ []) = offset_ok (place_among 1 register_names r) (pieces (λ c. c == 93) rest) (place_most 1 8 register_names r (omega arith))
address_ok (r ∷ rest ∷ x ∷ xs) = tt

all_ok : (ts : List (List ℕ)) → IfOk (all_bytes ts) (λ bs. AreBytes bs × (length bs ≡ length ts))
all_ok [] = (tt, refl)
all_ok (t ∷ ts) =
    as_ok (λ p. p.0 ∷ p.1) (both (byte t) (all_bytes ts)) (λ p. (p.0 ≤ 255) × (AreBytes p.1 × (length p.1 ≡ length ts))) (λ bs. AreBytes bs × (length bs ≡ suc (length ts)))
    (both_ok (byte t) (all_bytes ts) (λ n. n ≤ 255) (λ bs. AreBytes bs × (length bs ≡ length ts)) (number_ok 255 t) (all_ok ts)) (λ p h. let low : p.0 ≤ 255 = h.0 in ((omega arith, (h.1).0), ap suc (h.1).1))

-- ---- spelled instructions

offset_bytes : (tag : ℕ) (off : ℤ) → AreBytes (offset tag off)
offset_bytes tag off = by (tag == 0)
  where
    by : (b : Bool) → AreBytes (cond b [] (bytes2 (cast_unsigned w16 off)))
    by true = tt
    by false = pair_bytes (cast_unsigned w16 off)

target_bytes : (c to : ℕ) → AreBytes (target c to)
target_bytes c to = by (c == 0)
  where
    by : (b : Bool) → AreBytes (cond b [] (bytes2 to))
    by true = tt
    by false = pair_bytes to

near_byte : (d : ℤ) → fits_signed 128 d ≡ true → cast_unsigned w8 d < 256
near_byte (pos n) h = let low : n < 128 = grind (arith, h) in omega (arith, ints)
near_byte (negsuc n) h = let low : n < 128 = grind (arith, h) in omega (arith, ints)

-- what a form makes of operands in their ranges is spelled in bytes
abbrev SpelledInBytes : Ins → Type 0
SpelledInBytes i = AreBytes (spell i)

abbrev GoodForm : WordForm → Type 0
GoodForm (Bare i) = SpelledInBytes i
GoodForm (OfByte f) = (n : ℕ) → n ≤ 255 → SpelledInBytes (f n)
GoodForm (OfBytes f) = (n o : ℕ) → n ≤ 255 → o ≤ 255 → SpelledInBytes (f n o)
GoodForm (OfWord f) = (w : ℕ) → SpelledInBytes (f w)
GoodForm (OfWords f) = (v w : ℕ) → SpelledInBytes (f v w)
GoodForm RawByte = ⊤
GoodForm (ByDistance f) = (c : ℕ) (d : ℤ) → c < 8 → fits_signed 128 d ≡ true → SpelledInBytes (f c d)
GoodForm (ByPlace f) = (c to : ℕ) → c < 8 → SpelledInBytes (f c to)
GoodForm Primitive = ⊤
GoodForm (Addressed f) = (tag : ℕ) (off : ℤ) → tag < 8 → SpelledInBytes (f tag off)
GoodForm (AddressedByte f) = (tag : ℕ) (off : ℤ) (n : ℕ) → tag < 8 → n ≤ 255 → SpelledInBytes (f tag off n)
GoodForm (AddressedWord f) = (tag : ℕ) (off : ℤ) (w : ℕ) → tag < 8 → SpelledInBytes (f tag off w)

two_words : (v w : ℕ) → AreBytes (bytes2 v ++ bytes2 w)
two_words v w = all_append (λ b. b < 256) (bytes2 v) (bytes2 w) (pair_bytes v) (pair_bytes w)

word_offset : (tag : ℕ) (off : ℤ) (w : ℕ) → AreBytes (bytes2 w ++ offset tag off)
word_offset tag off w = all_append (λ b. b < 256) (bytes2 w) (offset tag off) (pair_bytes w) (offset_bytes tag off)

good_words : AllByRecursion {X = List ℕ × WordForm} (λ w. GoodForm w.1) words
good_words = grind (arith, pair_bytes, two_words, near_byte, target_bytes, offset_bytes, word_offset)

-- the form of a word
found_form : (ws : List (List ℕ × WordForm)) (t : List ℕ) → AllByRecursion {X = List ℕ × WordForm} (λ w. GoodForm w.1) ws → IfOk (ok_or (lookup ws t) UnknownWord) GoodForm
found_form [] t h = tt
found_form (w ∷ ws) t h = by (bytes_eq w.0 t) (found_form ws t h.1)
  where
    by : (b : Bool) → IfOk (ok_or (lookup ws t) UnknownWord) GoodForm → IfOk (ok_or (cond b (Some w.1) (lookup ws t)) UnknownWord) GoodForm
    by true r = h.0
    by false r = r

-- ---- lines

-- what a line puts into the code is bytes, whatever the place of its label
abbrev ItemBytes : CodeItem → Type 0
ItemBytes Nothing = ⊤
ItemBytes (Raw b) = b < 256
ItemBytes (Plain i) = SpelledInBytes i
ItemBytes (ToPlace f l) = (p : ℕ) → SpelledInBytes (f p)
ItemBytes (ToDistance f l) = (d : ℤ) → fits_signed 128 d ≡ true → SpelledInBytes (f d)

distance_ok : (f : ℕ → ℤ → Ins) (c : ℕ) (b : Bool) (t : List ℕ) → GoodForm (ByDistance f) → c < 8 → IfOk (label_or_given b t (signed_operand 128 t)) (λ x. ItemBytes (by_distance (f c) x))
distance_ok f c true t g h = λ d k. g c d h k
distance_ok f c false t g h = as_ok Given (signed_operand 128 t) (λ z. fits_signed 128 z ≡ true) (λ x. ItemBytes (by_distance (f c) x)) (signed_ok 128 t) (λ z k. g c z h k)

place_ok : (f : ℕ → ℕ → Ins) (c : ℕ) (b : Bool) (t : List ℕ) → GoodForm (ByPlace f) → c < 8 → IfOk (label_or_given b t (word t)) (λ x. ItemBytes (by_place (f c) x))
place_ok f c true t g h = λ p. g c p h
place_ok f c false t g h = as_ok Given (word t) (λ z. ⊤) (λ x. ItemBytes (by_place (f c) x)) (any_ok (word t)) (λ z k. g c z h)

-- both of a condition and what is made with it
after_ok : {B : Type 0} (r : Result ℕ AsmCause) (s : Result B AsmCause) (f : ℕ → B → CodeItem) → IfOk r (λ c. c < 8) → ((c : ℕ) → c < 8 → IfOk s (λ x. ItemBytes (f c x))) → IfOk (ok_as (λ p. f p.0 p.1) (both r s)) ItemBytes
after_ok r s f h k = grind arith

primitive_bytes : (most : ℕ) (bs : List ℕ) → most ≤ 4 → AreBytes bs → length bs ≡ most → ItemBytes (primitive bs)
primitive_bytes most [] few h e = tt
primitive_bytes most (n ∷ args) few h e =
    let zero-bytes : AreBytes (zeros 3) = (omega arith, (omega arith, (omega arith, tt))) in
    (omega (arith, e, few), (h.0, all_take (λ b. b < 256) (length args) (take 3 (args ++ zeros 3)) (all_take (λ b. b < 256) 3 (args ++ zeros 3) (all_append (λ b. b < 256) args (zeros 3) h.1 zero-bytes))))

worded_ok : (f : WordForm) (ts : List (List ℕ)) → GoodForm f → IfOk (item_of_word f ts) ItemBytes
worded_ok (Bare i) [] g = g
worded_ok (Bare i) (t ∷ ts) g = tt
worded_ok (OfByte f) [] g = tt
worded_ok (OfByte f) (n ∷ []) g = as_ok (λ n. Plain (f n)) (byte n) (λ n. n ≤ 255) ItemBytes (number_ok 255 n) (λ n h. g n h)
worded_ok (OfByte f) (n ∷ x ∷ xs) g = tt
worded_ok (OfBytes f) [] g = tt
worded_ok (OfBytes f) (i ∷ []) g = tt
worded_ok (OfBytes f) (i ∷ o ∷ []) g =
    as_ok (λ p. Plain (f p.0 p.1)) (both (byte i) (byte o)) (λ p. (p.0 ≤ 255) × (p.1 ≤ 255)) ItemBytes (both_ok (byte i) (byte o) (λ n. n ≤ 255) (λ n. n ≤ 255) (number_ok 255 i) (number_ok 255 o)) (λ p h. g p.0 p.1 h.0 h.1)
worded_ok (OfBytes f) (i ∷ o ∷ x ∷ xs) g = tt
worded_ok (OfWord f) [] g = tt
worded_ok (OfWord f) (w ∷ []) g = as_ok (λ w. Plain (f w)) (word w) (λ w. ⊤) ItemBytes (any_ok (word w)) (λ w h. g w)
worded_ok (OfWord f) (w ∷ x ∷ xs) g = tt
worded_ok (OfWords f) [] g = tt
worded_ok (OfWords f) (v ∷ []) g = tt
worded_ok (OfWords f) (v ∷ w ∷ []) g = as_ok (λ p. Plain (f p.0 p.1)) (both (word v) (word w)) (λ p. ⊤) ItemBytes (any_ok (both (word v) (word w))) (λ p h. g p.0 p.1)
worded_ok (OfWords f) (v ∷ w ∷ x ∷ xs) g = tt
worded_ok RawByte [] g = tt
worded_ok RawByte (n ∷ []) g = as_ok Raw (byte n) (λ n. n ≤ 255) ItemBytes (number_ok 255 n) (λ n h. let low : n ≤ 255 = h in omega arith)
worded_ok RawByte (n ∷ x ∷ xs) g = tt
worded_ok (ByDistance f) [] g = tt
worded_ok (ByDistance f) (c ∷ []) g = tt
worded_ok (ByDistance f) (c ∷ t ∷ []) g =
    after_ok (condition c) (label_or_given (is_label t) t (signed_operand 128 t)) (λ c x. by_distance (f c) x) (condition_ok c) (λ c h. distance_ok f c (is_label t) t g h)
worded_ok (ByDistance f) (c ∷ t ∷ x ∷ xs) g = tt
worded_ok (ByPlace f) [] g = g 0 0 (omega arith)
worded_ok (ByPlace f) (c ∷ []) g = tt
worded_ok (ByPlace f) (c ∷ t ∷ []) g = after_ok (condition c) (label_or_given (is_label t) t (word t)) (λ c x. by_place (f c) x) (condition_ok c) (λ c h. place_ok f c (is_label t) t g h)
worded_ok (ByPlace f) (c ∷ t ∷ x ∷ xs) g = tt
worded_ok Primitive [] g = tt
worded_ok Primitive (n ∷ args) g =
    cond_ok (nat_le (length args) 3) (ok_as primitive (all_bytes (n ∷ args))) (Err BadOperands) ItemBytes
    (λ e.
    let few : length args ≤ 3 = leb-true (length args) 3 e in
    as_ok primitive (all_bytes (n ∷ args)) (λ bs. AreBytes bs × (length bs ≡ length (n ∷ args))) ItemBytes (all_ok (n ∷ args)) (λ bs h. primitive_bytes (length (n ∷ args)) bs (omega arith) h.0 h.1)) (λ e. tt)
worded_ok (Addressed f) [] g = g 0 (pos 0) (omega arith)
worded_ok (Addressed f) (a ∷ []) g = as_ok (λ a. Plain (f a.0 a.1)) (address a) (λ a. a.0 < 8) ItemBytes (address_ok (pieces (λ c. c == 91) a)) (λ a h. g a.0 a.1 h)
worded_ok (Addressed f) (a ∷ x ∷ xs) g = tt
worded_ok (AddressedByte f) [] g = tt
worded_ok (AddressedByte f) (n ∷ []) g = as_ok (λ n. Plain (f 0 (pos 0) n)) (byte n) (λ n. n ≤ 255) ItemBytes (number_ok 255 n) (λ n h. g 0 (pos 0) n (omega arith) h)
worded_ok (AddressedByte f) (a ∷ n ∷ []) g =
    as_ok (λ p. Plain (f (p.0).0 (p.0).1 p.1)) (both (address a) (byte n)) (λ p. ((p.0).0 < 8) × (p.1 ≤ 255)) ItemBytes
    (both_ok (address a) (byte n) (λ a. a.0 < 8) (λ n. n ≤ 255) (address_ok (pieces (λ c. c == 91) a)) (number_ok 255 n)) (λ p h. g (p.0).0 (p.0).1 p.1 h.0 h.1)
worded_ok (AddressedByte f) (a ∷ n ∷ x ∷ xs) g = tt
worded_ok (AddressedWord f) [] g = tt
worded_ok (AddressedWord f) (w ∷ []) g = as_ok (λ w. Plain (f 0 (pos 0) w)) (word w) (λ w. ⊤) ItemBytes (any_ok (word w)) (λ w h. g 0 (pos 0) w (omega arith))
worded_ok (AddressedWord f) (a ∷ w ∷ []) g =
    as_ok (λ p. Plain (f (p.0).0 (p.0).1 p.1)) (both (address a) (word w)) (λ p. ((p.0).0 < 8) × ⊤) ItemBytes
    (both_ok (address a) (word w) (λ a. a.0 < 8) (λ n. ⊤) (address_ok (pieces (λ c. c == 91) a)) (any_ok (word w))) (λ p h. g (p.0).0 (p.0).1 p.1 h.0)
worded_ok (AddressedWord f) (a ∷ w ∷ x ∷ xs) g = tt

operands_ok : (s : List ℕ × Option (List ℕ)) → IfOk (word_and_operands s) ItemBytes
operands_ok s =
    cond_ok (is_empty s.0) (Ok Nothing) (ok_or (lookup words s.0) UnknownWord >>= λ form. item_of_word form (operands s.1)) ItemBytes (λ e. tt)
    (λ e. bind_ok (ok_or (lookup words s.0) UnknownWord) (λ form. item_of_word form (operands s.1)) GoodForm ItemBytes (found_form words s.0 good_words) (λ form g. worded_ok form (operands s.1) g))

LineBytes : Line → Type 0
LineBytes l = ItemBytes l.item

label_ok : (t : List ℕ) (o : Option (List ℕ)) → IfOk (label_and_rest t o) LineBytes
unfolding LineBytes
label_ok t None = as_ok (λ i. record { label = None; item = i }) (word_and_operands (first_cut is_blank (trim t))) ItemBytes LineBytes (operands_ok (first_cut is_blank (trim t))) (λ i h. h)
label_ok t (Some rest) =
    cond_ok (is_label (trim t)) (ok_as (λ i. record { label = Some (trim t); item = i }) (word_and_operands (first_cut is_blank (trim rest)))) (Err UnknownWord) LineBytes
    (λ e. as_ok (λ i. record { label = Some (trim t); item = i }) (word_and_operands (first_cut is_blank (trim rest))) ItemBytes LineBytes (operands_ok (first_cut is_blank (trim rest))) (λ i h. h)) (λ e. tt)

read_ok : (l : List ℕ) → IfOk (line_read l) LineBytes
unfolding line_read
read_ok l =
    let text = (first_cut (λ c. c == 59) l).0 in
    label_ok (first_cut (λ c. c == 58) text).0 (first_cut (λ c. c == 58) text).1

laid_ok : (labels : List (List ℕ × ℕ)) (place : ℕ) (text : List ℕ) → IfOk (line_laid labels place text) LineBytes
unfolding line_laid
laid_ok labels place text =
    bind_ok (line_read text) (λ l. only_if (is_new labels l.label) LabelTwice l >>= λ l. only_if (nat_le (place + size l.item) 8192) TooLong l) LineBytes LineBytes (read_ok text)
    (λ l h. bind_ok (only_if (is_new labels l.label) LabelTwice l) (λ l. only_if (nat_le (place + size l.item) 8192) TooLong l) LineBytes LineBytes (only_ok (is_new labels l.label) LabelTwice l LineBytes (λ e. h)) (λ k g. only_ok (nat_le (place + size k.item) 8192) TooLong k LineBytes (λ e. g)))

abbrev PlacedBytes : List Placed → Type 0
PlacedBytes ps = AllByRecursion (λ p. ItemBytes p.item) ps

LaidBytes : Laid → Type 0
LaidBytes l = PlacedBytes l.placed

lines_ok : (labels : List (List ℕ × ℕ)) (place : ℕ) (ts : List (ℕ × List ℕ)) → IfOk (laid_lines labels place ts) LaidBytes
unfolding laid_lines LaidBytes LineBytes
lines_ok labels place [] = tt
lines_ok labels place (t ∷ ts) =
    bind_ok (err_as (λ c. (t.0, c)) (line_laid labels place t.1))
    (λ l. laid_lines (with_label labels l.label place) (place + size l.item) ts >>= λ rest. Ok (record rest { placed = record { number = t.0; place = place; item = l.item } ∷ rest.placed })) LineBytes LaidBytes
    (err_ok (λ c. (t.0, c)) (line_laid labels place t.1) LineBytes (laid_ok labels place t.1))
    (λ l h. bind_ok (laid_lines (with_label labels l.label place) (place + size l.item) ts) (λ rest. Ok (record rest { placed = record { number = t.0; place = place; item = l.item } ∷ rest.placed })) LaidBytes LaidBytes
    (lines_ok (with_label labels l.label place) (place + size l.item) ts) (λ rest k. (h, k)))

emitted_ok : (labels : List (List ℕ × ℕ)) (place : ℕ) (i : CodeItem) → ItemBytes i → IfOk (bytes_of_item labels place i) AreBytes
emitted_ok labels place i h = grind (arith, as_ok, any_ok, bind_ok, only_ok)

joined_ok : (labels : List (List ℕ × ℕ)) (ps : List Placed) → PlacedBytes ps → IfOk (joined_code labels ps) AreBytes
unfolding joined_code
joined_ok labels [] h = tt
joined_ok labels (p ∷ ps) h =
    bind_ok (err_as (λ c. (p.number, c)) (bytes_of_item labels p.place p.item)) (λ bytes. ok_as (λ rest. bytes ++ rest) (joined_code labels ps)) AreBytes AreBytes
    (err_ok (λ c. (p.number, c)) (bytes_of_item labels p.place p.item) AreBytes (emitted_ok labels p.place p.item h.0))
    (λ bytes k. as_ok (λ rest. bytes ++ rest) (joined_code labels ps) AreBytes AreBytes (joined_ok labels ps h.1) (λ rest r. all_append (λ b. b < 256) bytes rest k r))

-- assembled lines are bytes
pub assembled_ok : (ls : List (ℕ × List ℕ)) → IfOk (assembled_lines ls) AreBytes
unfolding assembled_lines LaidBytes
assembled_ok ls = bind_ok (laid_lines [] 0 ls) (λ laid. joined_code laid.labels laid.placed) LaidBytes AreBytes (lines_ok [] 0 ls) (λ laid h. joined_ok laid.labels laid.placed h)
