-- Operands that the assembler accepts stay as they are where no name is declared.
use Rattle.std.proofs.Common.{◌≡◌, ℕ, Bool, true, false, cond, List, [], ◌∷◌, ◌++◌, append-nil, length, take, drop, Option, Some, None, Ok, Err, refl, sym, ap, subst, ◌∙◌, append_assoc, arith}
use Rattle.std.specs.Prelude.{◌==◌, ◌&&◌, bytes_eq, codes, nat_le, not, ok_or, ⊤}
use Rattle.std.proofs.lemmas.Bool.{not-true}
use Rattle.mc_text.specs.model_device.specs.Bytes.{lookup}
use Rattle.mc_text.specs.model_device.proofs.BoolLemmas.{and_false, and_first, and_second}
use Rattle.mc_text.specs.model_device.proofs.MapLemmas.{same_name}
use Rattle.mc_text.specs.model_text.specs.declared.assembler.AsmCause.TheVariants.{BadNumber, BadOperands, OutOfRange}
use Rattle.mc_text.specs.model_text.specs.Text.{decimal_number, every, first_cut, halves_with_character, is_digit, is_empty, ok_as, only_if, pieces}
use Rattle.mc_text.specs.model_text.specs.Listing.{register_names}
use Rattle.mc_text.specs.model_text.specs.Assembly.{Addressed, AddressedByte, AddressedWord, Bare, ByDistance, ByPlace, OfByte, OfBytes, OfWord, OfWords, Primitive, RawByte, WordForm, address, all_bytes, both, byte, hex_number, item_of_word, natural, number_operand, offset_and_end, place_among, primitive, register_and_rest, word}
use Rattle.mc_text.specs.model_text.proofs.TextLemmas.{every_append}
use Rattle.desk_draft.specs.Declarations.{header_names}
use Rattle.desk_draft.specs.Operands.{named_text, operand_by_parts, operand_text, plain_operand, shifted_text, size_text}
use Rattle.desk_laws.proofs.Results.{Fine, among, fine_as, fine_both, fine_ok, fine_or, fine_then, unknown}
use Rattle.desk_laws.proofs.SelfLines.{pieces_joined, rejoined}

-- ---- an operand that begins as no name does

-- an operand that stays as it is
abbrev pub Stays : List ℕ → Type 0
Stays t = (sized : Bool) → operand_text header_names sized t ≡ Ok t

same_cond : (b : Bool) (t : List ℕ) → cond b t t ≡ t
same_cond true t = refl
same_cond false t = refl

plain_stays : (sized : Bool) (t : List ℕ) (q : List ℕ × Option (List ℕ)) → lookup header_names t ≡ None → lookup header_names q.0 ≡ None → plain_operand header_names sized t q ≡ t
plain_stays sized t (name, None) a b = ap (named_text sized t) a
plain_stays sized t (name, Some part) a b = ap (λ m. cond (bytes_eq part (codes "size")) (size_text t m) t) b ∙ same_cond (bytes_eq part (codes "size")) t

parts_stay : (sized : Bool) (t : List ℕ) (p : List ℕ × Option (List ℕ)) → lookup header_names p.0 ≡ None → plain_operand header_names sized t (first_cut (λ c. c == 46) t) ≡ t → operand_by_parts header_names sized t p ≡ Ok t
parts_stay sized t (name, None) b e = ap Ok e
parts_stay sized t (name, Some k) b e = ap (λ m. shifted_text sized t m (decimal_number k)) b

cut_head : (f : ℕ → Bool) (h s : List ℕ) → every (λ c. not (f c)) h ≡ true → first_cut f (h ++ s) ≡ (h ++ (first_cut f s).0, (first_cut f s).1)
cut_head f [] s e = refl
cut_head f (c ∷ h) s e =
    let n : f c ≡ false = not-true (f c) (and_first (not (f c)) (every (λ c. not (f c)) h) e) in
    ap (λ b. halves_with_character b c (h ++ s) (first_cut f (h ++ s))) n ∙ ap (λ (p : List ℕ × Option (List ℕ)). (c ∷ p.0, p.1)) (cut_head f h s (and_second (not (f c)) (every (λ c. not (f c)) h) e))

-- an operand whose head has no `+` and no `.`, and begins no name
head_stays : (h s : List ℕ) → every (λ c. not (c == 43)) h ≡ true → every (λ c. not (c == 46)) h ≡ true → ((x : List ℕ) → lookup header_names (h ++ x) ≡ None) → Stays (h ++ s)
head_stays h s p q f sized = grind (arith, cut_head, parts_stay, plain_stays)

-- ---- numbers

-- whether a text begins with a digit
abbrev begins_digit : List ℕ → Bool
begins_digit [] = false
begins_digit (c ∷ t) = is_digit c

-- an empty operand stays
pub empty_stays : Stays []
empty_stays sized = refl

digit_stays : (t : List ℕ) → begins_digit t ≡ true → Stays t
digit_stays [] e = absurd (cc e)
digit_stays (c ∷ t) e =
    let p : every (λ c. not (c == 43)) (c ∷ []) ≡ true = grind (arith, e) in
    let q : every (λ c. not (c == 46)) (c ∷ []) ≡ true = grind (arith, e) in
    head_stays (c ∷ []) t p q (λ x. unknown (λ n. not (begins_digit n)) header_names (c ∷ x) refl (ap not e))

decimal_by : (b : Bool) (t : List ℕ) (n m : ℕ) → (not (is_empty t) && every is_digit t) ≡ b → cond b (Some m) None ≡ Some n → begins_digit t ≡ true
decimal_by b t n m e h = grind (arith, and_first)

hex_digit : (t : List ℕ) → take 2 t ≡ codes "0x" → begins_digit t ≡ true
hex_digit [] h = absurd (cc h)
hex_digit (c ∷ t) h = let e : c ≡ 48 = cc h in ap is_digit e

natural_by : (b : Bool) (t : List ℕ) (n : ℕ) (o : Option ℕ) → bytes_eq (take 2 t) (codes "0x") ≡ b → cond b o (decimal_number t) ≡ Some n → begins_digit t ≡ true
natural_by true t n o e h = hex_digit t (same_name (take 2 t) (codes "0x") e)
natural_by false t n o e h = decimal_by (not (is_empty t) && every is_digit t) t n _ refl h

natural_digit : (t : List ℕ) (n : ℕ) → natural t ≡ Some n → begins_digit t ≡ true
natural_digit t n h = natural_by (bytes_eq (take 2 t) (codes "0x")) t n (hex_number (drop 2 t)) refl h

number_stays : (high : ℕ) (t : List ℕ) → Fine (number_operand high t) → Stays t
number_stays high t h =
    let a = fine_then (ok_or (natural t) BadNumber) (λ n. only_if (nat_le n high) OutOfRange n) h in
    let b = fine_or (natural t) BadNumber (fine_ok (ok_or (natural t) BadNumber) a.0 a.1) in
    digit_stays t (natural_digit t b.0 b.1)

-- an operand that is a byte stays
pub byte_stays : (t : List ℕ) → Fine (byte t) → Stays t
byte_stays t h = number_stays 255 t h

-- an operand that is a word stays
pub word_stays : (t : List ℕ) → Fine (word t) → Stays t
word_stays t h = number_stays 65535 t h

-- ---- addresses

bracket_there : (r x : List ℕ) → every (λ c. not (c == 91)) ((r ++ 91 ∷ []) ++ x) ≡ false
bracket_there [] x = refl
bracket_there (c ∷ r) x = ap (λ b. not (c == 91) && b) (bracket_there r x) ∙ and_false (not (c == 91))

-- a text with no `+` and no `.`
abbrev no_mark : List ℕ → Bool
no_mark t = every (λ c. not (c == 43)) t && every (λ c. not (c == 46)) t

register_stays : (r s : List ℕ) → no_mark r ≡ true → Stays (r ++ 91 ∷ s)
register_stays r s h =
    let p = every_append (λ c. not (c == 43)) r (91 ∷ []) (and_first (every (λ c. not (c == 43)) r) (every (λ c. not (c == 46)) r) h) refl in
    let q = every_append (λ c. not (c == 46)) r (91 ∷ []) (and_second (every (λ c. not (c == 43)) r) (every (λ c. not (c == 46)) r) h) refl in
    subst Stays (append_assoc r (91 ∷ []) s) (head_stays (r ++ 91 ∷ []) s p q (λ x. unknown (λ n. every (λ c. not (c == 91)) n) header_names ((r ++ 91 ∷ []) ++ x) refl (bracket_there r x)))

offset_some : (o : Option ℕ) (ps : List (List ℕ)) → Fine (offset_and_end o ps) → (k : ℕ) × (o ≡ Some k)
offset_some None ps h = absurd h
offset_some (Some k) ps h = (k, refl)

address_parts : (ps : List (List ℕ)) → Fine (register_and_rest ps) → (r : List ℕ) × (s : List ℕ) × (ps ≡ r ∷ s ∷ []) × (no_mark r ≡ true)
address_parts [] h = absurd h
address_parts (r ∷ []) h = absurd h
address_parts (r ∷ s ∷ []) h =
    let k = offset_some (place_among 1 register_names r) (pieces (λ c. c == 93) s) h in
    (r, s, refl, among no_mark 1 register_names r k.0 refl k.1)
address_parts (r ∷ s ∷ t ∷ ps) h = absurd h

-- an operand that is an address stays
pub address_stays : (t : List ℕ) → Fine (address t) → Stays t
address_stays t h =
    let a = address_parts (pieces (λ c. c == 91) t) h in
    let e : a.0 ++ 91 ∷ a.1 ≡ t = ap (λ x. a.0 ++ 91 ∷ x) (sym (append-nil a.1)) ∙ ap (rejoined 91) (sym a.2) ∙ pieces_joined 91 t in
    subst Stays e (register_stays a.0 a.1 a.3)

-- ---- the operands of a word

-- each operand stays
abbrev pub AllStay : List (List ℕ) → Type 0
AllStay [] = ⊤
AllStay (t ∷ ts) = Stays t × AllStay ts

bytes_stay : (ts : List (List ℕ)) → Fine (all_bytes ts) → AllStay ts
bytes_stay [] h = tt
bytes_stay (t ∷ ts) h =
    let b = fine_both (byte t) (all_bytes ts) (fine_as (λ p. p.0 ∷ p.1) (both (byte t) (all_bytes ts)) h) in
    (byte_stays t b.0, bytes_stay ts b.1)

-- whether the operands of a word may be conditions and labels
abbrev pub is_jump : WordForm → Bool
is_jump (ByDistance f) = true
is_jump (ByPlace f) = true
is_jump f = false

address_byte : (a n : List ℕ) → Fine (both (address a) (byte n)) → AllStay (a ∷ n ∷ [])
address_byte a n h = let b = fine_both (address a) (byte n) h in (address_stays a b.0, (byte_stays n b.1, tt))

address_word : (a w : List ℕ) → Fine (both (address a) (word w)) → AllStay (a ∷ w ∷ [])
address_word a w h = let b = fine_both (address a) (word w) h in (address_stays a b.0, (word_stays w b.1, tt))

primitive_by : (b : Bool) (ts : List (List ℕ)) → Fine (cond b (ok_as primitive (all_bytes ts)) (Err BadOperands)) → AllStay ts
primitive_by true ts h = bytes_stay ts (fine_as primitive (all_bytes ts) h)
primitive_by false ts h = absurd h

-- the operands that a word takes stay, unless they may be conditions and labels
pub item_stays : (f : WordForm) (ts : List (List ℕ)) → is_jump f ≡ false → Fine (item_of_word f ts) → AllStay ts
item_stays (Bare i) [] e h = tt
item_stays (Bare i) (a ∷ ts) e h = absurd h
item_stays (OfByte f) [] e h = absurd h
item_stays (OfByte f) (a ∷ []) e h = (byte_stays a (fine_as _ (byte a) h), tt)
item_stays (OfByte f) (a ∷ b ∷ ts) e h = absurd h
item_stays (OfBytes f) [] e h = absurd h
item_stays (OfBytes f) (a ∷ []) e h = absurd h
item_stays (OfBytes f) (a ∷ b ∷ []) e h = let p = fine_both (byte a) (byte b) (fine_as _ (both (byte a) (byte b)) h) in (byte_stays a p.0, (byte_stays b p.1, tt))
item_stays (OfBytes f) (a ∷ b ∷ c ∷ ts) e h = absurd h
item_stays (OfWord f) [] e h = absurd h
item_stays (OfWord f) (a ∷ []) e h = (word_stays a (fine_as _ (word a) h), tt)
item_stays (OfWord f) (a ∷ b ∷ ts) e h = absurd h
item_stays (OfWords f) [] e h = absurd h
item_stays (OfWords f) (a ∷ []) e h = absurd h
item_stays (OfWords f) (a ∷ b ∷ []) e h = let p = fine_both (word a) (word b) (fine_as _ (both (word a) (word b)) h) in (word_stays a p.0, (word_stays b p.1, tt))
item_stays (OfWords f) (a ∷ b ∷ c ∷ ts) e h = absurd h
item_stays RawByte [] e h = absurd h
item_stays RawByte (a ∷ []) e h = (byte_stays a (fine_as _ (byte a) h), tt)
item_stays RawByte (a ∷ b ∷ ts) e h = absurd h
item_stays (ByDistance f) ts e h = absurd (cc e)
item_stays (ByPlace f) ts e h = absurd (cc e)
item_stays Primitive [] e h = absurd h
item_stays Primitive (a ∷ ts) e h = primitive_by (nat_le (length ts) 3) (a ∷ ts) h
item_stays (Addressed f) [] e h = tt
item_stays (Addressed f) (a ∷ []) e h = (address_stays a (fine_as _ (address a) h), tt)
item_stays (Addressed f) (a ∷ b ∷ ts) e h = absurd h
item_stays (AddressedByte f) [] e h = absurd h
item_stays (AddressedByte f) (a ∷ []) e h = (byte_stays a (fine_as _ (byte a) h), tt)
item_stays (AddressedByte f) (a ∷ b ∷ []) e h = address_byte a b (fine_as _ (both (address a) (byte b)) h)
item_stays (AddressedByte f) (a ∷ b ∷ c ∷ ts) e h = absurd h
item_stays (AddressedWord f) [] e h = absurd h
item_stays (AddressedWord f) (a ∷ []) e h = (word_stays a (fine_as _ (word a) h), tt)
item_stays (AddressedWord f) (a ∷ b ∷ []) e h = address_word a b (fine_as _ (both (address a) (word b)) h)
item_stays (AddressedWord f) (a ∷ b ∷ c ∷ ts) e h = absurd h
