-- The number of bytes of a line's code is its size, whatever places the labels have.
use Rattle.std.proofs.Common.{◌≡◌, ℕ, suc, ◌+◌, Bool, true, false, cond, List, [], ◌∷◌, length, Option, Some, None, Result, Ok, Err, refl, sym, ap, subst, ◌∙◌}
use Rattle.std.specs.Prelude.{ℤ, pos, ◌-ℤ◌, bytes_eq, ok_or, nat_le, ⊤, ◌==◌}
use Rattle.std.specs.List.{AllByRecursion}
use Rattle.mc_text.specs.model_device.specs.Bytes.{lookup, bytes2}
use Rattle.mc_text.specs.model_text.specs.Text.{◌>>=◌, ok_as, only_if, first_cut, is_blank, is_empty, trim}
use Rattle.mc_text.specs.model_machine.specs.Code.{spell}
use Rattle.mc_text.specs.model_machine.specs.declared.instruction.Ins.{Ins}
use Rattle.mc_text.specs.model_text.specs.declared.assembler.AsmCause.{AsmCause}
use Rattle.mc_text.specs.model_text.specs.declared.assembler.AsmCause.TheVariants.{BadOperands, UnknownLabel, UnknownWord, FarBranch}
use Rattle.mc_text.specs.model_text.specs.Assembly.{CodeItem, Nothing, Raw, Plain, ToPlace, ToDistance, WordForm, Bare, OfByte, OfBytes, OfWord, OfWords, RawByte, ByDistance, ByPlace, Primitive, Addressed, AddressedByte, AddressedWord, Target, Label, Given, Line, words, byte, word, both, address, all_bytes, condition, signed_operand, is_label, label_or_given, by_distance, by_place, primitive, item_of_word, operands, word_and_operands, label_and_rest, line_read, bytes_of_item, size, fits_signed}

-- an item whose number of bytes does not depend on the place of its label
abbrev GoodItem : CodeItem → Type 0
GoodItem Nothing = ⊤
GoodItem (Raw b) = ⊤
GoodItem (Plain i) = ⊤
GoodItem (ToPlace f l) = (p : ℕ) → length (spell (f p)) ≡ length (spell (f 0))
GoodItem (ToDistance f l) = (d : ℤ) → length (spell (f d)) ≡ length (spell (f (pos 0)))

abbrev GoodForm : WordForm → Type 0
GoodForm (ByDistance f) = (c : ℕ) (d e : ℤ) → length (spell (f c d)) ≡ length (spell (f c e))
GoodForm (ByPlace f) = (c p q : ℕ) → length (spell (f c p)) ≡ length (spell (f c q))
GoodForm form = ⊤

target_size : (b : Bool) (p q : ℕ) → suc (length (cond b [] (bytes2 p))) ≡ suc (length (cond b [] (bytes2 q)))
target_size true p q = refl
target_size false p q = refl

words_good : AllByRecursion (λ (w : List ℕ × WordForm). GoodForm w.1) words
words_good = (tt, (tt, (tt, (tt, (tt, (tt, (tt, (tt, ((λ c d e. refl), ((λ c p q. target_size (c == 0) p q), ((λ c p q. target_size (c == 0) p q), (tt, (tt, (tt, (tt, (tt, (tt, (tt, (tt, (tt, (tt, (tt, (tt, (tt, (tt, (tt, (tt, (tt, (tt, (tt, (tt, (tt, (tt, (tt, (tt, (tt, (tt, (tt, (tt, (tt, (tt, (tt, (tt, (tt, (tt, (tt, (tt, (tt, tt))))))))))))))))))))))))))))))))))))))))))))))))

found_by : (b : Bool) (w : WordForm) (o : Option WordForm) (form : WordForm) → GoodForm w → cond b (Some w) o ≡ Some form → (o ≡ Some form → GoodForm form) → GoodForm form
found_by true w o form h e f = let i : w ≡ form = cc e in subst (λ (x : WordForm). GoodForm x) i h
found_by false w o form h e f = f e

form_good : (ws : List (List ℕ × WordForm)) (t : List ℕ) (form : WordForm) → AllByRecursion (λ (w : List ℕ × WordForm). GoodForm w.1) ws → lookup ws t ≡ Some form → GoodForm form
form_good [] t form h e = absurd (cc e)
form_good (w ∷ ws) t form h e = found_by (bytes_eq w.0 t) w.1 (lookup ws t) form h.0 e (λ i. form_good ws t form h.1 i)

good_as : {A : Type 0} (f : A → CodeItem) (r : Result A AsmCause) (i : CodeItem) → ((a : A) → GoodItem (f a)) → ok_as f r ≡ Ok i → GoodItem i
good_as f (Ok a) i g h = let e : f a ≡ i = cc h in subst (λ (x : CodeItem). GoodItem x) e (g a)
good_as f (Err c) i g h = absurd (cc h)

abbrev okay : CodeItem → Result CodeItem AsmCause
okay c = Ok c

good_plain : (c i : CodeItem) → GoodItem c → okay c ≡ Ok i → GoodItem i
good_plain c i g h = let e : c ≡ i = cc h in subst (λ (x : CodeItem). GoodItem x) e g

distance_good : (f : ℤ → Ins) (t : Target ℤ) → ((d e : ℤ) → length (spell (f d)) ≡ length (spell (f e))) → GoodItem (by_distance f t)
distance_good f (Label l) h = λ d. h d (pos 0)
distance_good f (Given d) h = tt

place_good : (f : ℕ → Ins) (t : Target ℕ) → ((p q : ℕ) → length (spell (f p)) ≡ length (spell (f q))) → GoodItem (by_place f t)
place_good f (Label l) h = λ p. h p 0
place_good f (Given p) h = tt

primitive_good : (bs : List ℕ) → GoodItem (primitive bs)
primitive_good [] = tt
primitive_good (b ∷ bs) = tt

primitive_by : (b : Bool) (r : Result (List ℕ) AsmCause) (i : CodeItem) → cond b (ok_as primitive r) (Err BadOperands) ≡ Ok i → GoodItem i
primitive_by true r i h = good_as primitive r i primitive_good h
primitive_by false r i h = absurd (cc h)

item_good : (form : WordForm) (ops : List (List ℕ)) (i : CodeItem) → GoodForm form → item_of_word form ops ≡ Ok i → GoodItem i
item_good (Bare f) [] i g h = good_plain (Plain f) i tt h
item_good (Bare f) (a ∷ ts) i g h = absurd (cc h)
item_good (OfByte f) [] i g h = absurd (cc h)
item_good (OfByte f) (a ∷ []) i g h = good_as (λ n. Plain (f n)) (byte a) i (λ a. tt) h
item_good (OfByte f) (a ∷ b ∷ ts) i g h = absurd (cc h)
item_good (OfBytes f) [] i g h = absurd (cc h)
item_good (OfBytes f) (a ∷ []) i g h = absurd (cc h)
item_good (OfBytes f) (a ∷ b ∷ []) i g h = good_as (λ p. Plain (f p.0 p.1)) (both (byte a) (byte b)) i (λ a. tt) h
item_good (OfBytes f) (a ∷ b ∷ c ∷ ts) i g h = absurd (cc h)
item_good (OfWord f) [] i g h = absurd (cc h)
item_good (OfWord f) (a ∷ []) i g h = good_as (λ w. Plain (f w)) (word a) i (λ a. tt) h
item_good (OfWord f) (a ∷ b ∷ ts) i g h = absurd (cc h)
item_good (OfWords f) [] i g h = absurd (cc h)
item_good (OfWords f) (a ∷ []) i g h = absurd (cc h)
item_good (OfWords f) (a ∷ b ∷ []) i g h = good_as (λ p. Plain (f p.0 p.1)) (both (word a) (word b)) i (λ a. tt) h
item_good (OfWords f) (a ∷ b ∷ c ∷ ts) i g h = absurd (cc h)
item_good RawByte [] i g h = absurd (cc h)
item_good RawByte (a ∷ []) i g h = good_as Raw (byte a) i (λ a. tt) h
item_good RawByte (a ∷ b ∷ ts) i g h = absurd (cc h)
item_good (ByDistance f) [] i g h = absurd (cc h)
item_good (ByDistance f) (a ∷ []) i g h = absurd (cc h)
item_good (ByDistance f) (a ∷ b ∷ []) i g h =
    good_as (λ (p : ℕ × Target ℤ). by_distance (f p.0) p.1) (both (condition a) (label_or_given (is_label b) b (signed_operand 128 b))) i (λ p. distance_good (f p.0) p.1 (g p.0)) h
item_good (ByDistance f) (a ∷ b ∷ c ∷ ts) i g h = absurd (cc h)
item_good (ByPlace f) [] i g h = good_plain (Plain (f 0 0)) i tt h
item_good (ByPlace f) (a ∷ []) i g h = absurd (cc h)
item_good (ByPlace f) (a ∷ b ∷ []) i g h =
    good_as (λ (p : ℕ × Target ℕ). by_place (f p.0) p.1) (both (condition a) (label_or_given (is_label b) b (word b))) i (λ p. place_good (f p.0) p.1 (g p.0)) h
item_good (ByPlace f) (a ∷ b ∷ c ∷ ts) i g h = absurd (cc h)
item_good Primitive [] i g h = absurd (cc h)
item_good Primitive (a ∷ ts) i g h = primitive_by (nat_le (length ts) 3) (all_bytes (a ∷ ts)) i h
item_good (Addressed f) [] i g h = good_plain (Plain (f 0 (pos 0))) i tt h
item_good (Addressed f) (a ∷ []) i g h = good_as (λ (a : ℕ × ℤ). Plain (f a.0 a.1)) (address a) i (λ a. tt) h
item_good (Addressed f) (a ∷ b ∷ ts) i g h = absurd (cc h)
item_good (AddressedByte f) [] i g h = absurd (cc h)
item_good (AddressedByte f) (a ∷ []) i g h = good_as (λ n. Plain (f 0 (pos 0) n)) (byte a) i (λ a. tt) h
item_good (AddressedByte f) (a ∷ b ∷ []) i g h = good_as (λ (p : (ℕ × ℤ) × ℕ). Plain (f (p.0).0 (p.0).1 p.1)) (both (address a) (byte b)) i (λ a. tt) h
item_good (AddressedByte f) (a ∷ b ∷ c ∷ ts) i g h = absurd (cc h)
item_good (AddressedWord f) [] i g h = absurd (cc h)
item_good (AddressedWord f) (a ∷ []) i g h = good_as (λ w. Plain (f 0 (pos 0) w)) (word a) i (λ a. tt) h
item_good (AddressedWord f) (a ∷ b ∷ []) i g h = good_as (λ (p : (ℕ × ℤ) × ℕ). Plain (f (p.0).0 (p.0).1 p.1)) (both (address a) (word b)) i (λ a. tt) h
item_good (AddressedWord f) (a ∷ b ∷ c ∷ ts) i g h = absurd (cc h)

formed : (o : Option WordForm) (ops : List (List ℕ)) (i : CodeItem) → ((form : WordForm) → o ≡ Some form → GoodForm form) → (ok_or o UnknownWord >>= λ form. item_of_word form ops) ≡ Ok i → GoodItem i
formed None ops i g h = absurd (cc h)
formed (Some form) ops i g h = item_good form ops i (g form refl) h

worded : (b : Bool) (t : List ℕ) (ops : List (List ℕ)) (i : CodeItem) → cond b (Ok Nothing) (ok_or (lookup words t) UnknownWord >>= λ form. item_of_word form ops) ≡ Ok i → GoodItem i
worded true t ops i h = good_plain Nothing i tt h
worded false t ops i h = formed (lookup words t) ops i (λ form e. form_good words t form words_good e) h

body_good : (s : List ℕ × Option (List ℕ)) (i : CodeItem) → word_and_operands s ≡ Ok i → GoodItem i
body_good s i h = worded (is_empty s.0) s.0 (operands s.1) i h

labelled_as : (label : Option (List ℕ)) (r : Result CodeItem AsmCause) (l : Line) → ((i : CodeItem) → r ≡ Ok i → GoodItem i) → ok_as (λ i. record { label = label; item = i }) r ≡ Ok l → GoodItem l.item
labelled_as label (Err e) l g h = absurd (cc h)
labelled_as label (Ok i) l g h =
    let made : Line = record { label = label; item = i } in
    let e : made ≡ l = cc h in
    subst (λ (x : Line). GoodItem x.item) e (g i refl)

labelled_by : (b : Bool) (t : List ℕ) (s : List ℕ × Option (List ℕ)) (l : Line) → cond b (ok_as (λ i. record { label = Some t; item = i }) (word_and_operands s)) (Err UnknownWord) ≡ Ok l → GoodItem l.item
labelled_by true t s l h = labelled_as (Some t) (word_and_operands s) l (λ i e. body_good s i e) h
labelled_by false t s l h = absurd (cc h)

rest_good : (t : List ℕ) (o : Option (List ℕ)) (l : Line) → label_and_rest t o ≡ Ok l → GoodItem l.item
rest_good t None l h = labelled_as None (word_and_operands (first_cut is_blank (trim t))) l (λ i e. body_good (first_cut is_blank (trim t)) i e) h
rest_good t (Some rest) l h = labelled_by (is_label (trim t)) (trim t) (first_cut is_blank (trim rest)) l h

line_good : (t : List ℕ) (l : Line) → line_read t ≡ Ok l → GoodItem l.item
unfolding line_read
line_good t l h =
    let parts = first_cut (λ c. c == 58) (first_cut (λ c. c == 59) t).0 in
    rest_good parts.0 parts.1 l h

place_sized : (f : ℕ → Ins) (o : Option ℕ) (bytes : List ℕ) → ((p : ℕ) → length (spell (f p)) ≡ length (spell (f 0))) → ok_as (λ p. spell (f p)) (ok_or o UnknownLabel) ≡ Ok bytes → length bytes ≡ length (spell (f 0))
place_sized f None bytes g h = absurd (cc h)
place_sized f (Some p) bytes g h = let e : spell (f p) ≡ bytes = cc h in sym (ap length e) ∙ g p

only_sized : (b : Bool) (t bytes : List ℕ) (n : ℕ) → length t ≡ n → only_if b FarBranch t ≡ Ok bytes → length bytes ≡ n
only_sized true t bytes n g h = let e : t ≡ bytes = cc h in sym (ap length e) ∙ g
only_sized false t bytes n g h = absurd (cc h)

distance_sized : (f : ℤ → Ins) (o : Option ℕ) (place : ℕ) (bytes : List ℕ) → ((d : ℤ) → length (spell (f d)) ≡ length (spell (f (pos 0))))
    → (ok_or o UnknownLabel >>= λ p. let d = pos p -ℤ pos (place + 2) in only_if (fits_signed 128 d) FarBranch (spell (f d))) ≡ Ok bytes → length bytes ≡ length (spell (f (pos 0)))
distance_sized f None place bytes g h = absurd (cc h)
distance_sized f (Some p) place bytes g h =
    let d = pos p -ℤ pos (place + 2) in
    only_sized (fits_signed 128 d) (spell (f d)) bytes (length (spell (f (pos 0)))) (g d) h

item_sized : (labels : List (List ℕ × ℕ)) (place : ℕ) (i : CodeItem) (bytes : List ℕ) → GoodItem i → bytes_of_item labels place i ≡ Ok bytes → length bytes ≡ size i
item_sized labels place Nothing bytes g h = let e : [] ≡ bytes = cc h in sym (ap length e)
item_sized labels place (Raw b) bytes g h = let e : b ∷ [] ≡ bytes = cc h in sym (ap length e)
item_sized labels place (Plain i) bytes g h = let e : spell i ≡ bytes = cc h in sym (ap length e)
item_sized labels place (ToPlace f l) bytes g h = place_sized f (lookup labels l) bytes g h
item_sized labels place (ToDistance f l) bytes g h = distance_sized f (lookup labels l) place bytes g h

-- the bytes of a line that was read are as many as its size
pub line_sized : (labels : List (List ℕ × ℕ)) (place : ℕ) (t : List ℕ) (l : Line) (bytes : List ℕ) → line_read t ≡ Ok l → bytes_of_item labels place l.item ≡ Ok bytes → length bytes ≡ size l.item
line_sized labels place t l bytes h e = item_sized labels place l.item bytes (line_good t l h) e
