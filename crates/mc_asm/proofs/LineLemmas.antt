-- The operands of a line.
use Rattle.std.proofs.Common.{◌≡◌, ◌≢◌, ℕ, suc, ◌≤◌, false, List, [], ◌∷◌, ◌++◌, length, append-nil, Bor, take, Option, Some, None, Result, arith, refl, sym, ap, ◌∙◌}
use Rattle.std.specs.Prelude.{map, nat_le, ◌==◌}
use Rattle.model_text.specs.Text.{first_cut, trim, is_empty}
use Rattle.model_text.specs.Assembly.{WordForm, Bare, OfByte, OfBytes, OfWord, OfWords, RawByte, ByDistance, ByPlace, Primitive, Addressed, AddressedByte, AddressedWord, words, operands, item_of_word, word_and_operands, label_and_rest, line_read, CodeItem, Line}
use Rattle.model_text.specs.model_device.specs.Bytes.{lookup}
use Rattle.model_text.specs.declared.assembler.AsmCause.{AsmCause}
use Rattle.mc_asm.specs.Items.{texts}
use Rattle.mc_text.proofs.ReadingLemmas.{pieces_at, pieces_cut}
use Rattle.std.proofs.lemmas.List.{take_all}

-- a bound on the iterations that are left
abbrev pub left_of : Option (List ℕ) → ℕ
left_of None = 0
left_of (Some t) = suc (length t)

operands_cut : (p : List ℕ × Option (List ℕ)) → map trim (pieces_cut (λ c. c == 44) p) ≡ trim p.0 ∷ operands p.1
operands_cut (a, None) = refl
operands_cut (a, Some rest) = refl

-- the operands of a text are the first and those after its first comma
pub operands_at : (t : List ℕ) → operands (Some t) ≡ trim (first_cut (λ c. c == 44) t).0 ∷ operands (first_cut (λ c. c == 44) t).1
operands_at t = ap (map trim) (pieces_at (λ c. c == 44) t) ∙ operands_cut (first_cut (λ c. c == 44) t)

-- a word with five operands or more is refused as it is with the first five
first_five_long : (f : WordForm) (a b c d e : List ℕ) (ts : List (List ℕ)) → item_of_word f (a ∷ b ∷ c ∷ d ∷ e ∷ ts) ≡ item_of_word f (a ∷ b ∷ c ∷ d ∷ e ∷ [])
first_five_long (Bare i) a b c d e ts = refl
first_five_long (OfByte f) a b c d e ts = refl
first_five_long (OfBytes f) a b c d e ts = refl
first_five_long (OfWord f) a b c d e ts = refl
first_five_long (OfWords f) a b c d e ts = refl
first_five_long RawByte a b c d e ts = refl
first_five_long (ByDistance f) a b c d e ts = refl
first_five_long (ByPlace f) a b c d e ts = refl
first_five_long Primitive a b c d e ts = let l : nat_le (length (b ∷ c ∷ d ∷ e ∷ ts)) 3 ≡ false = grind arith in rw l refl
first_five_long (Addressed f) a b c d e ts = refl
first_five_long (AddressedByte f) a b c d e ts = refl
first_five_long (AddressedWord f) a b c d e ts = refl

pub first_five : (f : WordForm) (ts : List (List ℕ)) → item_of_word f (take 5 ts) ≡ item_of_word f ts
first_five f ts = grind (arith, first_five_long)

-- ---- operands one by one

pub texts_one : (ps : List (Bor (List ℕ))) (p : Bor (List ℕ)) (qs : List (List ℕ)) → texts (ps ++ p ∷ []) ++ qs ≡ texts ps ++ p.now ∷ qs
texts_one [] p qs = refl
texts_one (x ∷ ps) p qs = ap (λ l. x.now ∷ l) (texts_one ps p qs)

length_texts : (ps : List (Bor (List ℕ))) → length (texts ps) ≡ length ps
length_texts [] = refl
length_texts (p ∷ ps) = ap suc (length_texts ps)

front_of : (xs ys : List (List ℕ)) → take (length xs) (xs ++ ys) ≡ xs
front_of [] ys = refl
front_of (x ∷ xs) ys = ap (λ l. x ∷ l) (front_of xs ys)

-- one more operand
pub operand_more : (ps : List (Bor (List ℕ))) (p : Bor (List ℕ)) (t f : List ℕ) (b : Option (List ℕ)) (w : List (List ℕ)) → p.now ≡ trim f → f ≡ (first_cut (λ c. c == 44) t).0 → b ≡ (first_cut (λ c. c == 44) t).1
    → texts ps ++ operands (Some t) ≡ w → texts (ps ++ p ∷ []) ++ operands b ≡ w
operand_more ps p t f b w e g h i = grind (arith, operands_at, texts_one)

-- five operands that were read are the first five
pub operands_full : (ps : List (Bor (List ℕ))) (qs w : List (List ℕ)) → length ps ≡ 5 → texts ps ++ qs ≡ w → texts ps ≡ take 5 w
operands_full ps qs w l h =
    let k : length (texts ps) ≡ 5 = length_texts ps ∙ l in
    sym (front_of (texts ps) qs) ∙ ap (λ n. take n (texts ps ++ qs)) k ∙ ap (take 5) h

-- operands that were all read are the first five
pub operands_all : (ps : List (Bor (List ℕ))) (w : List (List ℕ)) → length ps ≤ 5 → texts ps ++ [] ≡ w → texts ps ≡ take 5 w
operands_all ps w l h =
    let k : length (texts ps) ≤ 5 = rw (length_texts ps) l in
    sym (take_all 5 (texts ps) k) ∙ ap (take 5) (sym (append-nil (texts ps)) ∙ h)

-- ---- a line's word

pub word_then : (s : List ℕ × Option (List ℕ)) (w : List ℕ) (rest : Option (List ℕ)) (f : WordForm) (ops : List (List ℕ)) (r : Result CodeItem AsmCause)
    → w ≡ s.0 → rest ≡ s.1 → is_empty w ≡ false → lookup words w ≡ Some f → ops ≡ take 5 (operands rest) → r ≡ item_of_word f ops → r ≡ word_and_operands s
word_then s w rest f ops r e g h i j k = grind (arith, first_five)

pub line_by_parts : (l t f : List ℕ) (b : Option (List ℕ)) (r : Result Line AsmCause)
    → t ≡ (first_cut (λ c. c == 59) l).0 → f ≡ (first_cut (λ c. c == 58) t).0 → b ≡ (first_cut (λ c. c == 58) t).1 → r ≡ label_and_rest f b → r ≡ line_read l
unfolding line_read
line_by_parts l t f b r e g h i = i ∙ rw (g, h, e) refl

pub nonempty : (w : List ℕ) → length w ≢ 0 → is_empty w ≡ false
nonempty [] h = absurd (h refl)
nonempty (c ∷ w) h = refl
