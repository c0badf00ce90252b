-- Operations on blocks, highest byte first: what a way through their digits leads to, and that the result is the machine's.
use Rattle.std.proofs.Common.{◌≡◌, ℕ, zero, suc, ◌+◌, ◌*◌, ◌^◌, ◌<◌, Bool, true, false, cond, List, [], ◌∷◌, ◌++◌, length, map, reverse, Option, Some, None, refl, sym, ap, subst, ◌∙◌, arith}
use Rattle.std.specs.Prelude.{◌&&◌, ◌==◌, bit_and, bit_or, bit_xor}
use Rattle.std.specs.List.{AllByRecursion}
use Rattle.std.proofs.lemmas.Bool.{eqb-true, eqb-false, eq-eqb, false_from_ne_true}
use Rattle.std.proofs.lemmas.List.{map-append, reverse-append, reverse-reverse, length-append}
use Rattle.model_prove.specs.model_device.specs.Bytes.{AreBytes, num}
use Rattle.model_prove.specs.model_device.proofs.ListLemmas.{length_map}
use Rattle.model_prove.specs.model_machine.specs.Blocks.{is_zero, and_blocks, or_blocks, xor_blocks}
use Rattle.law_rules.specs.law_bytes.proofs.ByteLists.{anded, ored, xored}
use Rattle.law_rules.specs.law_bytes.specs.law_rows.proofs.BlockLemmas.{pow_more, pow_positive, times_at_most}
use Rattle.model_prove.specs.Sets.{Set, is_in}
use Rattle.model_prove.specs.Digits.{Operation, Plus, Minus, And, Or, Xor, Flags, carried, digit, flags_after, first_flags, Digits, Arc, arcs, Way, join_digits, with_way, arc_before, ways_along, ways, way_from, digits_to, run, AreOf, LieOn, same_flags}
use Rattle.model_prove.specs.Steps.{pairs_of}
use Rattle.model_prove.proofs.DigitLemmas.{digits_law}
use Rattle.law_prove.proofs.Seen.{FitSets, fit_length}

-- ---- from the highest byte

-- the result and the flags of an operation on two blocks, highest byte first
abbrev pub worked : Operation → List ℕ → List ℕ → List ℕ × Flags
worked op [] bs = ([], first_flags)
worked op (x ∷ xs) [] = ([], first_flags)
worked op (x ∷ xs) (y ∷ ys) =
    let rest = worked op xs ys in
    ((digit op x y (rest.1).c).0 ∷ rest.0, flags_after op x y rest.1)

-- the bytes of two blocks as pairs
abbrev pub byte_pairs : List ℕ → List ℕ → List (ℕ × ℕ)
byte_pairs [] ys = []
byte_pairs (x ∷ xs) [] = []
byte_pairs (x ∷ xs) (y ∷ ys) = (x, y) ∷ byte_pairs xs ys

last_digit : (op : Operation) (ps : List (ℕ × ℕ)) (p : ℕ × ℕ) (f : Flags) → (run op (ps ++ p ∷ []) f).0 ≡ (run op ps f).0 ++ (digit op p.0 p.1 ((run op ps f).1).c).0 ∷ []
last_digit op [] p f = refl
last_digit op (q ∷ ps) p f = ap (λ (l : List ℕ). (digit op q.0 q.1 f.c).0 ∷ l) (last_digit op ps p (flags_after op q.0 q.1 f))

last_flags : (op : Operation) (ps : List (ℕ × ℕ)) (p : ℕ × ℕ) (f : Flags) → (run op (ps ++ p ∷ []) f).1 ≡ flags_after op p.0 p.1 (run op ps f).1
last_flags op [] p f = refl
last_flags op (q ∷ ps) p f = last_flags op ps p (flags_after op q.0 q.1 f)

flipped : {A : Type 0} (x : A) (xs : List A) → reverse (x ∷ xs) ≡ reverse xs ++ x ∷ []
flipped x xs = reverse-append (x ∷ []) xs

-- run from the lowest byte it is the same
pub run_flags : (op : Operation) (xs ys : List ℕ) → (run op (reverse (byte_pairs xs ys)) first_flags).1 ≡ (worked op xs ys).1
run_flags op [] ys = refl
run_flags op (x ∷ xs) [] = refl
run_flags op (x ∷ xs) (y ∷ ys) = grind (arith, flipped, last_flags, run_flags op xs ys)

-- run from the lowest byte, the digits of the result are the same in reverse
pub run_digits : (op : Operation) (xs ys : List ℕ) → (run op (reverse (byte_pairs xs ys)) first_flags).0 ≡ reverse (worked op xs ys).0
run_digits op [] ys = refl
run_digits op (x ∷ xs) [] = refl
run_digits op (x ∷ xs) (y ∷ ys) = grind (arith, flipped, last_digit, run_flags, run_digits op xs ys)

-- ---- lists turned around

-- bytes that fit sets still do with one more of each at the end
pub fit_last : (b : List ℕ) (ss : List Set) (x : ℕ) (s : Set) → FitSets b ss → is_in x s ≡ true → FitSets (b ++ x ∷ []) (ss ++ s ∷ [])
fit_last [] [] x s h e = (e, tt)
fit_last [] (t ∷ ss) x s h e = absurd h
fit_last (y ∷ b) [] x s h e = absurd h
fit_last (y ∷ b) (t ∷ ss) x s h e = (h.0, fit_last b ss x s h.1 e)

-- bytes in reverse fit their sets in reverse
pub fit_flipped : (b : List ℕ) (ss : List Set) → FitSets b ss → FitSets (reverse b) (reverse ss)
fit_flipped [] [] h = tt
fit_flipped [] (s ∷ ss) h = absurd h
fit_flipped (x ∷ b) [] h = absurd h
fit_flipped (x ∷ b) (s ∷ ss) h =
    rw (flipped x b, flipped s ss) (fit_last (reverse b) (reverse ss) x s (fit_flipped b ss h.1) h.0)

of_last : (ps : List (ℕ × ℕ)) (ss : List (Set × Set)) (p : ℕ × ℕ) (s : Set × Set) → AreOf ps ss → is_in p.0 s.0 ≡ true → is_in p.1 s.1 ≡ true → AreOf (ps ++ p ∷ []) (ss ++ s ∷ [])
of_last [] [] p s h a b = (a, b, tt)
of_last [] (t ∷ ss) p s h a b = absurd h
of_last (q ∷ ps) [] p s h a b = absurd h
of_last (q ∷ ps) (t ∷ ss) p s h a b = (h.0, h.1, of_last ps ss p s h.2 a b)

-- the bytes of two blocks are of the pairs of their sets, from the lowest
pub pairs_fit : (xs ys : List ℕ) (ss ts : List Set) → length xs ≡ length ys → FitSets xs ss → FitSets ys ts → AreOf (reverse (byte_pairs xs ys)) (reverse (pairs_of ss ts))
pairs_fit [] ys [] ts l a b = tt
pairs_fit [] ys (s ∷ ss) ts l a b = absurd a
pairs_fit (x ∷ xs) [] ss ts l a b = absurd (omega (arith, l))
pairs_fit (x ∷ xs) (y ∷ ys) [] ts l a b = absurd a
pairs_fit (x ∷ xs) (y ∷ ys) (s ∷ ss) [] l a b = absurd b
pairs_fit (x ∷ xs) (y ∷ ys) (s ∷ ss) (t ∷ ts) l a b =
    rw (flipped (x, y) (byte_pairs xs ys), flipped (s, t) (pairs_of ss ts)) (of_last (reverse (byte_pairs xs ys)) (reverse (pairs_of ss ts)) (x, y) (s, t) (pairs_fit xs ys ss ts (omega (arith, l)) a.1 b.1) a.0 b.0)

-- ---- the number of digits

join_length : (n : ℕ) (ds es : List Digits) → length ds ≡ n → length es ≡ n → length (join_digits ds es) ≡ n
join_length n [] es a b = b
join_length n (d ∷ ds) [] a b = a
join_length zero (d ∷ ds) (e ∷ es) a b = absurd (omega (arith, a))
join_length (suc n) (d ∷ ds) (e ∷ es) a b = ap suc (join_length n ds es (omega (arith, a)) (omega (arith, b)))

-- ways of n digits
abbrev pub HaveDigits : ℕ → List Way → Type 0
HaveDigits n ws = AllByRecursion (λ w. length w.digits ≡ n) ws

way_by : (b : Bool) (n : ℕ) (w v : Way) (vs rest : List Way) → length w.digits ≡ n → length v.digits ≡ n → HaveDigits n vs → HaveDigits n rest
    → HaveDigits n (cond b (record { from = v.from; digits = join_digits w.digits v.digits } ∷ vs) (v ∷ rest))
way_by true n w v vs rest x y h k = (join_length n w.digits v.digits x y, h)
way_by false n w v vs rest x y h k = (y, k)

with_way_digits : (n : ℕ) (w : Way) (ws : List Way) → length w.digits ≡ n → HaveDigits n ws → HaveDigits n (with_way w ws)
with_way_digits n w [] x h = (x, tt)
with_way_digits n w (v ∷ vs) x h = way_by (same_flags v.from w.from) n w v vs (with_way w vs) x h.0 h.1 (with_way_digits n w vs x h.1)

from_by : (b : Bool) (n : ℕ) (ds es : List Digits) (o : Option (List Digits)) → length ds ≡ n → (o ≡ Some es → length es ≡ n) → cond b (Some ds) o ≡ Some es → length es ≡ n
from_by true n ds es o x h e = subst (λ (l : List Digits). length l ≡ n) (cc e) x
from_by false n ds es o x h e = h e

way_digits : (n : ℕ) (ws : List Way) (f : Flags) (ds : List Digits) → HaveDigits n ws → way_from ws f ≡ Some ds → length ds ≡ n
way_digits n [] f ds h e = absurd (cc e)
way_digits n (w ∷ ws) f ds h e = from_by (same_flags w.from f) n w.digits ds (way_from ws f) h.0 (λ k. way_digits n ws f ds h.1 k) e

before_digits : (n : ℕ) (a : Arc) (o : Option (List Digits)) (ws : List Way) → ((ds : List Digits) → o ≡ Some ds → length ds ≡ n) → HaveDigits (suc n) ws → HaveDigits (suc n) (arc_before a o ws)
before_digits n a None ws h k = k
before_digits n a (Some ds) ws h k = with_way_digits (suc n) (record { from = a.from; digits = a.digits ∷ ds }) ws (ap suc (h ds refl)) k

along_digits : (n : ℕ) (more : List Arc) (tails : List Way) → HaveDigits n tails → HaveDigits (suc n) (ways_along more tails)
along_digits n [] tails h = tt
along_digits n (a ∷ more) tails h = before_digits n a (way_from tails a.to) (ways_along more tails) (λ ds e. way_digits n tails a.to ds h e) (along_digits n more tails h)

ways_digits : (f : Flags) (lists : List (List Arc)) → HaveDigits (length lists) (ways f lists)
ways_digits f [] = (refl, tt)
ways_digits f (more ∷ rest) = along_digits (length rest) more (ways f rest) (ways_digits f rest)

-- ---- the digits of two blocks

first_fit : (ps : List (ℕ × ℕ)) (rs : List ℕ) (ds : List Digits) → length ds ≡ length ps → LieOn ps rs ds → FitSets (map (λ p. p.0) ps) (map (λ d. d.a) ds)
first_fit [] [] [] l h = tt
first_fit [] [] (d ∷ ds) l h = absurd (omega (arith, l))
first_fit [] (r ∷ rs) ds l h = absurd h
first_fit (p ∷ ps) [] ds l h = absurd h
first_fit (p ∷ ps) (r ∷ rs) [] l h = absurd h
first_fit (p ∷ ps) (r ∷ rs) (d ∷ ds) l h = (h.0, first_fit ps rs ds (omega (arith, l)) h.3)

second_fit : (ps : List (ℕ × ℕ)) (rs : List ℕ) (ds : List Digits) → length ds ≡ length ps → LieOn ps rs ds → FitSets (map (λ p. p.1) ps) (map (λ d. d.b) ds)
second_fit [] [] [] l h = tt
second_fit [] [] (d ∷ ds) l h = absurd (omega (arith, l))
second_fit [] (r ∷ rs) ds l h = absurd h
second_fit (p ∷ ps) [] ds l h = absurd h
second_fit (p ∷ ps) (r ∷ rs) [] l h = absurd h
second_fit (p ∷ ps) (r ∷ rs) (d ∷ ds) l h = (h.1, second_fit ps rs ds (omega (arith, l)) h.3)

result_fit : (ps : List (ℕ × ℕ)) (rs : List ℕ) (ds : List Digits) → length ds ≡ length ps → LieOn ps rs ds → FitSets rs (map (λ d. d.r) ds)
result_fit [] [] [] l h = tt
result_fit [] [] (d ∷ ds) l h = absurd (omega (arith, l))
result_fit [] (r ∷ rs) ds l h = absurd h
result_fit (p ∷ ps) [] ds l h = absurd h
result_fit (p ∷ ps) (r ∷ rs) [] l h = absurd h
result_fit (p ∷ ps) (r ∷ rs) (d ∷ ds) l h = (h.2, result_fit ps rs ds (omega (arith, l)) h.3)

map_flipped : {A B : Type 0} (f : A → B) (xs : List A) → map f (reverse xs) ≡ reverse (map f xs)
map_flipped f [] = refl
map_flipped f (x ∷ xs) =
    ap (λ (l : List _). map f l) (flipped x xs) ∙ (map-append f (reverse xs) (x ∷ []) ∙ (ap (λ (l : List _). l ++ f x ∷ []) (map_flipped f xs) ∙ sym (flipped (f x) (map f xs))))

firsts : (xs ys : List ℕ) → length xs ≡ length ys → map (λ p. p.0) (byte_pairs xs ys) ≡ xs
firsts [] ys l = refl
firsts (x ∷ xs) [] l = absurd (omega (arith, l))
firsts (x ∷ xs) (y ∷ ys) l = ap (λ (t : List ℕ). x ∷ t) (firsts xs ys (omega (arith, l)))

seconds : (xs ys : List ℕ) → length xs ≡ length ys → map (λ p. p.1) (byte_pairs xs ys) ≡ ys
seconds [] [] l = refl
seconds [] (y ∷ ys) l = absurd (omega (arith, l))
seconds (x ∷ xs) [] l = absurd (omega (arith, l))
seconds (x ∷ xs) (y ∷ ys) l = ap (λ (t : List ℕ). y ∷ t) (seconds xs ys (omega (arith, l)))

-- what a way through the digits of two blocks says of their bytes and of the result, highest byte first
pub record OnDigits (op : Operation) (xs ys : List ℕ) (ss ts : List Set) : Type 0 where
  pub digits : List Digits
  pub is : digits_to (worked op xs ys).1 (map (arcs op) (reverse (pairs_of ss ts))) ≡ Some digits
  pub first : FitSets xs (map (λ d. d.a) (reverse digits))
  pub second : FitSets ys (map (λ d. d.b) (reverse digits))
  pub result : FitSets (worked op xs ys).0 (map (λ d. d.r) (reverse digits))

turned : (b : List ℕ) (l : List ℕ) (g : Digits → Set) (ds : List Digits) → l ≡ reverse b → FitSets l (map g ds) → FitSets b (map g (reverse ds))
turned b l g ds is h =
    rw (map_flipped g ds, ← (ap (λ (k : List ℕ). reverse k) is ∙ reverse-reverse b)) (fit_flipped l (map g ds) h)

pairs_count : (ss ts : List Set) → length ss ≡ length ts → length (pairs_of ss ts) ≡ length ss
pairs_count [] ts l = refl
pairs_count (s ∷ ss) [] l = absurd (omega (arith, l))
pairs_count (s ∷ ss) (t ∷ ts) l = ap suc (pairs_count ss ts (omega (arith, l)))

flipped_length : {A : Type 0} (xs : List A) → length (reverse xs) ≡ length xs
flipped_length [] = refl
flipped_length (x ∷ xs) = grind (arith, length-append, flipped, flipped_length xs)

pair_length : (xs ys : List ℕ) → length xs ≡ length ys → length (byte_pairs xs ys) ≡ length xs
pair_length [] ys l = refl
pair_length (x ∷ xs) [] l = absurd (omega (arith, l))
pair_length (x ∷ xs) (y ∷ ys) l = ap suc (pair_length xs ys (omega (arith, l)))

-- the digits rule for blocks
pub on_digits : (op : Operation) (xs ys : List ℕ) (ss ts : List Set) → length xs ≡ length ys → FitSets xs ss → FitSets ys ts → OnDigits op xs ys ss ts
on_digits op xs ys ss ts l a b =
    let ps = reverse (byte_pairs xs ys) in
    let qs = reverse (pairs_of ss ts) in
    let law = digits_law op ps qs (pairs_fit xs ys ss ts l a b) in
    let ds : List Digits = law.0 in
    let lie : LieOn ps (reverse (worked op xs ys).0) ds = rw (← run_digits op xs ys) law.2 in
    let to : digits_to (worked op xs ys).1 (map (arcs op) qs) ≡ Some ds = rw (← run_flags op xs ys) law.1 in
    let count : length ds ≡ length ps = grind (arith, way_digits, ways_digits, length_map, flipped_length, pairs_count, fit_length, pair_length) in
    record {
      digits = ds;
      is = to;
      first = turned xs (map (λ p. p.0) ps) (λ d. d.a) ds (map_flipped (λ p. p.0) (byte_pairs xs ys) ∙ ap (λ (z : List ℕ). reverse z) (firsts xs ys l)) (first_fit ps (reverse (worked op xs ys).0) ds count lie);
      second = turned ys (map (λ p. p.1) ps) (λ d. d.b) ds (map_flipped (λ p. p.1) (byte_pairs xs ys) ∙ ap (λ (z : List ℕ). reverse z) (seconds xs ys l)) (second_fit ps (reverse (worked op xs ys).0) ds count lie);
      result = turned (worked op xs ys).0 (reverse (worked op xs ys).0) (λ d. d.r) ds refl (result_fit ps (reverse (worked op xs ys).0) ds count lie);
    }

-- ---- numbers

-- the result has as many bytes as the operands
pub worked_length : (op : Operation) (xs ys : List ℕ) → length xs ≡ length ys → length (worked op xs ys).0 ≡ length xs
worked_length op [] ys l = refl
worked_length op (x ∷ xs) [] l = absurd (omega (arith, l))
worked_length op (x ∷ xs) (y ∷ ys) l = ap suc (worked_length op xs ys (omega (arith, l)))

-- a number above zero is not zero
pub not_zero : (n : ℕ) → 0 < n → (n == 0) ≡ false
not_zero n h = false_from_ne_true (n == 0) (λ is. let none = eqb-true n 0 is in omega (arith, none, h))

zero_more : (r p v : ℕ) (x y : Bool) → 0 < p → (r == 0) ≡ x → (v == 0) ≡ y → (y && x) ≡ (r * p + v == 0)
zero_more r p v x y h e d = grind (arith, eqb-true, eq-eqb, eqb-false, not_zero, times_at_most)

-- whether all bytes are zero
pub worked_zero : (op : Operation) (xs ys : List ℕ) → length xs ≡ length ys → ((worked op xs ys).1).z ≡ is_zero (worked op xs ys).0
worked_zero op [] ys l = refl
worked_zero op (x ∷ xs) [] l = absurd (omega (arith, l))
worked_zero op (x ∷ xs) (y ∷ ys) l =
    let rest = worked op xs ys in
    let r = (digit op x y (rest.1).c).0 in
    ap (λ (b : Bool). b && (r == 0)) (worked_zero op xs ys (omega (arith, l)))
    ∙ zero_more r (256 ^ length rest.0) (num rest.0) (r == 0) (num rest.0 == 0) (pow_positive (length rest.0)) refl refl

sum_digit : (x y : ℕ) (c : Bool) → x < 256 → y < 256 → (digit Plus x y c).0 + 256 * carried (digit Plus x y c).1 ≡ x + y + carried c
sum_digit x y c a b = grind arith

sum_step : (x y r p a b v c d : ℕ) → r + 256 * d ≡ x + y + c → v + c * p ≡ a + b → r * p + v + d * (256 * p) ≡ (x * p + a) + (y * p + b)
sum_step x y r p a b v c d h k = grind (arith, ap (λ (z : ℕ). z * p) h)

-- a sum, with its carry
pub worked_sum : (xs ys : List ℕ) → length xs ≡ length ys → AreBytes xs → AreBytes ys → num (worked Plus xs ys).0 + carried ((worked Plus xs ys).1).c * 256 ^ length xs ≡ num xs + num ys
worked_sum [] [] l a b = refl
worked_sum [] (y ∷ ys) l a b = absurd (omega (arith, l))
worked_sum (x ∷ xs) [] l a b = absurd (omega (arith, l))
worked_sum (x ∷ xs) (y ∷ ys) l a b =
    let same : length xs ≡ length ys = omega (arith, l) in
    let rest = worked Plus xs ys in
    let c = (rest.1).c in
    let r = (digit Plus x y c).0 in
    let d = (digit Plus x y c).1 in
    let size : length rest.0 ≡ length xs = worked_length Plus xs ys same in
    let step : r * 256 ^ length xs + num rest.0 + carried d * (256 * 256 ^ length xs) ≡ (x * 256 ^ length xs + num xs) + (y * 256 ^ length xs + num ys) =
    sum_step x y r (256 ^ length xs) (num xs) (num ys) (num rest.0) (carried c) (carried d) (sum_digit x y c a.0 b.0) (worked_sum xs ys same a.1 b.1)
    in
    ap (λ (k : ℕ). r * 256 ^ k + num rest.0 + carried d * 256 ^ suc (length xs)) size
    ∙ (ap (λ (k : ℕ). r * 256 ^ length xs + num rest.0 + carried d * k) (pow_more (length xs))
    ∙ (step ∙ ap (λ (k : ℕ). (x * 256 ^ length xs + num xs) + (y * 256 ^ k + num ys)) same))

difference_digit : (x y : ℕ) (c : Bool) → x < 256 → y < 256 → (digit Minus x y c).0 + (y + carried c) ≡ x + 256 * carried (digit Minus x y c).1
difference_digit x y c a b = grind arith

difference_step : (x y r p a b v c d : ℕ) → r + (y + c) ≡ x + 256 * d → v + b ≡ a + c * p → (r * p + v) + (y * p + b) ≡ (x * p + a) + d * (256 * p)
difference_step x y r p a b v c d h k = grind (arith, ap (λ (z : ℕ). z * p) h)

-- a difference, with its borrow
pub worked_difference : (xs ys : List ℕ) → length xs ≡ length ys → AreBytes xs → AreBytes ys → num (worked Minus xs ys).0 + num ys ≡ num xs + carried ((worked Minus xs ys).1).c * 256 ^ length xs
worked_difference [] [] l a b = refl
worked_difference [] (y ∷ ys) l a b = absurd (omega (arith, l))
worked_difference (x ∷ xs) [] l a b = absurd (omega (arith, l))
worked_difference (x ∷ xs) (y ∷ ys) l a b =
    let same : length xs ≡ length ys = omega (arith, l) in
    let rest = worked Minus xs ys in
    let c = (rest.1).c in
    let r = (digit Minus x y c).0 in
    let d = (digit Minus x y c).1 in
    let size : length rest.0 ≡ length xs = worked_length Minus xs ys same in
    let step : (r * 256 ^ length xs + num rest.0) + (y * 256 ^ length xs + num ys) ≡ (x * 256 ^ length xs + num xs) + carried d * (256 * 256 ^ length xs) =
    difference_step x y r (256 ^ length xs) (num xs) (num ys) (num rest.0) (carried c) (carried d) (difference_digit x y c a.0 b.0) (worked_difference xs ys same a.1 b.1)
    in
    ap (λ (k : ℕ). (r * 256 ^ k + num rest.0) + (y * 256 ^ length ys + num ys)) size
    ∙ (ap (λ (k : ℕ). (r * 256 ^ length xs + num rest.0) + (y * 256 ^ k + num ys)) (sym same)
    ∙ (step ∙ ap (λ (k : ℕ). (x * 256 ^ length xs + num xs) + carried d * k) (sym (pow_more (length xs)))))

-- ---- bits

-- the result of And is the blocks' bitwise and
pub worked_and : (xs ys : List ℕ) → (worked And xs ys).0 ≡ and_blocks xs ys
worked_and [] ys = refl
worked_and (x ∷ xs) [] = refl
worked_and (x ∷ xs) (y ∷ ys) = ap (λ (l : List ℕ). bit_and x y ∷ l) (worked_and xs ys)

-- the result of Or is the blocks' bitwise or
pub worked_or : (xs ys : List ℕ) → (worked Or xs ys).0 ≡ or_blocks xs ys
worked_or [] ys = refl
worked_or (x ∷ xs) [] = refl
worked_or (x ∷ xs) (y ∷ ys) = ap (λ (l : List ℕ). bit_or x y ∷ l) (worked_or xs ys)

-- the result of Xor is the blocks' bitwise exclusive or
pub worked_xor : (xs ys : List ℕ) → (worked Xor xs ys).0 ≡ xor_blocks xs ys
worked_xor [] ys = refl
worked_xor (x ∷ xs) [] = refl
worked_xor (x ∷ xs) (y ∷ ys) = ap (λ (l : List ℕ). bit_xor x y ∷ l) (worked_xor xs ys)

-- whether an operation carries
abbrev pub carries_of : Operation → Bool
carries_of Plus = true
carries_of Minus = true
carries_of op = false

-- an operation that does not carry clears C
pub worked_clear : (op : Operation) (xs ys : List ℕ) → carries_of op ≡ false → ((worked op xs ys).1).c ≡ false
worked_clear op [] ys e = refl
worked_clear op (x ∷ xs) [] e = refl
worked_clear Plus (x ∷ xs) (y ∷ ys) e = absurd (cc e)
worked_clear Minus (x ∷ xs) (y ∷ ys) e = absurd (cc e)
worked_clear And (x ∷ xs) (y ∷ ys) e = worked_clear And xs ys e
worked_clear Or (x ∷ xs) (y ∷ ys) e = worked_clear Or xs ys e
worked_clear Xor (x ∷ xs) (y ∷ ys) e = worked_clear Xor xs ys e

digit_bytes : (op : Operation) (x y : ℕ) (c : Bool) (rest : List ℕ) → carries_of op ≡ true → AreBytes rest → AreBytes ((digit op x y c).0 ∷ rest)
digit_bytes op x y c rest e h = grind arith

carried_bytes : (op : Operation) (xs ys : List ℕ) → carries_of op ≡ true → AreBytes (worked op xs ys).0
carried_bytes op [] ys e = tt
carried_bytes op (x ∷ xs) [] e = tt
carried_bytes op (x ∷ xs) (y ∷ ys) e = digit_bytes op x y ((worked op xs ys).1).c (worked op xs ys).0 e (carried_bytes op xs ys e)

-- the result is of bytes
pub worked_bytes : (op : Operation) (xs ys : List ℕ) → length xs ≡ length ys → AreBytes xs → AreBytes ys → AreBytes (worked op xs ys).0
worked_bytes Plus xs ys l h k = carried_bytes Plus xs ys refl
worked_bytes Minus xs ys l h k = carried_bytes Minus xs ys refl
worked_bytes And xs ys l h k = rw (worked_and xs ys) (anded xs ys h)
worked_bytes Or xs ys l h k = rw (worked_or xs ys) (ored xs ys h k)
worked_bytes Xor xs ys l h k = rw (worked_xor xs ys) (xored xs ys h k)
