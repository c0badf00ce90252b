-- Numbers, ranges and brackets in the fields of rules.
use Rattle.std.proofs.Common.{◌≡◌, ◌<◌, ◌≤◌, ℕ, suc, not, Bor, List, [], ◌∷◌, Bool, true, false, length, Option, Some, None, Result, Ok, Err, arith, refl, sym, ap, ◌∙◌}
use Rattle.std.specs.Prelude.{◌==◌, nat_le, bytes_eq, codes, cond, is_some, option_map}
use Rattle.mc_text.specs.model_text.specs.Text.{◌>>=◌, first_cut, halves_with_character, ok_as, pieces, pieces_with_character}
use Rattle.mc_text.specs.Reading.{capped_number}
use Rattle.model_rule_text.specs.model_play.specs.declared.deck.DeckCause.TheVariants.{BadLine}
use Rattle.model_rule_text.specs.Reading.{Deck, RuleCause, bracketed, ends_in, ends_of, has_no_bracket, register_and_text, register_field, static_field, unless}
use Rattle.prove_rules.specs.Fields.{two_of, IsNumber}

-- ---- pieces by their first cut

-- the pieces of a text after a cut, if there is one
abbrev pub pieces_after : (ℕ → Bool) → Option (List ℕ) → List (List ℕ)
pieces_after f None = []
pieces_after f (Some t) = pieces f t

cut_by : (b : Bool) (f : ℕ → Bool) (c : ℕ) (t : List ℕ) (h : List ℕ × Option (List ℕ)) → pieces f t ≡ h.0 ∷ pieces_after f h.1
    → pieces_with_character b c (pieces f t) ≡ (halves_with_character b c t h).0 ∷ pieces_after f (halves_with_character b c t h).1
cut_by true f c t h e = refl
cut_by false f c t h e = ap (pieces_with_character false c) e

pub pieces_cut : (f : ℕ → Bool) (t : List ℕ) → pieces f t ≡ (first_cut f t).0 ∷ pieces_after f (first_cut f t).1
pieces_cut f [] = refl
pieces_cut f (c ∷ t) = cut_by (f c) f c t (first_cut f t) (pieces_cut f t)

pub pieces_some : (f : ℕ → Bool) (t u : List ℕ) → Some u ≡ (first_cut f t).1 → pieces f t ≡ (first_cut f t).0 ∷ pieces f u
pieces_some f t u e = pieces_cut f t ∙ ap (λ o. (first_cut f t).0 ∷ pieces_after f o) (sym e)

pub pieces_none : (f : ℕ → Bool) (t : List ℕ) → None ≡ (first_cut f t).1 → pieces f t ≡ (first_cut f t).0 ∷ []
pieces_none f t e = pieces_cut f t ∙ ap (λ o. (first_cut f t).0 ∷ pieces_after f o) (sym e)

whole_by : (b : Bool) (c : ℕ) (t : List ℕ) (h : List ℕ × Option (List ℕ)) → (None ≡ h.1 → h.0 ≡ t) → None ≡ (halves_with_character b c t h).1 → (halves_with_character b c t h).0 ≡ c ∷ t
whole_by true c t h k e = absurd (cc e)
whole_by false c t h k e = ap (λ s. c ∷ s) (k e)

-- a text without a cut is before it
whole : (f : ℕ → Bool) (t : List ℕ) → None ≡ (first_cut f t).1 → (first_cut f t).0 ≡ t
whole f [] e = refl
whole f (c ∷ t) e = whole_by (f c) c t (first_cut f t) (whole f t) e

-- ---- two pieces

pub no_cut : (f : ℕ → Bool) (t : List ℕ) → None ≡ (first_cut f t).1 → None ≡ two_of (pieces f t)
no_cut f t e = sym (ap two_of (pieces_none f t e))

pub one_cut : (f : ℕ → Bool) (t u : List ℕ) → Some u ≡ (first_cut f t).1 → None ≡ (first_cut f u).1 → Some ((first_cut f t).0, u) ≡ two_of (pieces f t)
one_cut f t u e h =
    ap (λ v. Some ((first_cut f t).0, v)) (sym (whole f u h)) ∙ sym (ap two_of (pieces_some f t u e ∙ ap (λ ps. (first_cut f t).0 ∷ ps) (pieces_none f u h)))

pub two_cuts : (f : ℕ → Bool) (t u v : List ℕ) → Some u ≡ (first_cut f t).1 → Some v ≡ (first_cut f u).1 → None ≡ two_of (pieces f t)
two_cuts f t u v e h =
    sym (ap two_of (pieces_some f t u e ∙ ap (λ ps. (first_cut f t).0 ∷ ps) (pieces_some f u v h ∙ ap (λ ps. (first_cut f u).0 ∷ ps) (pieces_cut f v))))

abbrev both_of : Option (List ℕ × List ℕ) → List (List ℕ)
both_of None = []
both_of (Some p) = p.0 ∷ p.1 ∷ []

pub two_are : (ps : List (List ℕ)) (a b : List ℕ) → Some (a, b) ≡ two_of ps → ps ≡ a ∷ b ∷ []
two_are ps a b e = grind arith

-- ---- brackets

-- a field whose register and text are not two pieces
not_opened : (ps : List (List ℕ)) → None ≡ two_of ps → register_and_text ps ≡ Err (Deck BadLine)
not_opened ps e = grind arith

not_closed : (ps : List (List ℕ)) → None ≡ two_of ps → bracketed ps ≡ Err (Deck BadLine)
not_closed ps e = grind arith

pub zero_of : (n : ℕ) → (n == 0) ≡ true → n ≡ 0
zero_of n h = grind (arith, h)

more_after : (w q : List ℕ) → (length q == 0) ≡ false → bracketed (w ∷ q ∷ []) ≡ Err (Deck BadLine)
more_after w [] n = absurd (cc n)
more_after w (c ∷ q) n = refl

none_after : (w q : List ℕ) → (length q == 0) ≡ true → bracketed (w ∷ q ∷ []) ≡ Ok w
none_after w [] n = refl
none_after w (c ∷ q) n = absurd (cc (zero_of (length (c ∷ q)) n))

with_register : (t r u : List ℕ) (x : Result (List ℕ) RuleCause) → Some (r, u) ≡ two_of (pieces (λ c. c == 91) t) → bracketed (pieces (λ c. c == 93) u) ≡ x → register_field t ≡ ok_as (λ w. (r, w)) x
with_register t r u x e h = ap register_and_text (two_are (pieces (λ c. c == 91) t) r u e) ∙ ap (ok_as (λ w. (r, w))) h

pub no_bracket : (t r u : List ℕ) → Some (r, u) ≡ two_of (pieces (λ c. c == 91) t) → None ≡ two_of (pieces (λ c. c == 93) u) → register_field t ≡ Err (Deck BadLine)
no_bracket t r u e h = with_register t r u (Err (Deck BadLine)) e (not_closed (pieces (λ c. c == 93) u) h)

pub text_after : (t r u w q : List ℕ) → Some (r, u) ≡ two_of (pieces (λ c. c == 91) t) → Some (w, q) ≡ two_of (pieces (λ c. c == 93) u) → (length q == 0) ≡ false → register_field t ≡ Err (Deck BadLine)
text_after t r u w q e h n = with_register t r u (Err (Deck BadLine)) e (ap bracketed (two_are (pieces (λ c. c == 93) u) w q h) ∙ more_after w q n)

pub register_is : (t r u w q : List ℕ) → Some (r, u) ≡ two_of (pieces (λ c. c == 91) t) → Some (w, q) ≡ two_of (pieces (λ c. c == 93) u) → (length q == 0) ≡ true → register_field t ≡ Ok (r, w)
register_is t r u w q e h n = with_register t r u (Ok w) e (ap bracketed (two_are (pieces (λ c. c == 93) u) w q h) ∙ none_after w q n)

-- static bytes
static_by : (t : List ℕ) (x : Result (List ℕ × List ℕ) RuleCause) → register_field t ≡ x → static_field t ≡ (x >>= λ p. unless (bytes_eq p.0 (codes "SB")) BadLine p.1)
static_by t x e = ap (λ r. r >>= λ p. unless (bytes_eq p.0 (codes "SB")) BadLine p.1) e

pub static_is : (t r w : List ℕ) → register_field t ≡ Ok (r, w) → bytes_eq r (codes "SB") ≡ true → static_field t ≡ Ok w
static_is t r w e h = static_by t (Ok (r, w)) e ∙ ap (λ b. unless b BadLine w) h

-- ---- ranges

pub one_end : (t p : List ℕ) → p ≡ (first_cut (λ c. c == 46) t).0 → None ≡ (first_cut (λ c. c == 46) t).1 → ends_of t ≡ Ok (p, p)
one_end t p e h = ap ends_in (pieces_none (λ c. c == 46) t h) ∙ ap (λ x. Ok (x, x)) (sym e)

not_ends : (p q : List ℕ) (ps : List (List ℕ)) → None ≡ two_of (q ∷ ps) → ends_in (p ∷ q ∷ ps) ≡ Err (Deck BadLine)
not_ends p q ps e = grind arith

pub no_ends : (t u : List ℕ) → Some u ≡ (first_cut (λ c. c == 46) t).1 → None ≡ two_of (pieces (λ c. c == 46) u) → ends_of t ≡ Err (Deck BadLine)
no_ends t u e h = grind (arith, pieces_some, pieces_cut, not_ends)

middle_by : (p m q : List ℕ) → (length m == 0) ≡ false → ends_in (p ∷ m ∷ q ∷ []) ≡ Err (Deck BadLine)
middle_by p [] q n = absurd (cc n)
middle_by p (c ∷ m) q n = refl

no_middle_by : (p m q : List ℕ) → (length m == 0) ≡ true → ends_in (p ∷ m ∷ q ∷ []) ≡ Ok (p, q)
no_middle_by p [] q n = refl
no_middle_by p (c ∷ m) q n = absurd (cc (zero_of (length (c ∷ m)) n))

three : (t u m q : List ℕ) → Some u ≡ (first_cut (λ c. c == 46) t).1 → Some (m, q) ≡ two_of (pieces (λ c. c == 46) u) → ends_of t ≡ ends_in ((first_cut (λ c. c == 46) t).0 ∷ m ∷ q ∷ [])
three t u m q e h = ap ends_in (pieces_some (λ c. c == 46) t u e ∙ ap (λ ps. (first_cut (λ c. c == 46) t).0 ∷ ps) (two_are (pieces (λ c. c == 46) u) m q h))

pub text_between : (t u m q : List ℕ) → Some u ≡ (first_cut (λ c. c == 46) t).1 → Some (m, q) ≡ two_of (pieces (λ c. c == 46) u) → (length m == 0) ≡ false → ends_of t ≡ Err (Deck BadLine)
text_between t u m q e h n = three t u m q e h ∙ middle_by (first_cut (λ c. c == 46) t).0 m q n

pub two_ends : (t p u m q : List ℕ) → p ≡ (first_cut (λ c. c == 46) t).0 → Some u ≡ (first_cut (λ c. c == 46) t).1 → Some (m, q) ≡ two_of (pieces (λ c. c == 46) u) → (length m == 0) ≡ true → ends_of t ≡ Ok (p, q)
two_ends t p u m q s e h n = three t u m q e h ∙ no_middle_by (first_cut (λ c. c == 46) t).0 m q n ∙ ap (λ x. Ok (x, q)) (sym s)

-- the ends of a text, or BadLine
abbrev pub AreEndsRead : Result (List ℕ × List ℕ) RuleCause → Type 0
AreEndsRead (Ok e) = Unit {0}
AreEndsRead (Err c) = c ≡ Deck BadLine

ends_either : (ps : List (List ℕ)) → AreEndsRead (ends_in ps)
ends_either ps = grind arith

-- a range that is refused is BadLine
pub ends_refused : (t : List ℕ) → AreEndsRead (ends_of t)
ends_refused t = ends_either (pieces (λ c. c == 46) t)

-- ---- capped numbers

capped_by : (b : Bool) (n m : ℕ) → nat_le m 4294967296 ≡ b → n ≡ cond b m 4294967296 → n < 4294967296 → n ≡ m
capped_by true n m e i h = i
capped_by false n m e i h = absurd (omega (arith, h, i))

pub capped_same : (n m : ℕ) → n ≡ capped_number m → n < 4294967296 → n ≡ m
capped_same n m i h = capped_by (nat_le m 4294967296) n m refl i h

high_by : (b : Bool) (n m : ℕ) → nat_le m 4294967296 ≡ b → n ≡ cond b m 4294967296 → 4294967296 ≤ n → 4294967296 ≤ m
high_by true n m e i h = omega (arith, i, h)
high_by false n m e i h = grind (arith, e)

pub capped_high : (n m : ℕ) → n ≡ capped_number m → 4294967296 ≤ n → 4294967296 ≤ m
capped_high n m i h = high_by (nat_le m 4294967296) n m refl i h

number_by : (o : Option ℕ) (n : ℕ) → Some n ≡ option_map capped_number o → IsNumber o n
number_by o n e = grind (arith, capped_same, capped_high)

-- a number of a text
pub number_is : (o : Option ℕ) (n : ℕ) → Some n ≡ option_map capped_number o → IsNumber o n
number_is o n e = number_by o n e

pub no_number : (o : Option ℕ) → None ≡ option_map capped_number o → o ≡ None
no_number None e = refl
no_number (Some m) e = absurd (cc e)

-- ---- pieces as the code has them

abbrev now_of : Option (Bor (List ℕ)) → Option (List ℕ)
now_of o = option_map (λ (r : Bor (List ℕ)). r.now) o

pub cut_twice : (f : ℕ → Bool) (t : List ℕ) (u : Bor (List ℕ)) (o p : Option (Bor (List ℕ))) → Some u ≡ o → now_of o ≡ (first_cut f t).1 → now_of p ≡ (first_cut f u.now).1 → is_some p ≡ true → None ≡ two_of (pieces f t)
cut_twice f t u o None e h i s = absurd (cc s)
cut_twice f t u o (Some v) e h i s = two_cuts f t u.now v.now (ap now_of e ∙ h) i

pub cut_once : (f : ℕ → Bool) (t q : List ℕ) (u : Bor (List ℕ)) (o p : Option (Bor (List ℕ))) → Some u ≡ o → q ≡ (first_cut f t).0 → now_of o ≡ (first_cut f t).1 → now_of p ≡ (first_cut f u.now).1 → is_some p ≡ false → Some (q, u.now) ≡ two_of (pieces f t)
cut_once f t q u o None e g h i s = ap (λ x. Some (x, u.now)) g ∙ one_cut f t u.now (ap now_of e ∙ h) i
cut_once f t q u o (Some v) e g h i s = absurd (cc s)

two_or_more : (n : ℕ) → nat_le (suc (suc n)) 1 ≡ false
two_or_more n = grind arith

-- whether a text is cut
pub is_cut : (t : List ℕ) (o : Option (Bor (List ℕ))) (b : Bool) → now_of o ≡ (first_cut (λ c. c == 91) t).1 → b ≡ is_some o → has_no_bracket t ≡ not b
is_cut t o b e i = grind (arith, pieces_none, pieces_some, pieces_cut, two_or_more)

-- a range by what the code has of its first cut
pub one_end_of : (t p : List ℕ) (o : Option (Bor (List ℕ))) → o ≡ None → p ≡ (first_cut (λ c. c == 46) t).0 → now_of o ≡ (first_cut (λ c. c == 46) t).1 → ends_of t ≡ Ok (p, p)
one_end_of t p o e s h = one_end t p s (sym (ap now_of e) ∙ h)

pub rest_of_cut : (t : List ℕ) (u : Bor (List ℕ)) (o : Option (Bor (List ℕ))) → o ≡ Some u → now_of o ≡ (first_cut (λ c. c == 46) t).1 → Some u.now ≡ (first_cut (λ c. c == 46) t).1
rest_of_cut t u o e h = sym (ap now_of e) ∙ h
