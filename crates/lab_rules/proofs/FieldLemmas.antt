-- What is within one line, and a line without its first field.
use Rattle.std.proofs.Common.{◌≡◌, ◌-◌, ℕ, zero, suc, List, [], ◌∷◌, Bool, true, false, cond, length, take, Option, Some, None, refl, sym, subst}
use Rattle.std.specs.Prelude.{◌==◌, slice_index}
use Rattle.mc_text.specs.model_text.specs.Text.{before_trimmed, first_cut, halves_with_character, is_blank, is_empty, trim, trim_end, trim_front}
use Rattle.law_explore.specs.Rules.{after_field, without_field}
use Rattle.mc_text.specs.Reading.{line_cut, next_line}
use Rattle.lab_match.specs.Fields.{first_field, or_nothing, rest_of}
use Rattle.lab_rules.specs.Fields.{IsOneLine}

after_is : (o : Option (List ℕ)) → trim (or_nothing o) ≡ after_field o
after_is None = refl
after_is (Some t) = refl

-- a line without its first field
pub trim_rest : (l : List ℕ) → trim (rest_of l) ≡ without_field l
trim_rest l = after_is (first_field l).1

-- ---- within one line

one_line_trim_by : (b : Bool) (c : ℕ) (t : List ℕ) → IsOneLine (c ∷ t) → IsOneLine (trim_front t) → IsOneLine (cond b (trim_front t) (c ∷ t))
one_line_trim_by true c t h i = i
one_line_trim_by false c t h i = h

one_line_trim_front : (t : List ℕ) → IsOneLine t → IsOneLine (trim_front t)
one_line_trim_front [] h = tt
one_line_trim_front (c ∷ t) h = one_line_trim_by (is_blank c) c t h (one_line_trim_front t h.1)

one_line_cond : (b : Bool) (t u : List ℕ) → IsOneLine t → IsOneLine u → IsOneLine (cond b t u)
one_line_cond true t u h i = h
one_line_cond false t u h i = i

one_line_before : (c : ℕ) (t : List ℕ) → (c == 10) ≡ false → IsOneLine t → IsOneLine (before_trimmed c t)
one_line_before c [] e h = one_line_cond (is_blank c) [] (c ∷ []) tt (e, tt)
one_line_before c (d ∷ t) e h = (e, h)

one_line_trim_end : (t : List ℕ) → IsOneLine t → IsOneLine (trim_end t)
one_line_trim_end [] h = tt
one_line_trim_end (c ∷ t) h = one_line_before c (trim_end t) h.0 (one_line_trim_end t h.1)

pub one_line_trim : (t : List ℕ) → IsOneLine t → IsOneLine (trim t)
one_line_trim t h = one_line_trim_end (trim_front t) (one_line_trim_front t h)

one_line_halves : (b : Bool) (c : ℕ) (t : List ℕ) (p : List ℕ × Option (List ℕ)) → IsOneLine t → IsOneLine (or_nothing p.1) → IsOneLine (or_nothing (halves_with_character b c t p).1)
one_line_halves true c t p h i = h
one_line_halves false c t p h i = i

one_line_behind : (f : ℕ → Bool) (t : List ℕ) → IsOneLine t → IsOneLine (or_nothing (first_cut f t).1)
one_line_behind f [] h = tt
one_line_behind f (c ∷ t) h = one_line_halves (f c) c t (first_cut f t) h.1 (one_line_behind f t h.1)

-- what follows the first field of a line
pub one_line_rest : (l b : List ℕ) → b ≡ rest_of l → IsOneLine l → IsOneLine b
one_line_rest l b e h = subst IsOneLine (sym e) (one_line_behind is_blank (trim_front l) (one_line_trim_front l h))

front_line_by : (b : Bool) (c : ℕ) (t : List ℕ) (p : List ℕ × Option (List ℕ)) → (c == 10) ≡ b → IsOneLine p.0 → IsOneLine (halves_with_character b c t p).0
front_line_by true c t p e h = tt
front_line_by false c t p e h = (e, h)

-- the text before the first line feed
front_line : (t : List ℕ) → IsOneLine (first_cut (λ c. c == 10) t).0
front_line [] = tt
front_line (c ∷ t) = front_line_by (c == 10) c t (first_cut (λ c. c == 10) t) refl (front_line t)

one_line_take : (n : ℕ) (t : List ℕ) → IsOneLine t → IsOneLine (take n t)
one_line_take zero t h = tt
one_line_take (suc n) [] h = tt
one_line_take (suc n) (c ∷ t) h = (h.0, one_line_take n t h.1)

-- a first line that is one line
abbrev OfFirst : Option (List ℕ × List ℕ) → Type 0
OfFirst None = Unit {0}
OfFirst (Some p) = IsOneLine p.0

first_cond : (b : Bool) (l : List ℕ) → IsOneLine l → OfFirst (cond b None (Some (l, [])))
first_cond true l h = tt
first_cond false l h = h

first_line_by : (p : List ℕ × Option (List ℕ)) → IsOneLine p.0 → OfFirst (line_cut p)
first_line_by (l, None) h = first_cond (is_empty l) l h
first_line_by (l, Some rest) h = one_line_cond (slice_index l (length l - 1) == 13) (take (length l - 1) l) l (one_line_take (length l - 1) l h) h

-- a first line has no line feed
pub first_line : (t l b : List ℕ) → Some (l, b) ≡ next_line t → IsOneLine l
first_line t l b e = subst OfFirst (sym e) (first_line_by (first_cut (λ c. c == 10) t) (front_line t))
