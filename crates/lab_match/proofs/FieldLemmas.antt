-- The fields of a line, by the first of them.
use Rattle.std.proofs.Common.{◌≡◌, ◌≤◌, ◌<◌, ℕ, suc, List, [], ◌∷◌, Bool, true, false, cond, not, filter, length, Option, Some, None, arith, refl, sym, ap, subst, ◌∙◌}
use Rattle.mc_text.specs.model_text.specs.Text.{before_trimmed, fields, first_cut, halves_with_character, is_blank, is_empty, pieces, pieces_with_character, trim, trim_end, trim_front}
use Rattle.model_events.specs.Matching.{plain}
use Rattle.mc_text.proofs.ReadingLemmas.{pieces_at, pieces_cut}
use Rattle.lab_match.specs.Fields.{first_field, or_nothing, rest_of}

-- ---- lengths

short_by : (b : Bool) (c : ℕ) (t : List ℕ) → length (trim_front t) ≤ length t → length (cond b (trim_front t) (c ∷ t)) ≤ suc (length t)
short_by true c t h = omega (arith, h)
short_by false c t h = omega arith

-- a text without the blanks at its front is no longer
pub trim_front_short : (t : List ℕ) → length (trim_front t) ≤ length t
trim_front_short [] = omega arith
trim_front_short (c ∷ t) = short_by (is_blank c) c t (trim_front_short t)

cut_by : (f : ℕ → Bool) (b : Bool) (c : ℕ) (t : List ℕ) → length (first_cut f t).0 ≤ length t → length (halves_with_character b c t (first_cut f t)).0 ≤ suc (length t)
cut_by f true c t h = omega arith
cut_by f false c t h = omega (arith, h)

-- the front of a text is no longer than it
pub cut_short : (f : ℕ → Bool) (t : List ℕ) → length (first_cut f t).0 ≤ length t
cut_short f [] = omega arith
cut_short f (c ∷ t) = cut_by f (f c) c t (cut_short f t)

-- ---- fields

-- fields with a part before them, unless it is empty
abbrev put_field : Bool → List ℕ → List (List ℕ) → List (List ℕ)
put_field true p ps = ps
put_field false p ps = p ∷ ps

fields_cut_by : (b : Bool) (p : List ℕ) (ps : List (List ℕ)) → is_empty p ≡ b → filter (λ p. not (is_empty p)) (p ∷ ps) ≡ put_field b p (filter (λ p. not (is_empty p)) ps)
fields_cut_by true p ps e = rw e refl
fields_cut_by false p ps e = rw e refl

fields_cut : (p : List ℕ × Option (List ℕ)) → filter (λ p. not (is_empty p)) (pieces_cut is_blank p) ≡ put_field (is_empty p.0) p.0 (fields (or_nothing p.1))
fields_cut (a, None) = fields_cut_by (is_empty a) a [] refl
fields_cut (a, Some rest) = fields_cut_by (is_empty a) a (pieces is_blank rest) refl

fields_at : (t : List ℕ) → fields t ≡ put_field (is_empty (first_cut is_blank t).0) (first_cut is_blank t).0 (fields (or_nothing (first_cut is_blank t).1))
fields_at t = ap (filter (λ p. not (is_empty p))) (pieces_at is_blank t) ∙ fields_cut (first_cut is_blank t)

trim_fields_by : (c : ℕ) (t : List ℕ) (b : Bool) → is_blank c ≡ b → fields (trim_front t) ≡ fields t → fields (trim_front (c ∷ t)) ≡ fields (c ∷ t)
trim_fields_by c t true e h = ap (λ b. fields (cond b (trim_front t) (c ∷ t))) e ∙ h ∙ sym (ap (λ b. filter (λ p. not (is_empty p)) (pieces_with_character b c (pieces is_blank t))) e)
trim_fields_by c t false e h = ap (λ b. fields (cond b (trim_front t) (c ∷ t))) e

-- blanks before a line are ignored
trim_fields : (t : List ℕ) → fields (trim_front t) ≡ fields t
trim_fields [] = refl
trim_fields (c ∷ t) = trim_fields_by c t (is_blank c) refl (trim_fields t)

-- a text does not begin with a blank
abbrev Plain : List ℕ → Type 0
Plain [] = Unit {0}
Plain (c ∷ t) = is_blank c ≡ false

trim_plain_by : (c : ℕ) (t : List ℕ) (b : Bool) → is_blank c ≡ b → Plain (trim_front t) → Plain (cond b (trim_front t) (c ∷ t))
trim_plain_by c t true e h = h
trim_plain_by c t false e h = e

trim_plain : (t : List ℕ) → Plain (trim_front t)
trim_plain [] = tt
trim_plain (c ∷ t) = trim_plain_by c t (is_blank c) refl (trim_plain t)

-- the first field of such a text is empty only if the text is
plain_cut : (t : List ℕ) → Plain t → is_empty (first_cut is_blank t).0 ≡ true → (first_cut is_blank t).1 ≡ None
plain_cut [] h e = refl
plain_cut (c ∷ t) h e =
    let no : false ≡ true = subst (λ (b : Bool). is_empty (halves_with_character b c t (first_cut is_blank t)).0 ≡ true) h e in
    absurd (cc no)

fields_by : (l : List ℕ) (b : Bool) → is_empty (first_field l).0 ≡ b → fields l ≡ put_field b (first_field l).0 (fields (rest_of l))
fields_by l b e = sym (trim_fields l) ∙ fields_at (trim_front l) ∙ ap (λ b. put_field b (first_field l).0 (fields (rest_of l))) e

empty_by : (t : List ℕ) → length t ≡ 0 → is_empty t ≡ true
empty_by [] e = refl
empty_by (c ∷ t) e = absurd (omega (arith, e))

full_by : (t : List ℕ) → 0 < length t → is_empty t ≡ false
full_by [] e = absurd (omega (arith, e))
full_by (c ∷ t) e = refl

-- a line whose first field is empty has none
pub fields_none : (l f : List ℕ) → f ≡ (first_field l).0 → length f ≡ 0 → fields l ≡ []
fields_none l f i h =
    let e = empty_by (first_field l).0 (subst (λ (t : List ℕ). length t ≡ 0) i h) in
    fields_by l true e ∙ ap (λ o. fields (or_nothing o)) (plain_cut (trim_front l) (trim_plain l) e)

-- a line with a first field
pub fields_some : (l f b : List ℕ) → f ≡ (first_field l).0 → b ≡ rest_of l → 0 < length f → fields l ≡ f ∷ fields b
fields_some l f b i j h =
    fields_by l false (full_by (first_field l).0 (subst (λ (t : List ℕ). 0 < length t) i h)) ∙ ap (λ t. t ∷ fields (rest_of l)) (sym i) ∙ ap (λ t. f ∷ fields t) (sym j)

-- ---- blanks at the end

-- the first piece of a text, and its fields after that
abbrev first_and_fields : List (List ℕ) → List ℕ × List (List ℕ)
first_and_fields [] = ([], [])
first_and_fields (p ∷ ps) = (p, filter (λ p. not (is_empty p)) ps)

-- the same with a character in front
abbrev with_front : Bool → ℕ → List ℕ × List (List ℕ) → List ℕ × List (List ℕ)
with_front true c p = ([], put_field (is_empty p.0) p.0 p.1)
with_front false c p = (c ∷ p.0, p.1)

front_is : (b : Bool) (c : ℕ) (ps : List (List ℕ)) → first_and_fields (pieces_with_character b c ps) ≡ with_front b c (first_and_fields ps)
front_is true c [] = refl
front_is true c (p ∷ ps) = ap (λ fs. ([], fs)) (fields_cut_by (is_empty p) p ps refl)
front_is false c [] = refl
front_is false c (p ∷ ps) = refl

ends_by : (c : ℕ) (t u : List ℕ) (b : Bool) → is_blank c ≡ b → trim_end t ≡ u → first_and_fields (pieces is_blank u) ≡ first_and_fields (pieces is_blank t)
    → first_and_fields (pieces is_blank (before_trimmed c u)) ≡ first_and_fields (pieces_with_character b c (pieces is_blank t))
ends_by c t [] true e i h = rw e (sym (front_is true c (pieces is_blank t) ∙ ap (with_front true c) (sym h)))
ends_by c t [] false e i h = rw e (rw e refl ∙ sym (front_is false c (pieces is_blank t) ∙ ap (with_front false c) (sym h)))
ends_by c t (d ∷ u) b e i h =
    ap (λ b. first_and_fields (pieces_with_character b c (pieces is_blank (d ∷ u)))) e
    ∙ front_is b c (pieces is_blank (d ∷ u)) ∙ ap (with_front b c) h ∙ sym (front_is b c (pieces is_blank t))

ends : (t : List ℕ) → first_and_fields (pieces is_blank (trim_end t)) ≡ first_and_fields (pieces is_blank t)
ends [] = refl
ends (c ∷ t) =
    ends_by c t (trim_end t) (is_blank c) refl refl (ends t)

-- the fields of pieces, by the first of them and the fields after it
abbrev glued : List ℕ × List (List ℕ) → List (List ℕ)
glued p = put_field (is_empty p.0) p.0 p.1

glued_is : (ps : List (List ℕ)) → filter (λ p. not (is_empty p)) ps ≡ glued (first_and_fields ps)
glued_is [] = refl
glued_is (p ∷ ps) = fields_cut_by (is_empty p) p ps refl

trim_end_fields : (t : List ℕ) → fields (trim_end t) ≡ fields t
trim_end_fields t = glued_is (pieces is_blank (trim_end t)) ∙ ap glued (ends t) ∙ sym (glued_is (pieces is_blank t))

-- blanks around a line are ignored
pub fields_trimmed : (t : List ℕ) → fields (trim t) ≡ fields t
fields_trimmed t = trim_end_fields (trim_front t) ∙ trim_fields t

-- ---- a field has no blank

bare_by : (c : ℕ) (t : List ℕ) (b : Bool) (p : List ℕ × Option (List ℕ)) → is_blank c ≡ b → 0 < length (halves_with_character b c t p).0 → is_empty (plain (halves_with_character b c t p).0) ≡ false
bare_by c t true p e h = absurd (omega (arith, h))
bare_by c t false p e h = rw e refl

bare_cut : (t : List ℕ) → 0 < length (first_cut is_blank t).0 → is_empty (plain (first_cut is_blank t).0) ≡ false
bare_cut [] h = absurd (omega (arith, h))
bare_cut (c ∷ t) h = bare_by c t (is_blank c) (first_cut is_blank t) refl h

-- a first field is not blank
pub field_bare : (l f : List ℕ) → f ≡ (first_field l).0 → 0 < length f → is_empty (plain f) ≡ false
field_bare l f i h = subst (λ (t : List ℕ). is_empty (plain t) ≡ false) (sym i) (bare_cut (trim_front l) (subst (λ (t : List ℕ). 0 < length t) i h))
