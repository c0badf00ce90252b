-- The first word of a text, and its fields.
use Rattle.std.proofs.Common.{◌≡◌, ℕ, zero, suc, ◌≤◌, arith, Bool, true, false, cond, List, [], ◌∷◌, ◌++◌, length, drop, Option, Some, None, refl, sym, ap, subst, ◌∙◌}
use Rattle.std.specs.Prelude.{filter, not}
use Rattle.std.proofs.Math.Seq.{drop-append_seam, drop-length}
use Rattle.mc_text.specs.model_text.specs.Text.{before_trimmed, fields, first_cut, halves_with_character, is_blank, is_empty, pieces, pieces_with_character, trim, trim_end, trim_front}
use Rattle.mc_text.proofs.ReadingLemmas.{pieces_at, pieces_cut}
use Rattle.desk_draft.specs.Parts.{after_word}
use Rattle.desk_laws.proofs.SelfLines.{cut_shorter}
use Rattle.desk_draft.proofs.StayLemmas.{some_pieces}

-- ---- a text that is cut

-- a text is what stands before its first cut, and what stands after it
abbrev pub Cuts : (ℕ → Bool) → List ℕ → List ℕ × Option (List ℕ) → Type 0
Cuts f t (w, None) = t ≡ w
Cuts f t (w, Some r) = (b : ℕ) × (f b ≡ true) × (t ≡ w ++ b ∷ r)

cuts_more : (f : ℕ → Bool) (c : ℕ) (t : List ℕ) (p : List ℕ × Option (List ℕ)) → Cuts f t p → Cuts f (c ∷ t) (c ∷ p.0, p.1)
cuts_more f c t (w, None) h = ap (λ x. c ∷ x) h
cuts_more f c t (w, Some r) h = (h.0, h.1, ap (λ x. c ∷ x) h.2)

cuts_by : (f : ℕ → Bool) (b : Bool) (c : ℕ) (t : List ℕ) (p : List ℕ × Option (List ℕ)) → f c ≡ b → Cuts f t p → Cuts f (c ∷ t) (halves_with_character b c t p)
cuts_by f true c t p e h = (c, e, refl)
cuts_by f false c t p e h = cuts_more f c t p h

-- a text is its first cut: what comes before it, and what follows it
pub cuts : (f : ℕ → Bool) (t : List ℕ) → Cuts f t (first_cut f t)
cuts f [] = refl
cuts f (c ∷ t) = cuts_by f (f c) c t (first_cut f t) refl (cuts f t)

-- ---- blanks at the end

-- a text, if it is not empty
abbrev pub some_text : List ℕ → Option (List ℕ)
some_text [] = None
some_text (c ∷ t) = Some (c ∷ t)

-- a text that was cut, without the blanks at its end
abbrev pub trimmed_cut : List ℕ × Option (List ℕ) → List ℕ × Option (List ℕ)
trimmed_cut (w, None) = (w, None)
trimmed_cut (w, Some r) = (w, some_text (trim_end r))

blank_cut : (c : ℕ) (s : List ℕ) → is_blank c ≡ true → first_cut is_blank (before_trimmed c s) ≡ ([], some_text s)
blank_cut c [] e = rw e refl
blank_cut c (d ∷ s) e = rw e refl

-- a character that is no blank stays before a trimmed text
pub kept_first : (c : ℕ) (s : List ℕ) → is_blank c ≡ false → before_trimmed c s ≡ c ∷ s
kept_first c [] e = rw e refl
kept_first c (d ∷ s) e = refl

trimmed_more : (c : ℕ) (p : List ℕ × Option (List ℕ)) → (c ∷ (trimmed_cut p).0, (trimmed_cut p).1) ≡ trimmed_cut (c ∷ p.0, p.1)
trimmed_more c (w, None) = refl
trimmed_more c (w, Some r) = refl

trimmed_by : (b : Bool) (c : ℕ) (t : List ℕ) → is_blank c ≡ b → first_cut is_blank (trim_end t) ≡ trimmed_cut (first_cut is_blank t) → first_cut is_blank (before_trimmed c (trim_end t)) ≡ trimmed_cut (halves_with_character b c t (first_cut is_blank t))
trimmed_by b c t e h = grind (arith, blank_cut, kept_first, trimmed_more)

-- the first word of a text without the blanks at its end, and what follows it
pub cut_trimmed : (t : List ℕ) → first_cut is_blank (trim_end t) ≡ trimmed_cut (first_cut is_blank t)
cut_trimmed [] = refl
cut_trimmed (c ∷ t) = trimmed_by (is_blank c) c t refl (cut_trimmed t)

front_past : (c : ℕ) (s : List ℕ) → is_blank c ≡ true → trim_front s ≡ trim_front (before_trimmed c s)
front_past c [] e = rw e refl
front_past c (d ∷ s) e = rw e refl

front_at : (c : ℕ) (s : List ℕ) → is_blank c ≡ false → trim_front (c ∷ s) ≡ c ∷ s
front_at c s e = rw e refl

ends_by : (b : Bool) (c : ℕ) (t : List ℕ) → is_blank c ≡ b → trim_end (trim_front t) ≡ trim_front (trim_end t) → trim_end (cond b (trim_front t) (c ∷ t)) ≡ trim_front (before_trimmed c (trim_end t))
ends_by b c t e h = grind (arith, front_past, kept_first, front_at)

-- the blanks at the front and at the end go in either order
pub either_way : (t : List ℕ) → trim t ≡ trim_front (trim_end t)
either_way [] = refl
either_way (c ∷ t) = ends_by (is_blank c) c t refl (either_way t)

-- ---- fields

-- pieces that are not empty
abbrev pub filled : List (List ℕ) → List (List ℕ)
filled ps = filter (λ p. not (is_empty p)) ps

-- the fields of what follows a word
abbrev pub later_fields : Option (List ℕ) → List (List ℕ)
later_fields None = []
later_fields (Some t) = fields t

-- a word before fields
abbrev pub with_word : List ℕ → List (List ℕ) → List (List ℕ)
with_word w ts = cond (is_empty w) ts (w ∷ ts)

fields_cut : (p : List ℕ × Option (List ℕ)) → filled (pieces_cut is_blank p) ≡ with_word p.0 (later_fields p.1)
fields_cut p = grind arith

-- the fields of a text are its first word and those after it
pub fields_at : (t : List ℕ) → fields t ≡ with_word (first_cut is_blank t).0 (later_fields (first_cut is_blank t).1)
fields_at t = ap filled (pieces_at is_blank t) ∙ fields_cut (first_cut is_blank t)

-- a blank at the front
pub fields_blank : (c : ℕ) (t : List ℕ) → is_blank c ≡ true → fields (c ∷ t) ≡ fields t
fields_blank c t e = rw e refl

front_fields_by : (b : Bool) (c : ℕ) (t : List ℕ) → is_blank c ≡ b → fields (trim_front t) ≡ fields t → fields (cond b (trim_front t) (c ∷ t)) ≡ fields (c ∷ t)
front_fields_by true c t e h = h ∙ sym (fields_blank c t e)
front_fields_by false c t e h = refl

-- the blanks in front of a text change no field
pub fields_front : (t : List ℕ) → fields (trim_front t) ≡ fields t
fields_front [] = refl
fields_front (c ∷ t) = front_fields_by (is_blank c) c t refl (fields_front t)

-- ---- the first word

-- whether a text begins with a blank
abbrev begins_blank : List ℕ → Bool
begins_blank [] = false
begins_blank (c ∷ t) = is_blank c

front_begins_by : (b : Bool) (c : ℕ) (t : List ℕ) → is_blank c ≡ b → begins_blank (trim_front t) ≡ false → begins_blank (cond b (trim_front t) (c ∷ t)) ≡ false
front_begins_by true c t e h = h
front_begins_by false c t e h = e

front_begins : (t : List ℕ) → begins_blank (trim_front t) ≡ false
front_begins [] = refl
front_begins (c ∷ t) = front_begins_by (is_blank c) c t refl (front_begins t)

-- a text that begins with no blank has a first word, unless it is empty
no_word : (t : List ℕ) (p : List ℕ × Option (List ℕ)) → Cuts is_blank t p → begins_blank t ≡ false → is_empty p.0 ≡ true → (p ≡ ([], None)) × (t ≡ [])
no_word t p h b e = grind arith

-- a text whose first word is empty has blanks alone
pub no_first_word : (t : List ℕ) → is_empty (first_cut is_blank (trim_front t)).0 ≡ true → (first_cut is_blank (trim_front t) ≡ ([], None)) × (trim_front t ≡ [])
no_first_word t e = no_word (trim_front t) (first_cut is_blank (trim_front t)) (cuts is_blank (trim_front t)) (front_begins t) e

-- what follows the first word: nothing, or a blank and a text
abbrev pub Follows : List ℕ → Option (List ℕ) → Type 0
Follows after None = after ≡ []
Follows after (Some r) = (b : ℕ) × (is_blank b ≡ true) × (after ≡ b ∷ r)

follows_by : (t : List ℕ) (p : List ℕ × Option (List ℕ)) → Cuts is_blank t p → Follows (drop (length p.0) t) p.1
follows_by t (w, None) h = ap (drop (length w)) h ∙ drop-length w
follows_by t (w, Some r) h = (h.0, h.1, ap (drop (length w)) h.2 ∙ drop-append_seam w (h.0 ∷ r))

-- what follows the first word is nothing, or a blank and a text
pub follows : (t : List ℕ) → Follows (after_word t) (first_cut is_blank (trim_front t)).1
follows t = follows_by (trim_front t) (first_cut is_blank (trim_front t)) (cuts is_blank (trim_front t))

follow_fields_by : (after : List ℕ) (o : Option (List ℕ)) → Follows after o → fields after ≡ later_fields o
follow_fields_by after None h = ap fields h
follow_fields_by after (Some r) h = ap fields h.2 ∙ fields_blank h.0 r h.1

-- the fields of what follows the first word
pub follow_fields : (t : List ℕ) → fields (after_word t) ≡ later_fields (first_cut is_blank (trim_front t)).1
follow_fields t = follow_fields_by (after_word t) (first_cut is_blank (trim_front t)).1 (follows t)

-- ---- the fields of a trimmed text

some_fields : (s : List ℕ) → later_fields (some_text s) ≡ fields s
some_fields [] = refl
some_fields (c ∷ s) = refl

cut_fields : (q : List ℕ × Option (List ℕ)) → ((r : List ℕ) → q.1 ≡ Some r → fields (trim_end r) ≡ fields r) → with_word (trimmed_cut q).0 (later_fields (trimmed_cut q).1) ≡ with_word q.0 (later_fields q.1)
cut_fields (w, None) f = refl
cut_fields (w, Some r) f = ap (with_word w) (some_fields (trim_end r) ∙ f r refl)

end_fields_within : (n : ℕ) (t : List ℕ) → length t ≤ n → fields (trim_end t) ≡ fields t
end_fields_within zero [] h = refl
end_fields_within zero (c ∷ t) h = absurd (omega (arith, h))
end_fields_within (suc n) t h =
    fields_at (trim_end t) ∙ ap (λ (p : List ℕ × Option (List ℕ)). with_word p.0 (later_fields p.1)) (cut_trimmed t)
    ∙ cut_fields (first_cut is_blank t) (λ r e. end_fields_within n r (omega (arith, h, cut_shorter is_blank t r e))) ∙ sym (fields_at t)

-- the blanks around a text change no field
pub fields_trimmed : (t : List ℕ) → fields (trim t) ≡ fields t
fields_trimmed t = end_fields_within (length (trim_front t)) (trim_front t) (omega arith) ∙ fields_front t

-- ---- a text of one field

first_field : (c : ℕ) (ps : List (List ℕ)) → (p : List ℕ) × (qs : List (List ℕ)) × (ps ≡ p ∷ qs) → filled (pieces_with_character false c ps) ≡ [] → ⊥
first_field c ps h e = let k : (c ∷ h.0) ∷ filled h.1 ≡ [] = sym (ap (λ ps. filled (pieces_with_character false c ps)) h.2) ∙ e in absurd (cc k)

no_fields_by : (b : Bool) (c : ℕ) (t : List ℕ) → is_blank c ≡ b → (fields t ≡ [] → trim_end t ≡ []) → filled (pieces_with_character b c (pieces is_blank t)) ≡ [] → before_trimmed c (trim_end t) ≡ []
no_fields_by true c t e f h = let k : before_trimmed c [] ≡ [] = rw e refl in ap (before_trimmed c) (f h) ∙ k
no_fields_by false c t e f h = absurd (first_field c (pieces is_blank t) (some_pieces is_blank t) h)

-- a text without fields has blanks alone
no_fields : (t : List ℕ) → fields t ≡ [] → trim_end t ≡ []
no_fields [] h = refl
no_fields (c ∷ t) h = no_fields_by (is_blank c) c t refl (no_fields t) h

-- a text whose only field is its first word has no other
one_cut : (t : List ℕ) (p : List ℕ × Option (List ℕ)) → (is_empty p.0 ≡ true → p ≡ ([], None)) → with_word p.0 (later_fields p.1) ≡ t ∷ [] → trimmed_cut p ≡ (t, None)
one_cut t p g h = grind (arith, no_fields)

-- the fields of a text, by its first word
pub fields_by : (t : List ℕ) → fields t ≡ with_word (first_cut is_blank (trim_front t)).0 (later_fields (first_cut is_blank (trim_front t)).1)
fields_by t = sym (fields_front t) ∙ fields_at (trim_front t)

-- a text of one field is it, without the blanks around it
pub one_field : (x t : List ℕ) → fields x ≡ t ∷ [] → trim x ≡ t
one_field x t h =
    let k = one_cut t (first_cut is_blank (trim_front x)) (λ e. (no_first_word x e).0) (sym (fields_by x) ∙ h) in
    subst (Cuts is_blank (trim x)) (cut_trimmed (trim_front x) ∙ k) (cuts is_blank (trim x))

word_before : (w : List ℕ) (fs : List (List ℕ)) (p : List ℕ × Option (List ℕ)) → (is_empty p.0 ≡ true → p ≡ ([], None)) → with_word p.0 (later_fields p.1) ≡ w ∷ fs → later_fields p.1 ≡ fs
word_before w fs p g h = grind arith

-- what follows the first word has the other fields
pub other_fields : (t w : List ℕ) (fs : List (List ℕ)) → fields t ≡ w ∷ fs → fields (trim (after_word t)) ≡ fs
other_fields t w fs h =
    fields_trimmed (after_word t) ∙ follow_fields t ∙ word_before w fs (first_cut is_blank (trim_front t)) (λ e. (no_first_word t e).0) (sym (fields_by t) ∙ h)

-- a text of one field is that field without its blanks
pub one_trimmed : (x t : List ℕ) → fields (trim x) ≡ t ∷ [] → trim x ≡ t
one_trimmed x t h = one_field x t (sym (fields_trimmed x) ∙ h)
