-- The lengths of parts of a text.
use Rattle.std.specs.Prelude.{◌==◌}
use Rattle.desk_draft.specs.Parts.{first_word, after_word, without_comment}
use Rattle.std.proofs.Common.{◌≡◌, ℕ, zero, suc, ◌≤◌, Bool, true, false, cond, List, [], ◌∷◌, length, drop, arith}
use Rattle.mc_text.specs.model_text.specs.Text.{first_cut, halves_with_character, is_blank, trim, trim_end, trim_front, before_trimmed}

short_by : (b : Bool) (c : ℕ) (t : List ℕ) → length (trim_front t) ≤ length t → length (cond b (trim_front t) (c ∷ t)) ≤ suc (length t)
short_by true c t h = omega (arith, h)
short_by false c t h = omega arith

-- blanks at the front are no longer than the text
pub trim_front_short : (t : List ℕ) → length (trim_front t) ≤ length t
trim_front_short [] = omega arith
trim_front_short (c ∷ t) = short_by (is_blank c) c t (trim_front_short t)

end_by : (b : Bool) (c : ℕ) → length (cond b [] (c ∷ [])) ≤ 1
end_by true c = omega arith
end_by false c = omega arith

before_short : (c : ℕ) (t : List ℕ) → length (before_trimmed c t) ≤ suc (length t)
before_short c [] = end_by (is_blank c) c
before_short c (d ∷ t) = omega arith

-- a text without the blanks at its end is no longer
pub trim_end_short : (t : List ℕ) → length (trim_end t) ≤ length t
trim_end_short [] = omega arith
trim_end_short (c ∷ t) = omega (arith, before_short c (trim_end t), trim_end_short t)

-- the trimmed part of a text is no longer than the text from its first character on
pub trim_short : (t : List ℕ) → length (trim t) ≤ length (trim_front t)
trim_short t = trim_end_short (trim_front t)

cut_by : (f : ℕ → Bool) (b : Bool) (c : ℕ) (t : List ℕ) → length (first_cut f t).0 ≤ length t → length (halves_with_character b c t (first_cut f t)).0 ≤ suc (length t)
cut_by f true c t h = omega arith
cut_by f false c t h = omega (arith, h)

-- what stands before a cut is no longer than the text
pub cut_short : (f : ℕ → Bool) (t : List ℕ) → length (first_cut f t).0 ≤ length t
cut_short f [] = omega arith
cut_short f (c ∷ t) = cut_by f (f c) c t (cut_short f t)

-- ---- in the words of a body

pub begun_short : (t r b : List ℕ) → b ≡ trim_front r → length r ≤ length t → length b ≤ length t
begun_short t r b e h = rw e (omega (arith, h, trim_front_short r))

pub core_short : (r b c : List ℕ) → b ≡ trim_front r → c ≡ trim r → length c ≤ length b
core_short r b c e f = rw (e, f) (trim_short r)

pub word_short : (t w : List ℕ) → w ≡ first_word t → length w ≤ length t
word_short t w e = rw e (omega (arith, cut_short is_blank (trim_front t), trim_front_short t))

pub uncommented_short : (l w : List ℕ) → w ≡ without_comment l → length w ≤ length l
uncommented_short l w e = rw e (cut_short (λ c. c == 59) l)

drop_short : (n : ℕ) (t : List ℕ) → length (drop n t) ≤ length t
drop_short zero t = omega arith
drop_short (suc n) [] = omega arith
drop_short (suc n) (c ∷ t) = omega (arith, drop_short n t)

pub after_short : (t w : List ℕ) → w ≡ after_word t → length w ≤ length t
after_short t w e = rw e (omega (arith, drop_short (length (first_word t)) (trim_front t), trim_front_short t))

pub front_short : (t w : List ℕ) → w ≡ (first_cut is_blank t).0 → length w ≤ length t
front_short t w e = rw e (cut_short is_blank t)
