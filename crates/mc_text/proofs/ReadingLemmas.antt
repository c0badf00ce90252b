-- Texts that are read: numbers digit by digit, cuts, blanks at the end, pieces and lines.
use Rattle.std.proofs.Common.{◌≡◌, ℕ, suc, ◌+◌, ◌*◌, ◌-◌, ◌<◌, ◌≤◌, Bool, true, false, cond, List, [], ◌∷◌, ◌++◌, length, take, Option, Some, None, arith, refl, sym, ap, ◌∙◌}
use Rattle.std.specs.Prelude.{map, nat_le, nat_lt, option_map, position, slice_index, ◌==◌}
use Rattle.std.specs.List.{position_or_len}
use Rattle.model_text.specs.Text.{before_trimmed, pieces_with_character, halves_with_character, digits_onto, every, first_cut, is_blank, is_digit, lines, no_last_empty, pieces, trim_end, without_returns}
use Rattle.mc_text.specs.Reading.{capped_number, decimal_behind, halves_at, without_return, line_cut, next_line}

-- ---- numbers

capped_low : (n : ℕ) → n ≤ 4294967296 → capped_number n ≡ n
capped_low n h = grind (arith, h)

capped_high : (n : ℕ) → 4294967296 ≤ n → capped_number n ≡ 4294967296
capped_high n h = grind (arith, h)

pub capped_bound : (n : ℕ) → capped_number n ≤ 4294967296
capped_bound n = grind arith

pub capped_is : (n m : ℕ) → m ≡ capped_number n → m ≤ 4294967296
capped_is n m h = rw h (capped_bound n)

capped_again_by : (n d : ℕ) (b : Bool) → nat_le n 4294967296 ≡ b → capped_number (capped_number n * 10 + d) ≡ capped_number (n * 10 + d)
capped_again_by n d true e = rw e refl
capped_again_by n d false e =
    rw e (capped_high (4294967296 * 10 + d) (omega arith) ∙ sym (capped_high (n * 10 + d) (grind (arith, e))))

capped_again : (n d : ℕ) → capped_number (capped_number n * 10 + d) ≡ capped_number (n * 10 + d)
capped_again n d = capped_again_by n d (nat_le n 4294967296) refl

-- appending digits to a number, capped or not, yields the same capped number
capped_digits : (ds : List ℕ) (m n : ℕ) → capped_number m ≡ capped_number n → capped_number (digits_onto 10 m ds) ≡ capped_number (digits_onto 10 n ds)
capped_digits [] m n h = h
capped_digits (d ∷ ds) m n h = capped_digits ds (m * 10 + d) (n * 10 + d) (sym (capped_again m d) ∙ ap (λ k. capped_number (k * 10 + d)) h ∙ capped_again n d)

decimal_step_by : (b : Bool) (n d : ℕ) (t : List ℕ) → every is_digit t ≡ b → is_digit d ≡ true → option_map capped_number (decimal_behind (capped_number (n * 10 + (d - 48))) t) ≡ option_map capped_number (decimal_behind n (d ∷ t))
decimal_step_by true n d t e h = rw (h, e) (ap Some (capped_digits (map (λ c. c - 48) t) (capped_number (n * 10 + (d - 48))) (n * 10 + (d - 48)) (capped_low (capped_number (n * 10 + (d - 48))) (capped_bound (n * 10 + (d - 48))))))
decimal_step_by false n d t e h = rw (h, e) refl

-- one more decimal digit
pub decimal_step : (n d : ℕ) (t : List ℕ) → is_digit d ≡ true → option_map capped_number (decimal_behind (capped_number (n * 10 + (d - 48))) t) ≡ option_map capped_number (decimal_behind n (d ∷ t))
decimal_step n d t h = decimal_step_by (every is_digit t) n d t refl h

-- ---- the first cut

-- the cut at the index n if b, and else no cut
abbrev cut_before : List ℕ → ℕ → Bool → List ℕ × Option (List ℕ)
cut_before t n b = halves_at t (cond b (Some n) None)

one_later : (c : ℕ) (t : List ℕ) (n : ℕ) (b : Bool) → halves_with_character false c t (cut_before t n b) ≡ cut_before (c ∷ t) (suc n) b
one_later c t n true = refl
one_later c t n false = refl

one_plus : (n : ℕ) → 1 + n ≡ suc n
one_plus n = omega arith

below_suc : (n : ℕ) (t : List ℕ) (b : Bool) → nat_lt n (length t) ≡ b → nat_lt (suc n) (suc (length t)) ≡ b
below_suc n t true e = grind (arith, e)
below_suc n t false e = grind (arith, e)

below_zero : (t : List ℕ) → nat_lt 0 (suc (length t)) ≡ true
below_zero t = grind arith

first_cut_from : (f : ℕ → Bool) (c : ℕ) (t : List ℕ) (b : Bool) → f c ≡ b → first_cut f t ≡ cut_before t (position_or_len f t) (nat_lt (position_or_len f t) (length t)) → first_cut f (c ∷ t) ≡ cut_before (c ∷ t) (position_or_len f (c ∷ t)) (nat_lt (position_or_len f (c ∷ t)) (suc (length t)))
first_cut_from f c t true e h = rw (e, below_zero t) refl
first_cut_from f c t false e h =
    let m = position_or_len f t in
    rw (e, one_plus m) (ap (halves_with_character false c t) h ∙ one_later c t m (nat_lt m (length t)) ∙ ap (cut_before (c ∷ t) (suc m)) (sym (below_suc m t (nat_lt m (length t)) refl)))

-- the first cut is at the first character that satisfies the test
pub first_cut_at : (f : ℕ → Bool) (t : List ℕ) → first_cut f t ≡ halves_at t (position f t)
first_cut_at f [] = refl
first_cut_at f (c ∷ t) = first_cut_from f c t (f c) refl (first_cut_at f t)

-- ---- trailing blanks

front_kept : (f : List ℕ) (c d : ℕ) (t : List ℕ) → trim_end f ≡ d ∷ t → trim_end (c ∷ f) ≡ c ∷ d ∷ t
front_kept f c d t e = rw e refl

-- a trailing blank is trimmed
pub end_falls : (f : List ℕ) (l : ℕ) → is_blank l ≡ true → trim_end (f ++ l ∷ []) ≡ trim_end f
end_falls [] l e = rw e refl
end_falls (c ∷ f) l e = ap (before_trimmed c) (end_falls f l e)

kept_before : (c : ℕ) (f : List ℕ) (l : ℕ) → before_trimmed c (f ++ l ∷ []) ≡ c ∷ (f ++ l ∷ [])
kept_before c [] l = refl
kept_before c (d ∷ f) l = refl

-- any other character at the end is kept
pub end_stays : (f : List ℕ) (l : ℕ) → is_blank l ≡ false → trim_end (f ++ l ∷ []) ≡ f ++ l ∷ []
end_stays [] l e = rw e refl
end_stays (c ∷ f) l e = ap (before_trimmed c) (end_stays f l e) ∙ kept_before c f l

last_of : (l : List ℕ) → 0 < length l → take (length l - 1) l ++ slice_index l (length l - 1) ∷ [] ≡ l
last_of [] h = absurd (omega (arith, h))
last_of (c ∷ []) h = refl
last_of (c ∷ d ∷ l) h =
    let e : length (c ∷ d ∷ l) - 1 ≡ suc (length (d ∷ l) - 1) = omega arith in
    rw e (ap (λ t. c ∷ t) (last_of (d ∷ l) (omega arith)))

-- trimming, if the last character is a blank
pub trim_end_falls : (l : List ℕ) → 0 < length l → is_blank (slice_index l (length l - 1)) ≡ true → trim_end (take (length l - 1) l) ≡ trim_end l
trim_end_falls l h e = sym (end_falls (take (length l - 1) l) (slice_index l (length l - 1)) e) ∙ ap trim_end (last_of l h)

pub trim_end_stays : (l : List ℕ) → 0 < length l → is_blank (slice_index l (length l - 1)) ≡ false → trim_end l ≡ l
trim_end_stays l h e = ap trim_end (sym (last_of l h)) ∙ end_stays (take (length l - 1) l) (slice_index l (length l - 1)) e ∙ last_of l h

-- ---- pieces

-- the pieces of a text, from its first cut
abbrev pub pieces_cut : (ℕ → Bool) → List ℕ × Option (List ℕ) → List (List ℕ)
pieces_cut f (a, None) = a ∷ []
pieces_cut f (a, Some rest) = a ∷ pieces f rest

kept_piece : (f : ℕ → Bool) (c : ℕ) (t : List ℕ) (p : List ℕ × Option (List ℕ)) → pieces_with_character false c (pieces_cut f p) ≡ pieces_cut f (halves_with_character false c t p)
kept_piece f c t (a, None) = refl
kept_piece f c t (a, Some rest) = refl

pieces_from : (f : ℕ → Bool) (c : ℕ) (t : List ℕ) (b : Bool) → pieces f t ≡ pieces_cut f (first_cut f t) → pieces_with_character b c (pieces f t) ≡ pieces_cut f (halves_with_character b c t (first_cut f t))
pieces_from f c t true h = refl
pieces_from f c t false h = ap (pieces_with_character false c) h ∙ kept_piece f c t (first_cut f t)

pub pieces_at : (f : ℕ → Bool) (t : List ℕ) → pieces f t ≡ pieces_cut f (first_cut f t)
pieces_at f [] = refl
pieces_at f (c ∷ t) = pieces_from f c t (f c) (pieces_at f t)

-- ---- lines

-- the pieces of a text at its line feeds, without the carriage returns before them, from the cut at its first line feed
abbrev pub returned : List ℕ × Option (List ℕ) → List (List ℕ)
returned (l, None) = l ∷ []
returned (l, Some rest) = without_return l ∷ pieces (λ c. c == 10) (without_returns rest)

abbrev line_pieces : List ℕ → List (List ℕ)
line_pieces t = pieces (λ c. c == 10) (without_returns t)

abbrev feed_cut : List ℕ → List ℕ × Option (List ℕ)
feed_cut t = first_cut (λ c. c == 10) t

cons_cond : (b : Bool) (c : ℕ) (x y : List ℕ) → cond b (c ∷ x) (c ∷ y) ≡ c ∷ cond b x y
cons_cond true c x y = refl
cons_cond false c x y = refl

one_less : (n : ℕ) → suc n - 1 ≡ n
one_less n = omega arith

return_kept : (c d : ℕ) (l : List ℕ) → without_return (c ∷ d ∷ l) ≡ c ∷ without_return (d ∷ l)
return_kept c d l = rw (one_less (suc (length l)), one_less (length l)) (cons_cond (slice_index (d ∷ l) (length l) == 13) c (take (length l) (d ∷ l)) (d ∷ l))

-- a character is part of the line after it if that line is not empty, or if the character is no carriage return
kept_behind : (c d : ℕ) (p : List ℕ × Option (List ℕ)) → pieces_with_character false c (returned (d ∷ p.0, p.1)) ≡ returned (c ∷ d ∷ p.0, p.1)
kept_behind c d (l, None) = refl
kept_behind c d (l, Some rest) = ap (λ x. x ∷ line_pieces rest) (sym (return_kept c d l))

kept_line : (c : ℕ) (p : List ℕ × Option (List ℕ)) → (c == 13) ≡ false → pieces_with_character false c (returned p) ≡ returned (c ∷ p.0, p.1)
kept_line c (l, None) e = refl
kept_line c ([], Some rest) e = rw e refl
kept_line c (d ∷ l, Some rest) e = kept_behind c d (l, Some rest)

no_return : (c : ℕ) → (c == 10) ≡ true → (c == 13) ≡ false
no_return c e = grind (arith, e)

line_from_return : (c d : ℕ) (t : List ℕ) (s : Bool) → (c == 10) ≡ false → (c == 13) ≡ true → (d == 10) ≡ s → line_pieces (d ∷ t) ≡ returned (feed_cut (d ∷ t)) → line_pieces (c ∷ d ∷ t) ≡ returned (feed_cut (c ∷ d ∷ t))
line_from_return c d t true e r s h = rw (r, s, e) (rw r (h ∙ rw s refl))
line_from_return c d t false e r s h = rw (r, s, e) (ap (pieces_with_character false c) h ∙ rw s (kept_behind c d (feed_cut t)))

line_behind_return : (c : ℕ) (t : List ℕ) → (c == 10) ≡ false → (c == 13) ≡ true → line_pieces t ≡ returned (feed_cut t) → line_pieces (c ∷ t) ≡ returned (feed_cut (c ∷ t))
line_behind_return c [] e r h = rw (r, e) refl
line_behind_return c (d ∷ t) e r h = line_from_return c d t (d == 10) e r refl h

line_behind : (c : ℕ) (t : List ℕ) (r : Bool) → (c == 10) ≡ false → (c == 13) ≡ r → line_pieces t ≡ returned (feed_cut t) → line_pieces (c ∷ t) ≡ returned (feed_cut (c ∷ t))
line_behind c t true e r h = line_behind_return c t e r h
line_behind c t false e r h = rw (r, e) (ap (pieces_with_character false c) h ∙ kept_line c (feed_cut t) r)

line_from : (c : ℕ) (t : List ℕ) (b : Bool) → (c == 10) ≡ b → line_pieces t ≡ returned (feed_cut t) → line_pieces (c ∷ t) ≡ returned (feed_cut (c ∷ t))
line_from c t true e h = rw (no_return c e, e) refl
line_from c t false e h = line_behind c t (c == 13) e refl h

line_pieces_at : (t : List ℕ) → line_pieces t ≡ returned (feed_cut t)
line_pieces_at [] = refl
line_pieces_at (c ∷ t) = line_from c t (c == 10) refl (line_pieces_at t)

-- a first line and the lines after it
abbrev pub lines_from : Option (List ℕ × List ℕ) → List (List ℕ)
lines_from None = []
lines_from (Some p) = p.0 ∷ lines p.1

more_pieces : (l : List ℕ) (f : ℕ → Bool) (p : List ℕ × Option (List ℕ)) → no_last_empty (l ∷ pieces_cut f p) ≡ l ∷ no_last_empty (pieces_cut f p)
more_pieces [] f (a, None) = refl
more_pieces [] f (a, Some rest) = refl
more_pieces (c ∷ l) f (a, None) = refl
more_pieces (c ∷ l) f (a, Some rest) = refl

no_last : (p : List ℕ × Option (List ℕ)) → no_last_empty (returned p) ≡ lines_from (line_cut p)
no_last ([], None) = refl
no_last (c ∷ l, None) = refl
no_last (l, Some rest) =
    let e = pieces_at (λ c. c == 10) (without_returns rest) in
    rw e (more_pieces (without_return l) (λ c. c == 10) (feed_cut (without_returns rest)))

-- the lines of a text are its first line and the lines of the text after it
pub lines_at : (t : List ℕ) → lines t ≡ lines_from (next_line t)
lines_at t = ap no_last_empty (line_pieces_at t) ∙ no_last (feed_cut t)
