-- Texts without separators, and lines that are composed of them.
use Rattle.std.proofs.Common.{◌≡◌, ℕ, Bool, true, false, List, [], ◌∷◌, ◌++◌, append-nil, map, Option, Some, None, Ok, arith, refl, ap, ◌∙◌}
use Rattle.std.specs.Prelude.{◌==◌, ◌&&◌, not, nat_lt, nat_le}
use Rattle.model_text.specs.model_device.specs.Bytes.{lookup}
use Rattle.model_text.specs.Text.{first_cut, pieces, is_blank, is_empty, trim, trim_front, trim_end, before_trimmed, every}
use Rattle.model_text.specs.Assembly.{WordForm, CodeItem, words, item_of_word, operands, word_and_operands, line_read}
use Rattle.std.proofs.lemmas.Bool.{and_from as and_both, not-true}
use Rattle.model_text.specs.model_device.proofs.BoolLemmas.{and_first, and_second}
use Rattle.model_text.proofs.TextLemmas.{every_append}

-- a character of an operand: above the blank, and no comma, colon or semicolon
abbrev pub solid : ℕ → Bool
solid c = nat_lt 32 c && (not (c == 44) && (not (c == 58) && not (c == 59)))

-- a character of a listing's line: a blank or above, and no colon or semicolon
abbrev pub written : ℕ → Bool
written c = nat_le 32 c && (not (c == 58) && not (c == 59))

pub every_as : (p q : ℕ → Bool) (t : List ℕ) → ((c : ℕ) → p c ≡ true → q c ≡ true) → every p t ≡ true → every q t ≡ true
every_as p q [] h e = refl
every_as p q (c ∷ t) h e = and_both (q c) (every q t) (h c (and_first (p c) (every p t) e)) (every_as p q t h (and_second (p c) (every p t) e))

pub cut_none : (f : ℕ → Bool) (t : List ℕ) → every (λ c. not (f c)) t ≡ true → first_cut f t ≡ (t, None)
cut_none f [] e = refl
cut_none f (c ∷ t) e =
    let n : f c ≡ false = not-true (f c) (and_first (not (f c)) (every (λ c. not (f c)) t) e) in
    rw (n, cut_none f t (and_second (not (f c)) (every (λ c. not (f c)) t) e)) refl

pub cut_there : (f : ℕ → Bool) (s : List ℕ) (c : ℕ) (t : List ℕ) → every (λ c. not (f c)) s ≡ true → f c ≡ true → first_cut f (s ++ c ∷ t) ≡ (s, Some t)
cut_there f [] c t e h = rw h refl
cut_there f (d ∷ s) c t e h =
    let n : f d ≡ false = not-true (f d) (and_first (not (f d)) (every (λ c. not (f c)) s) e) in
    rw (n, cut_there f s c t (and_second (not (f d)) (every (λ c. not (f c)) s) e) h) refl

pub pieces_none : (f : ℕ → Bool) (t : List ℕ) → every (λ c. not (f c)) t ≡ true → pieces f t ≡ t ∷ []
pieces_none f [] e = refl
pieces_none f (c ∷ t) e =
    let n : f c ≡ false = not-true (f c) (and_first (not (f c)) (every (λ c. not (f c)) t) e) in
    rw (n, pieces_none f t (and_second (not (f c)) (every (λ c. not (f c)) t) e)) refl

pub pieces_there : (f : ℕ → Bool) (s : List ℕ) (c : ℕ) (t : List ℕ) → every (λ c. not (f c)) s ≡ true → f c ≡ true → pieces f (s ++ c ∷ t) ≡ s ∷ pieces f t
pieces_there f [] c t e h = rw h refl
pieces_there f (d ∷ s) c t e h =
    let n : f d ≡ false = not-true (f d) (and_first (not (f d)) (every (λ c. not (f c)) s) e) in
    rw (n, pieces_there f s c t (and_second (not (f d)) (every (λ c. not (f c)) s) e) h) refl

-- ---- solid characters are no separators

no_blank : (c : ℕ) → solid c ≡ true → not (is_blank c) ≡ true
no_blank c h = grind (arith, h)

no_comma : (c : ℕ) → solid c ≡ true → not (c == 44) ≡ true
no_comma c h = and_first (not (c == 44)) (not (c == 58) && not (c == 59)) (and_second (nat_lt 32 c) (not (c == 44) && (not (c == 58) && not (c == 59))) h)

solid_written : (c : ℕ) → solid c ≡ true → written c ≡ true
solid_written c h = grind (arith, h)

no_colon : (c : ℕ) → written c ≡ true → not (c == 58) ≡ true
no_colon c h = and_first (not (c == 58)) (not (c == 59)) (and_second (nat_le 32 c) (not (c == 58) && not (c == 59)) h)

no_semicolon : (c : ℕ) → written c ≡ true → not (c == 59) ≡ true
no_semicolon c h = and_second (not (c == 58)) (not (c == 59)) (and_second (nat_le 32 c) (not (c == 58) && not (c == 59)) h)

-- ---- trimmed texts

trim_solid : (c : ℕ) (t : List ℕ) → not (is_blank c) ≡ true → trim_front (c ∷ t) ≡ c ∷ t
trim_solid c t h = rw (not-true (is_blank c) h) refl

end_one : (c : ℕ) (t : List ℕ) → not (is_blank c) ≡ true → before_trimmed c t ≡ c ∷ t
end_one c [] h = rw (not-true (is_blank c) h) refl
end_one c (d ∷ t) h = refl

-- a text of solid characters is not trimmed at its end
pub end_solid : (t : List ℕ) → every solid t ≡ true → trim_end t ≡ t
end_solid [] e = refl
end_solid (c ∷ t) e =
    ap (before_trimmed c) (end_solid t (and_second (solid c) (every solid t) e)) ∙ end_one c t (no_blank c (and_first (solid c) (every solid t) e))

pub end_behind : (s t : List ℕ) → is_empty t ≡ false → trim_end t ≡ t → trim_end (s ++ t) ≡ s ++ t
end_behind [] t n e = e
end_behind (c ∷ []) [] n e = absurd (cc n)
end_behind (c ∷ []) (d ∷ t) n e = ap (before_trimmed c) e
end_behind (c ∷ d ∷ s) t n e = ap (before_trimmed c) (end_behind (d ∷ s) t n e)

-- an operand: solid characters, and at least one
pub record Solid (t : List ℕ) : Type 0 where
  pub some : is_empty t ≡ false
  pub all : every solid t ≡ true

pub solid_trimmed : (t : List ℕ) → Solid t → trim t ≡ t
solid_trimmed [] s = absurd (cc s.some)
solid_trimmed (c ∷ t) s = ap trim_end (trim_solid c t (no_blank c (and_first (solid c) (every solid t) s.all))) ∙ end_solid (c ∷ t) s.all

-- ---- operands between commas

unfoldable pub joined : List (List ℕ) → List ℕ
joined [] = []
joined (a ∷ []) = a
joined (a ∷ b ∷ ts) = a ++ 44 ∷ joined (b ∷ ts)

abbrev pub AllSolid : List (List ℕ) → Type 0
AllSolid [] = Unit {0}
AllSolid (a ∷ ts) = Solid a × AllSolid ts

joined_some : (a : List ℕ) (ts : List (List ℕ)) → Solid a → is_empty (joined (a ∷ ts)) ≡ false
unfolding joined
joined_some a [] s = s.some
joined_some [] (b ∷ ts) s = absurd (cc s.some)
joined_some (c ∷ a) (b ∷ ts) s = refl

joined_written : (ts : List (List ℕ)) → AllSolid ts → every written (joined ts) ≡ true
unfolding joined
joined_written [] s = refl
joined_written (a ∷ []) s = every_as solid written a solid_written s.0.all
joined_written (a ∷ b ∷ ts) s = every_append written a (44 ∷ joined (b ∷ ts)) (every_as solid written a solid_written s.0.all) (joined_written (b ∷ ts) s.1)

joined_end : (ts : List (List ℕ)) → AllSolid ts → trim_end (joined ts) ≡ joined ts
unfolding joined
joined_end [] s = refl
joined_end (a ∷ []) s = end_solid a s.0.all
joined_end (a ∷ b ∷ ts) s =
    end_behind a (44 ∷ joined (b ∷ ts)) refl (end_behind (44 ∷ []) (joined (b ∷ ts)) (joined_some b ts s.1.0) (joined_end (b ∷ ts) s.1))

joined_pieces : (a : List ℕ) (ts : List (List ℕ)) → AllSolid (a ∷ ts) → map trim (pieces (λ c. c == 44) (joined (a ∷ ts))) ≡ a ∷ ts
unfolding joined
joined_pieces a [] s = ap (map trim) (pieces_none (λ c. c == 44) a (every_as solid (λ c. not (c == 44)) a no_comma s.0.all)) ∙ ap (λ x. x ∷ []) (solid_trimmed a s.0)
joined_pieces a (b ∷ ts) s =
    ap (map trim) (pieces_there (λ c. c == 44) a 44 (joined (b ∷ ts)) (every_as solid (λ c. not (c == 44)) a no_comma s.0.all) refl)
    ∙ ap (λ x. x ∷ map trim (pieces (λ c. c == 44) (joined (b ∷ ts)))) (solid_trimmed a s.0)
    ∙ ap (λ x. a ∷ x) (joined_pieces b ts s.1)

-- ---- a line of a word and its operands

-- the text after the word of a line with these operands
unfoldable pub behind_word : List (List ℕ) → List ℕ
behind_word [] = []
behind_word (a ∷ ts) = 32 ∷ joined (a ∷ ts)

behind_written : (ts : List (List ℕ)) → AllSolid ts → every written (behind_word ts) ≡ true
unfolding behind_word
behind_written [] s = refl
behind_written (a ∷ ts) s = joined_written (a ∷ ts) s

pub word_written : (name : List ℕ) (ts : List (List ℕ)) → Solid name → AllSolid ts → every written (name ++ behind_word ts) ≡ true
word_written name ts n s = every_append written name (behind_word ts) (every_as solid written name solid_written n.all) (behind_written ts s)

word_end : (name : List ℕ) (ts : List (List ℕ)) → Solid name → AllSolid ts → trim_end (name ++ behind_word ts) ≡ name ++ behind_word ts
unfolding behind_word
word_end name [] n s = rw (append-nil name) (end_solid name n.all)
word_end name (a ∷ ts) n s = end_behind name (32 ∷ joined (a ∷ ts)) refl (end_behind (32 ∷ []) (joined (a ∷ ts)) (joined_some a ts s.0) (joined_end (a ∷ ts) s))

word_front : (name t : List ℕ) → Solid name → trim_front (name ++ t) ≡ name ++ t
word_front [] t n = absurd (cc n.some)
word_front (c ∷ name) t n = trim_solid c (name ++ t) (no_blank c (and_first (solid c) (every solid name) n.all))

word_trimmed : (name : List ℕ) (ts : List (List ℕ)) → Solid name → AllSolid ts → trim (name ++ behind_word ts) ≡ name ++ behind_word ts
word_trimmed name ts n s = ap trim_end (word_front name (behind_word ts) n) ∙ word_end name ts n s

-- the text of the operands after the word, which the first cut of the line yields
unfoldable pub operand_text : List (List ℕ) → Option (List ℕ)
operand_text [] = None
operand_text (a ∷ ts) = Some (joined (a ∷ ts))

word_cut : (name : List ℕ) (ts : List (List ℕ)) → Solid name → first_cut is_blank (name ++ behind_word ts) ≡ (name, operand_text ts)
unfolding behind_word operand_text
word_cut name [] n = rw (append-nil name) (cut_none is_blank name (every_as solid (λ c. not (is_blank c)) name no_blank n.all))
word_cut name (a ∷ ts) n = cut_there is_blank name 32 (joined (a ∷ ts)) (every_as solid (λ c. not (is_blank c)) name no_blank n.all) refl

operands_of : (ts : List (List ℕ)) → AllSolid ts → operands (operand_text ts) ≡ ts
unfolding operand_text
operands_of [] s = refl
operands_of (a ∷ ts) s = joined_pieces a ts s

found_word : (name : List ℕ) (ts : List (List ℕ)) (f : WordForm) → Solid name → AllSolid ts → lookup words name ≡ Some f → word_and_operands (name, operand_text ts) ≡ item_of_word f ts
found_word name ts f n s e = rw (n.some, e, operands_of ts s) refl

-- a line of a word and its operands is read as the item of that word and these operands
pub line_is_read : (name : List ℕ) (ts : List (List ℕ)) (f : WordForm) (i : CodeItem) → Solid name → AllSolid ts → lookup words name ≡ Some f → item_of_word f ts ≡ Ok i
    → line_read (name ++ behind_word ts) ≡ Ok (record { label = None; item = i })
unfolding line_read
line_is_read name ts f i n s e h =
    let w = word_written name ts n s in
    let no_label = cut_none (λ c. c == 58) (name ++ behind_word ts) (every_as written (λ c. not (c == 58)) (name ++ behind_word ts) no_colon w) in
    let no_comment = cut_none (λ c. c == 59) (name ++ behind_word ts) (every_as written (λ c. not (c == 59)) (name ++ behind_word ts) no_semicolon w) in
    rw (no_comment, no_label, word_trimmed name ts n s, word_cut name ts n, found_word name ts f n s e, h) refl
