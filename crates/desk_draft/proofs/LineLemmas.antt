-- Lines of a draft: what ends them, their numbers, and whether a STATIC line after them gives bytes.
use Rattle.std.proofs.Common.{◌≡◌, ℕ, zero, suc, ◌+◌, ◌-◌, ◌<◌, Bool, List, [], ◌∷◌, ◌++◌, length, get_or, drop, set, Option, Some, None, refl, sym, ap, ◌∙◌, append_assoc, arith}
use Rattle.std.specs.Prelude.{map, not, slice_get, slice_index, ◌==◌, ◌&&◌, ◌||◌}
use Rattle.mc_text.specs.model_text.specs.Text.{fields, first_cut, with_numbers}
use Rattle.mc_text.specs.model_text.specs.Text.{is_end}
use Rattle.mc_text.proofs.ReadingLemmas.{pieces_at, pieces_cut}
use Rattle.desk_draft.specs.Parts.{EndedLine, ended_lines, ended_pieces, fed_line}
use Rattle.desk_draft.specs.Declarations.{declaration_in, gives, gives_later}
use Rattle.desk_draft.specs.declared.line.EndedLine.{EndedLine as CodeLine}
use Rattle.desk_draft.specs.Views.{ended_line_of, gives_later_each, line_texts, piece_line}

-- the lines of the text that is left
abbrev pub left_lines : Option (List ℕ) → List EndedLine
left_lines None = []
left_lines (Some t) = ended_lines t

fed_more : (a : List ℕ) (p : List ℕ × Option (List ℕ)) → ended_pieces (a ∷ pieces_cut (λ c. c == 10) p) ≡ fed_line a ∷ ended_pieces (pieces_cut (λ c. c == 10) p)
fed_more a (b, None) = refl
fed_more a (b, Some t) = refl

ended_cut : (p : List ℕ × Option (List ℕ)) → ended_pieces (pieces_cut (λ c. c == 10) p) ≡ piece_line p.0 p.1 ∷ left_lines p.1
ended_cut (a, None) = refl
ended_cut (a, Some t) =
    let e = pieces_at (λ c. c == 10) t in
    ap (λ ps. ended_pieces (a ∷ ps)) e ∙ fed_more a (first_cut (λ c. c == 10) t) ∙ ap (λ ps. fed_line a ∷ ended_pieces ps) (sym e)

ended_at : (t a : List ℕ) (b : Option (List ℕ)) → a ≡ (first_cut (λ c. c == 10) t).0 → b ≡ (first_cut (λ c. c == 10) t).1 → ended_lines t ≡ piece_line a b ∷ left_lines b
ended_at t a b e f = rw (e, f) (ap ended_pieces (pieces_at (λ c. c == 10) t) ∙ ended_cut (first_cut (λ c. c == 10) t))

-- one more line of the text that is left
pub line_more : (so new whole : List EndedLine) (t a : List ℕ) (b : Option (List ℕ)) → a ≡ (first_cut (λ c. c == 10) t).0 → b ≡ (first_cut (λ c. c == 10) t).1 → new ≡ so ++ piece_line a b ∷ [] → so ++ left_lines (Some t) ≡ whole
    → new ++ left_lines b ≡ whole
line_more so new whole t a b e f n w =
    ap (λ x. x ++ left_lines b) n ∙ append_assoc so (piece_line a b ∷ []) (left_lines b) ∙ ap (λ x. so ++ x) (sym (ended_at t a b e f)) ∙ w

last_drop : (p : List ℕ) → 0 < length p → drop (length p - 1) p ≡ slice_index p (length p - 1) ∷ []
last_drop [] h = absurd (omega (arith, h))
last_drop (c ∷ []) h = refl
last_drop (c ∷ d ∷ p) h =
    let e : length (c ∷ d ∷ p) - 1 ≡ suc (length (d ∷ p) - 1) = omega arith in
    rw e (last_drop (d ∷ p) (omega arith))

-- ---- numbers

-- the lines from an index on
pub numbers_at : {A : Type 0} (xs : List A) (n i : ℕ) → drop i (with_numbers n xs) ≡ with_numbers (n + i) (drop i xs)
numbers_at [] n zero = refl
numbers_at [] n (suc i) = refl
numbers_at (x ∷ xs) n zero = let e : n ≡ n + 0 = omega arith in ap (λ k. with_numbers k (x ∷ xs)) e
numbers_at (x ∷ xs) n (suc i) = let e : suc n + i ≡ n + suc i = omega arith in numbers_at xs (suc n) i ∙ ap (λ k. with_numbers k (drop i xs)) e

pub numbered_texts : (n : ℕ) (ls : List EndedLine) → map (λ (m : ℕ × EndedLine). (m.1).text) (with_numbers n ls) ≡ map (λ l. l.text) ls
numbered_texts n [] = refl
numbered_texts n (l ∷ ls) = ap (λ x. l.text ∷ x) (numbered_texts (suc n) ls)

numbered_from : (xs : List EndedLine) (n i : ℕ) (l : EndedLine) → slice_get xs i ≡ Some l → drop i (with_numbers n xs) ≡ (n + i, l) ∷ drop (suc i) (with_numbers n xs)
numbered_from [] n i l h = absurd (cc h)
numbered_from (x ∷ xs) n zero l h =
    let e : x ≡ l = cc h in
    let f : n ≡ n + 0 = omega arith in
    rw e (ap (λ k. (k, l) ∷ with_numbers (suc n) xs) f)
numbered_from (x ∷ xs) n (suc i) l h =
    let e : suc n + i ≡ n + suc i = omega arith in
    numbered_from xs (suc n) i l h ∙ ap (λ k. (k, l) ∷ drop (suc i) (with_numbers (suc n) xs)) e

-- the line at an index, and those after it
pub numbered_at : (xs : List EndedLine) (i n : ℕ) (l : EndedLine) → slice_get xs i ≡ Some l → n ≡ i + 1 → drop i (with_numbers 1 xs) ≡ (n, l) ∷ drop (i + 1) (with_numbers 1 xs)
numbered_at xs i n l h e =
    let f : 1 + i ≡ n = omega (arith, e) in
    let g : suc i ≡ i + 1 = omega arith in
    numbered_from xs 1 i l h ∙ ap (λ k. (k, l) ∷ drop (suc i) (with_numbers 1 xs)) f ∙ ap (λ k. (n, l) ∷ drop k (with_numbers 1 xs)) g

-- their texts
pub texts_from : (xs : List EndedLine) (n i : ℕ) → map (λ (m : ℕ × EndedLine). (m.1).text) (drop i (with_numbers n xs)) ≡ drop i (map (λ l. l.text) xs)
texts_from [] n zero = refl
texts_from [] n (suc i) = refl
texts_from (x ∷ xs) n zero = numbered_texts n (x ∷ xs)
texts_from (x ∷ xs) n (suc i) = texts_from xs (suc n) i

-- whether a STATIC line after the line at an index gives bytes
pub later_at : (ts : List (List ℕ)) (i : ℕ) (b : Bool) → slice_get (gives_later_each ts) i ≡ Some b → b ≡ gives_later (drop (suc i) ts)
later_at [] i b h = absurd (cc h)
later_at (t ∷ ts) zero b h = let e : gives_later ts ≡ b = cc h in sym e
later_at (t ∷ ts) (suc i) b h = later_at ts i b h

-- a line after the others
pub lines_added : (ls new : List CodeLine) (l : CodeLine) (p : EndedLine) → new ≡ ls ++ l ∷ [] → ended_line_of l ≡ p → map ended_line_of new ≡ map ended_line_of ls ++ p ∷ []
lines_added ls new l p e f = ap (map ended_line_of) e ∙ added ls
  where
    added : (ls : List CodeLine) → map ended_line_of (ls ++ l ∷ []) ≡ map ended_line_of ls ++ p ∷ []
    added [] = ap (λ x. x ∷ []) f
    added (k ∷ ls) = ap (λ xs. ended_line_of k ∷ xs) (added ls)

-- one more line before those that are judged
pub given_more : (ls : List CodeLine) (d : CodeLine) (i : ℕ) (v w : Bool) → i < length ls → v ≡ gives_later (drop (suc i) (line_texts ls))
    → w ≡ (not (is_end (fields (get_or ls i d).text.now)) && (gives (declaration_in (get_or ls i d).text.now) || v)) → w ≡ gives_later (drop i (line_texts ls))
given_more [] d i v w h e g = absurd (omega (arith, h))
given_more (x ∷ ls) d zero v w h e g = g ∙ ap (λ b. not (is_end (fields x.text.now)) && (gives (declaration_in x.text.now) || b)) e
given_more (x ∷ ls) d (suc i) v w h e g = given_more ls d i v w (omega (arith, h)) e g

pub judged_more : (ls : List CodeLine) (xs : List Bool) (i : ℕ) (v : Bool) → i < length ls → length xs ≡ length ls → v ≡ gives_later (drop (suc i) (line_texts ls)) → drop (suc i) xs ≡ gives_later_each (drop (suc i) (line_texts ls))
    → drop i (set xs i v) ≡ gives_later_each (drop i (line_texts ls))
judged_more [] xs i v h n e f = absurd (omega (arith, h))
judged_more (x ∷ ls) [] i v h n e f = absurd (omega (arith, n))
judged_more (x ∷ ls) (y ∷ xs) zero v h n e f = ap (λ b. b ∷ xs) e ∙ ap (λ bs. gives_later (line_texts ls) ∷ bs) f
judged_more (x ∷ ls) (y ∷ xs) (suc i) v h n e f = judged_more ls xs i v (omega (arith, h)) (omega (arith, n)) e f

pub length_set : (xs : List Bool) (i : ℕ) (v : Bool) → length (set xs i v) ≡ length xs
length_set [] i v = refl
length_set (x ∷ xs) zero v = refl
length_set (x ∷ xs) (suc i) v = ap suc (length_set xs i v)
