-- The lines of a deck as a draft's: their texts are those that the deck's reader reads, and they join to the text.
use Rattle.std.proofs.Common.{◌≡◌, ℕ, zero, suc, ◌<◌, ◌≤◌, Bool, true, false, cond, List, [], ◌∷◌, ◌++◌, length, take, drop, Option, Some, None, refl, sym, ap, ◌∙◌, append_assoc, append-nil, arith}
use Rattle.std.specs.Prelude.{◌==◌}
use Rattle.std.proofs.Math.Seq.{take-length}
use Rattle.std.proofs.lemmas.List.{take-append-drop, length-take-le}
use Rattle.mc_text.specs.model_text.specs.Text.{first_cut, halves_with_character, is_empty, lines, pieces, pieces_with_character}
use Rattle.mc_text.specs.Reading.{line_cut, without_return}
use Rattle.mc_text.proofs.ReadingLemmas.{lines_at, lines_from, pieces_at, pieces_cut}
use Rattle.desk_draft.specs.Parts.{EndedLine, ended_lines, ended_pieces}
use Rattle.desk_draft.proofs.StayLemmas.{some_pieces}

-- ---- pieces

-- pieces, each after a separator
abbrev pub after_each : ℕ → List (List ℕ) → List ℕ
after_each s [] = []
after_each s (p ∷ ps) = s ∷ (p ++ after_each s ps)

-- pieces with a separator between them
abbrev pub rejoined : ℕ → List (List ℕ) → List ℕ
rejoined s [] = []
rejoined s (p ∷ ps) = p ++ after_each s ps

joined_by : (b : Bool) (s c : ℕ) (p : List ℕ) (ps : List (List ℕ)) → (c == s) ≡ b → rejoined s (pieces_with_character b c (p ∷ ps)) ≡ c ∷ rejoined s (p ∷ ps)
joined_by true s c p ps e = let i : c ≡ s = grind (arith, e) in ap (λ x. x ∷ rejoined s (p ∷ ps)) (sym i)
joined_by false s c p ps e = refl

-- the pieces of a text with what separates them are the text
pub pieces_joined : (s : ℕ) (t : List ℕ) → rejoined s (pieces (λ c. c == s) t) ≡ t
pieces_joined s [] = refl
pieces_joined s (c ∷ t) = grind (arith, some_pieces, joined_by, pieces_joined s t)

-- ---- the whole text

-- lines with what ends them, one after the other
abbrev pub joined : List EndedLine → List ℕ
joined [] = []
joined (l ∷ ls) = l.text ++ l.ending ++ joined ls

front_by : (b : Bool) (n : ℕ) (l : List ℕ) → n ≤ length l → cond b (take n l) l ++ drop (length (cond b (take n l) l)) l ≡ l
front_by true n l h = ap (λ k. take n l ++ drop k l) (length-take-le n l h) ∙ take-append-drop n l
front_by false n l h = ap (λ x. x ++ drop (length l) l) (sym (take-length l)) ∙ take-append-drop (length l) l

-- a line without its carriage return, and the carriage return
front : (p : List ℕ) → without_return p ++ drop (length (without_return p)) p ≡ p
front p = grind (arith, front_by)

joined_pieces : (p : List ℕ) (ps : List (List ℕ)) → joined (ended_pieces (p ∷ ps)) ≡ rejoined 10 (p ∷ ps)
joined_pieces p [] = append-nil (p ++ [])
joined_pieces p (q ∷ ps) =
    let t = without_return p in
    let d = drop (length t) p in
    let rest = joined (ended_pieces (q ∷ ps)) in
    ap (λ x. x ++ rest) (sym (append_assoc t d (10 ∷ [])) ∙ ap (λ x. x ++ 10 ∷ []) (front p)) ∙ append_assoc p (10 ∷ []) rest ∙ ap (λ x. p ++ 10 ∷ x) (joined_pieces q ps)

-- the lines of a text, with what ends them, are the text
pub lines_joined : (t : List ℕ) → joined (ended_lines t) ≡ t
lines_joined t =
    let h = some_pieces (λ c. c == 10) t in
    ap (λ ps. joined (ended_pieces ps)) h.2 ∙ joined_pieces h.0 h.1 ∙ ap (rejoined 10) (sym h.2) ∙ pieces_joined 10 t

-- ---- the lines that are read

-- the texts of lines, without an empty last one
abbrev pub texts_read : List EndedLine → List (List ℕ)
texts_read [] = []
texts_read (l ∷ []) = cond (is_empty l.text) [] (l.text ∷ [])
texts_read (l ∷ k ∷ ls) = l.text ∷ texts_read (k ∷ ls)

more_by : (a p : List ℕ) (qs : List (List ℕ)) → texts_read (ended_pieces (a ∷ p ∷ qs)) ≡ without_return a ∷ texts_read (ended_pieces (p ∷ qs))
more_by a p [] = refl
more_by a p (q ∷ qs) = refl

more_texts : (a : List ℕ) (ps : List (List ℕ)) → (p : List ℕ) × (qs : List (List ℕ)) × (ps ≡ p ∷ qs) → texts_read (ended_pieces (a ∷ ps)) ≡ without_return a ∷ texts_read (ended_pieces ps)
more_texts a ps s = ap (λ ps. texts_read (ended_pieces (a ∷ ps))) s.2 ∙ more_by a s.0 s.1 ∙ ap (λ ps. without_return a ∷ texts_read (ended_pieces ps)) (sym s.2)

shorter_by : (b : Bool) (c : ℕ) (t r : List ℕ) (q : List ℕ × Option (List ℕ)) → (q.1 ≡ Some r → length r < length t) → (halves_with_character b c t q).1 ≡ Some r → length r < suc (length t)
shorter_by true c t r q f h = let e : t ≡ r = cc h in omega (arith, ap length e)
shorter_by false c t r q f h = omega (arith, f h)

-- what follows the first cut of a text is shorter than the text
pub cut_shorter : (f : ℕ → Bool) (t r : List ℕ) → (first_cut f t).1 ≡ Some r → length r < length t
cut_shorter f [] r h = absurd (cc h)
cut_shorter f (c ∷ t) r h = shorter_by (f c) c t r (first_cut f t) (λ e. cut_shorter f t r e) h

last_by : (b : Bool) (a : List ℕ) → lines_from (cond b None (Some (a, []))) ≡ cond b [] (a ∷ [])
last_by true a = refl
last_by false a = refl

by_cut : (q : List ℕ × Option (List ℕ)) → ((r : List ℕ) → q.1 ≡ Some r → lines r ≡ texts_read (ended_lines r)) → lines_from (line_cut q) ≡ texts_read (ended_pieces (pieces_cut (λ c. c == 10) q))
by_cut (a, None) f = last_by (is_empty a) a
by_cut (a, Some r) f = ap (λ x. without_return a ∷ x) (f r refl) ∙ sym (more_texts a (pieces (λ c. c == 10) r) (some_pieces (λ c. c == 10) r))

read_within : (n : ℕ) (t : List ℕ) → length t ≤ n → lines t ≡ texts_read (ended_lines t)
read_within zero [] h = refl
read_within zero (c ∷ t) h = absurd (omega (arith, h))
read_within (suc n) t h =
    lines_at t ∙ by_cut (first_cut (λ c. c == 10) t) (λ r e. read_within n r (omega (arith, h, cut_shorter (λ c. c == 10) t r e))) ∙ sym (ap (λ ps. texts_read (ended_pieces ps)) (pieces_at (λ c. c == 10) t))

-- the lines that a deck's reader reads are those of the draft, without an empty last one
pub lines_read : (t : List ℕ) → lines t ≡ texts_read (ended_lines t)
lines_read t = read_within (length t) t (omega arith)
