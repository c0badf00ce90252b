-- Parts of a text with the blanks around them are the text.
use Rattle.std.proofs.Common.{◌≡◌, ℕ, ◌-◌, Bool, true, false, cond, List, [], ◌∷◌, ◌++◌, length, take, drop, refl, sym, ap, ◌∙◌, append_assoc, arith}
use Rattle.std.proofs.Math.Seq.{take-append_seam, drop-append_seam}
use Rattle.std.proofs.lemmas.List.{take-append-drop, length-append}
use Rattle.mc_text.specs.model_text.specs.Text.{before_trimmed, is_blank, trim, trim_end, trim_front}
use Rattle.desk_draft.specs.Parts.{after_word, before_rest, first_word, part_in, part_of, with_core}

-- a text ends with this one
abbrev pub Ends : List ℕ → List ℕ → Type 0
Ends s t = (b : List ℕ) × (t ≡ b ++ s)

-- a text ends with itself
pub ends_all : (t : List ℕ) → Ends t t
ends_all t = ([], refl)

-- a text ends with what is left after its first n characters
pub ends_drop : (n : ℕ) (t : List ℕ) → Ends (drop n t) t
ends_drop n t = (take n t, sym (take-append-drop n t))

-- the end of an end is an end
pub ends_on : (a b c : List ℕ) → Ends a b → Ends b c → Ends a c
ends_on a b c h k = (k.0 ++ h.0, k.1 ∙ ap (λ x. k.0 ++ x) h.1 ∙ sym (append_assoc k.0 h.0 a))

ends_by : (b : Bool) (c : ℕ) (t : List ℕ) → Ends (trim_front t) t → Ends (cond b (trim_front t) (c ∷ t)) (c ∷ t)
ends_by true c t h = (c ∷ h.0, ap (λ x. c ∷ x) h.1)
ends_by false c t h = ([], refl)

-- a text ends with itself without the blanks in front
pub ends_front : (t : List ℕ) → Ends (trim_front t) t
ends_front [] = ([], refl)
ends_front (c ∷ t) = ends_by (is_blank c) c t (ends_front t)

-- what stands before the end of a text, and the end
pub rest_joined : (s t : List ℕ) → Ends s t → before_rest t s ++ s ≡ t
rest_joined s t h =
    let size : length t - length s ≡ length h.0 = omega (arith, ap length h.1, length-append h.0 s) in
    ap (λ n. take n t ++ s) size ∙ ap (λ x. take (length h.0) x ++ s) h.1 ∙ ap (λ x. x ++ s) (take-append_seam h.0 s) ∙ sym h.1

-- a text begins with this one
abbrev Begins : List ℕ → List ℕ → Type 0
Begins s t = (e : List ℕ) × (t ≡ s ++ e)

begins_after : (b : Bool) (c : ℕ) (t : List ℕ) → Begins (cond b [] (c ∷ [])) (c ∷ t)
begins_after true c t = (c ∷ t, refl)
begins_after false c t = (t, refl)

begins_more : (c : ℕ) (s t : List ℕ) → Begins s t → Begins (before_trimmed c s) (c ∷ t)
begins_more c [] t h = begins_after (is_blank c) c t
begins_more c (d ∷ s) t h = (h.0, ap (λ x. c ∷ x) h.1)

begins_end : (t : List ℕ) → Begins (trim_end t) t
begins_end [] = ([], refl)
begins_end (c ∷ t) = begins_more c (trim_end t) t (begins_end t)

end_joined : (t : List ℕ) → trim_end t ++ drop (length (trim_end t)) t ≡ t
end_joined t =
    let h = begins_end t in
    ap (λ x. trim_end t ++ drop (length (trim_end t)) x) h.1 ∙ ap (λ x. trim_end t ++ x) (drop-append_seam (trim_end t) h.0) ∙ sym h.1

-- a part whose core stays is the text
pub part_joined : (t rest : List ℕ) → Ends rest t → with_core (part_in t rest) (part_in t rest).core ≡ t
part_joined t rest h =
    let s = trim_front rest in
    append_assoc (before_rest t s) (trim rest) (drop (length (trim rest)) s) ∙ ap (λ x. before_rest t s ++ x) (end_joined s) ∙ rest_joined s t (ends_on s rest t (ends_front rest) h)

-- a piece whose core stays is the piece
pub piece_joined : (t : List ℕ) → with_core (part_of t) (part_of t).core ≡ t
piece_joined t = part_joined t t (ends_all t)

-- what stands after the first word ends the text
pub ends_after : (t : List ℕ) → Ends (after_word t) t
ends_after t = ends_on (after_word t) (trim_front t) t (ends_drop (length (first_word t)) (trim_front t)) (ends_front t)
