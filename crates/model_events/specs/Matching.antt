-- Patterns against texts, letters in either case, in a form that computes in few steps.
use Rattle.std.specs.Prelude.{ℕ, ◌+◌, Bool, false, cond, not, ◌&&◌, ◌||◌, ◌==◌, List, [], ◌∷◌, map}
use Rattle.model_text.specs.Text.{is_empty, is_within}
use Rattle.model_events.specs.Patterns.{is_star, is_any, without_blanks}

-- whether what is left of a text after some front of it passes a test
abbrev pub some_rest : (List ℕ → Bool) → List ℕ → Bool
some_rest test [] = test []
some_rest test (c ∷ t) =
    let rest = some_rest test t in
    test (c ∷ t) || rest

-- whether a character of a pattern is the first of a text, and the rest passes a test
abbrev pub first_and_rest : ℕ → (List ℕ → Bool) → List ℕ → Bool
first_and_rest p test [] = false
first_and_rest p test (c ∷ t) =
    let rest = test t in
    (is_any p || (c == p)) && rest

-- whether a pattern matches a text, character by character
unfoldable pub matches : List ℕ → List ℕ → Bool
matches [] t = is_empty t
matches (p ∷ ps) t =
    let many = some_rest (matches ps) t in
    let one = first_and_rest p (matches ps) t in
    cond (is_star p) many one

-- a character, a capital letter as the small one
abbrev pub small : ℕ → ℕ
small c = cond (is_within 65 90 c) (c + 32) c

-- a text without blanks and capital letters
abbrev pub plain : List ℕ → List ℕ
plain t = map small (without_blanks t)

-- whether a pattern fits a text: blanks are left out of both, letters are in either case, and an empty pattern fits
-- nothing
unfoldable pub fits : List ℕ → List ℕ → Bool
unfolding matches
fits pattern text =
    let fit = matches (plain pattern) (plain text) in
    not (is_empty (plain pattern)) && fit
