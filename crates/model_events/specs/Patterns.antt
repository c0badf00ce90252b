-- Patterns: `?` is any one character, `*` any characters or none, all else itself; blanks are nothing.
use Rattle.std.specs.Prelude.{ℕ, Bool, true, false, cond, not, ◌&&◌, ◌||◌, ◌==◌, List, [], ◌∷◌, filter}
use Rattle.model_text.specs.Text.{is_blank, is_empty}

-- whether a character of a pattern matches any characters or none
abbrev pub is_star : ℕ → Bool
is_star p = p == 42

-- whether a character of a pattern matches any one character
abbrev pub is_any : ℕ → Bool
is_any p = p == 63

-- whether some end of a text passes a test
abbrev pub some_rest : (List ℕ → Bool) → List ℕ → Bool
some_rest test [] = test []
some_rest test (c ∷ t) = test (c ∷ t) || some_rest test t

-- whether the first character of a text is one that this character of a pattern matches, and the rest passes a test
abbrev pub first_and_rest : ℕ → (List ℕ → Bool) → List ℕ → Bool
first_and_rest p test [] = false
first_and_rest p test (c ∷ t) = (is_any p || (c == p)) && test t

-- whether a pattern matches a text
unfoldable pub matches : List ℕ → List ℕ → Bool
matches [] t = is_empty t
matches (p ∷ ps) t = cond (is_star p) (some_rest (matches ps) t) (first_and_rest p (matches ps) t)

-- a text without blanks
abbrev pub without_blanks : List ℕ → List ℕ
without_blanks t = filter (λ c. not (is_blank c)) t

-- whether a pattern holds of a result: without the blanks of both it matches; an empty one never holds
abbrev pub holds : List ℕ → List ℕ → Bool
holds pattern result = not (is_empty (without_blanks pattern)) && matches (without_blanks pattern) (without_blanks result)
