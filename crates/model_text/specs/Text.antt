-- Texts: lines, fields, names and numbers, hexadecimal digits, and code that is written in them.
use Rattle.std.specs.Prelude.{ℕ, suc, ◌+◌, ◌-◌, ◌*◌, Bool, true, false, cond, not, ◌&&◌, ◌||◌, nat_le, ◌==◌, List, [], ◌∷◌, ◌++◌, map, length, filter, Option, Some, None, option_map, option_and_then, ok_or, bytes_eq, codes, Result, Ok, Err}
use Rattle.model_machine.specs.model_device.specs.Limits.{most_code}

-- ---- results in turn

infixl 10 ◌>>=◌
-- the next step, unless this one is refused
abbrev pub ◌>>=◌ : {A B E : Type 0} → Result A E → (A → Result B E) → Result B E
(Ok a) >>= step = step a
(Err e) >>= step = Err e

-- a result with its value changed
abbrev pub ok_as : {A B E : Type 0} → (A → B) → Result A E → Result B E
ok_as f (Ok a) = Ok (f a)
ok_as f (Err e) = Err e

-- a result with its refusal changed
abbrev pub err_as : {A E F : Type 0} → (E → F) → Result A E → Result A F
err_as f (Ok a) = Ok a
err_as f (Err e) = Err (f e)

-- a value, refused unless a test passes
abbrev pub only_if : {A E : Type 0} → Bool → E → A → Result A E
only_if true e a = Ok a
only_if false e a = Err e

-- ---- lines and pieces of a text

-- a character before some pieces: a cut, or the front of the first piece
abbrev pub pieces_with_character : Bool → ℕ → List (List ℕ) → List (List ℕ)
pieces_with_character true c ps = [] ∷ ps
pieces_with_character false c [] = (c ∷ []) ∷ []
pieces_with_character false c (p ∷ ps) = (c ∷ p) ∷ ps

-- the pieces of a text between the characters that cut it, one more than there are cuts
abbrev pub pieces : (ℕ → Bool) → List ℕ → List (List ℕ)
pieces cuts [] = [] ∷ []
pieces cuts (c ∷ t) = pieces_with_character (cuts c) c (pieces cuts t)

-- a character before a text that is cut: the text begins at a cut, or goes on
abbrev pub halves_with_character : Bool → ℕ → List ℕ → List ℕ × Option (List ℕ) → List ℕ × Option (List ℕ)
halves_with_character true c t rest = ([], Some t)
halves_with_character false c t rest = (c ∷ rest.0, rest.1)

-- the text before the first cut, and the text after it, if there is a cut
abbrev pub first_cut : (ℕ → Bool) → List ℕ → List ℕ × Option (List ℕ)
first_cut cuts [] = ([], None)
first_cut cuts (c ∷ t) = halves_with_character (cuts c) c t (first_cut cuts t)

-- whether a text begins with this character
abbrev pub begins : ℕ → List ℕ → Bool
begins c [] = false
begins c (d ∷ t) = d == c

-- a text without each carriage return that is right before a line feed
abbrev pub without_returns : List ℕ → List ℕ
without_returns [] = []
without_returns (c ∷ t) = cond ((c == 13) && begins 10 t) (without_returns t) (c ∷ without_returns t)

-- pieces without an empty last one
abbrev pub no_last_empty : List (List ℕ) → List (List ℕ)
no_last_empty [] = []
no_last_empty ([] ∷ []) = []
no_last_empty (p ∷ ps) = p ∷ no_last_empty ps

-- the lines of a text: each ends with a line feed, which the last may lack
abbrev pub lines : List ℕ → List (List ℕ)
lines t = no_last_empty (pieces (λ c. c == 10) (without_returns t))

-- the lines with their numbers
abbrev pub with_numbers : {A : Type 0} → ℕ → List A → List (ℕ × A)
with_numbers n [] = []
with_numbers n (l ∷ ls) = (n, l) ∷ with_numbers (suc n) ls

-- whether a character is a blank: space or tab
abbrev pub is_blank : ℕ → Bool
is_blank c = (c == 32) || (c == 9)

-- whether a text has no characters
abbrev pub is_empty : List ℕ → Bool
is_empty [] = true
is_empty (c ∷ t) = false

-- the fields of a line, which blanks separate
abbrev pub fields : List ℕ → List (List ℕ)
fields l = filter (λ p. not (is_empty p)) (pieces is_blank l)

-- a text without the blanks at its front
abbrev pub trim_front : List ℕ → List ℕ
trim_front [] = []
trim_front (c ∷ t) = cond (is_blank c) (trim_front t) (c ∷ t)

-- a character before a text without blanks at its end
abbrev pub before_trimmed : ℕ → List ℕ → List ℕ
before_trimmed c [] = cond (is_blank c) [] (c ∷ [])
before_trimmed c (d ∷ t) = c ∷ d ∷ t

-- a text without the blanks at its end
abbrev pub trim_end : List ℕ → List ℕ
trim_end [] = []
trim_end (c ∷ t) = before_trimmed c (trim_end t)

-- a text without the blanks around it
abbrev pub trim : List ℕ → List ℕ
trim t = trim_end (trim_front t)

-- ---- characters and numbers

-- whether a number is from low to high
abbrev pub is_within : ℕ → ℕ → ℕ → Bool
is_within low high n = nat_le low n && nat_le n high

-- whether a character is a decimal digit
abbrev pub is_digit : ℕ → Bool
is_digit c = is_within 48 57 c

-- whether a character is a letter, a digit or the underscore
abbrev pub is_name_character : ℕ → Bool
is_name_character c = is_within 65 90 c || is_within 97 122 c || is_digit c || (c == 95)

-- whether each character passes a test
abbrev pub every : (ℕ → Bool) → List ℕ → Bool
every test [] = true
every test (c ∷ t) = test c && every test t

-- whether a text is a name: 1 to 32 letters, digits and underscores
abbrev pub is_name : List ℕ → Bool
is_name t = is_within 1 32 (length t) && every is_name_character t

-- the number that digits spell in a base, after those that spell n
abbrev pub digits_onto : ℕ → ℕ → List ℕ → ℕ
digits_onto base n [] = n
digits_onto base n (d ∷ ds) = digits_onto base (n * base + d) ds

-- the number that one or more decimal digits spell
abbrev pub decimal_number : List ℕ → Option ℕ
decimal_number t = cond (not (is_empty t) && every is_digit t) (Some (digits_onto 10 0 (map (λ c. c - 48) t))) None

-- the value of a hexadecimal digit in either case
abbrev pub hex_value : ℕ → Option ℕ
hex_value c = cond (is_digit c) (Some (c - 48)) (cond (is_within 65 70 c) (Some (c - 55)) (cond (is_within 97 102 c) (Some (c - 87)) None))

-- a digit before others
abbrev pub before_values : Option ℕ → Option (List ℕ) → Option (List ℕ)
before_values (Some v) (Some vs) = Some (v ∷ vs)
before_values (Some v) None = None
before_values None vs = None

-- the values of hexadecimal digits
abbrev pub hex_values : List ℕ → Option (List ℕ)
hex_values [] = Some []
hex_values (c ∷ t) = before_values (hex_value c) (hex_values t)

-- the bytes that digits spell, two each; an odd number of digits spells none
abbrev pub bytes_of_digits : List ℕ → Option (List ℕ)
bytes_of_digits [] = Some []
bytes_of_digits (a ∷ []) = None
bytes_of_digits (a ∷ b ∷ vs) = option_map (λ bs. (a * 16 + b) ∷ bs) (bytes_of_digits vs)

-- the bytes that hexadecimal digits spell
abbrev pub hex_bytes : List ℕ → Option (List ℕ)
hex_bytes t = option_and_then bytes_of_digits (hex_values t)

-- ---- code as hexadecimal text

-- why a text is no code: a character or an odd number of digits at this line, or more than 8,192 bytes
pub data CodeFault : Type 0 where
  BadHex : ℕ → CodeFault
  TooLarge : CodeFault

-- the digits of numbered lines, with blanks anywhere
abbrev pub code_digits : List (ℕ × List ℕ) → Result (List ℕ) CodeFault
code_digits [] = Ok []
code_digits (l ∷ ls) = do
  vs ← ok_or (hex_values (filter (λ c. not (is_blank c)) l.1)) (BadHex l.0)
  ok_as (λ rest. vs ++ rest) (code_digits ls)

-- code as hexadecimal digits, with blanks and line ends anywhere
unfoldable pub code_text_read : List ℕ → Result (List ℕ) CodeFault
code_text_read t = do
  vs ← code_digits (with_numbers 1 (lines t))
  code ← ok_or (bytes_of_digits vs) (BadHex (length (lines t)))
  only_if (nat_le (length code) most_code) TooLarge code

-- ---- sections

-- whether a line ends a section
abbrev pub is_end : List (List ℕ) → Bool
is_end (word ∷ []) = bytes_eq word (codes "end")
is_end other = false

-- whether the first field of a line is this word
abbrev pub begins_with : List ℕ → List (List ℕ) → Bool
begins_with word [] = false
begins_with word (f ∷ fs) = bytes_eq f word

-- whether the line after one with these fields is in a section, by whether this one is
abbrev pub stays_inside : Bool → List (List ℕ) → Bool
stays_inside false fs = begins_with (codes "app") fs
stays_inside true fs = not (is_end fs)
