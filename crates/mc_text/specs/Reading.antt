-- Reading texts: a number up to a greatest one, and a text that is cut at the first character that satisfies a test.
use Rattle.std.specs.Prelude.{ℕ, suc, ◌-◌, cond, nat_le, ◌==◌, List, [], map, length, take, drop, slice_index, Option, Some, None}
use Rattle.model_text.specs.Text.{every, is_digit, digits_onto, first_cut, is_empty}

-- the minimum of a number and 4,294,967,296
abbrev pub capped_number : ℕ → ℕ
capped_number n = cond (nat_le n 4294967296) n 4294967296

-- the number of decimal digits that are appended to those of n, if all are digits
abbrev pub decimal_behind : ℕ → List ℕ → Option ℕ
decimal_behind n t = cond (every is_digit t) (Some (digits_onto 10 n (map (λ c. c - 48) t))) None

-- the text before an index and the text after it, or the whole text if there is no index
abbrev pub halves_at : List ℕ → Option ℕ → List ℕ × Option (List ℕ)
halves_at t None = (t, None)
halves_at t (Some i) = (take i t, Some (drop (suc i) t))

-- a line without a trailing carriage return
abbrev pub without_return : List ℕ → List ℕ
without_return l = cond (slice_index l (length l - 1) == 13) (take (length l - 1) l) l

-- the first line of a text that was cut at its first line feed, and the text after it
abbrev pub line_cut : List ℕ × Option (List ℕ) → Option (List ℕ × List ℕ)
line_cut (l, None) = cond (is_empty l) None (Some (l, []))
line_cut (l, Some rest) = Some (without_return l, rest)

-- the first line of a text, and the text after it; an empty text has none
abbrev pub next_line : List ℕ → Option (List ℕ × List ℕ)
next_line t = line_cut (first_cut (λ c. c == 10) t)
