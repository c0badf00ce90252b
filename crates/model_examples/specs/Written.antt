-- Functions that write bytes, texts and lists of worked rows.
use Rattle.std.specs.Prelude.{ℕ, zero, suc, not, List, [], ◌∷◌, ◌++◌, take, filter, unwrap_or, Result}
use Rattle.std.specs.Fmt.{digits}
use Rattle.model_machine.specs.declared.instruction.DecodeFault.{DecodeFault}
use Rattle.model_text.specs.Listing.{listing_of_code}
use Rattle.model_text.specs.Text.{hex_bytes, is_blank}

-- the bytes that hexadecimal digits spell, with blanks anywhere
abbrev pub hex : List ℕ → List ℕ
hex t = unwrap_or (hex_bytes (filter (λ c. not (is_blank c)) t)) []

-- a text repeated `n` times
abbrev pub times : ℕ → List ℕ → List ℕ
times zero t = []
times (suc n) t = t ++ times n t

-- the first `n - 1` elements of a list, the first `n - 2`, and so on
abbrev pub fronts : ℕ → List ℕ → List (List ℕ)
fronts zero l = []
fronts (suc n) l = take n l ∷ fronts n l

-- the listing of code, in which numbers are computed
unfoldable pub listing : List ℕ → Result (List ℕ) (ℕ × DecodeFault)
unfolding listing_of_code digits
listing code = listing_of_code code
