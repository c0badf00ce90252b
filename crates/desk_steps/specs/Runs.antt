-- Runs of addresses as they are written, byte by byte: a run stays open until a byte does not differ.
use Rattle.std.specs.Prelude.{ℕ, ◌+◌, Bool, true, false, not, ◌==◌, List, [], ◌∷◌, ◌++◌, codes, decimal}
use Rattle.mc_text.specs.model_text.specs.Listing.{hex_text}

-- what ends a run, if one is open
abbrev pub close_text : Bool → List ℕ
close_text true = codes "\"]"
close_text false = []

-- what begins a run at an address, after another one or as the first
abbrev pub begin_text : Bool → ℕ → List ℕ
begin_text true a = codes ",[" ++ decimal a ++ codes ",\""
begin_text false a = codes "[" ++ decimal a ++ codes ",\""

-- what begins a run at an address, unless one is open
abbrev pub open_text : Bool → Bool → ℕ → List ℕ
open_text any true a = []
open_text any false a = begin_text any a

-- what is written of a byte, which is as it was or differs
abbrev pub byte_text : Bool → Bool → Bool → ℕ → ℕ → List ℕ
byte_text true any going a b = close_text going
byte_text false any going a b = open_text any going a ++ hex_text (b ∷ [])

-- whether a run was written after a byte, which is as it was or differs
abbrev pub any_after : Bool → Bool → Bool
any_after true any = any
any_after false any = true

-- what is written of all bytes from an address on, and of the end of the last run
abbrev pub rest_text : Bool → Bool → ℕ → List ℕ → List ℕ → List ℕ
rest_text any going a old [] = close_text going
rest_text any going a [] (b ∷ bs) = byte_text (b == 0) any going a b ++ rest_text (any_after (b == 0) any) (not (b == 0)) (a + 1) [] bs
rest_text any going a (o ∷ os) (b ∷ bs) = byte_text (b == o) any going a b ++ rest_text (any_after (b == o) any) (not (b == o)) (a + 1) os bs
