-- The chain of holes in the words of a device: each hole's header names the next.
use Rattle.std.specs.Prelude.{◌≡◌, ℕ, suc, ◌+◌, ◌≤◌, cond, nat_le, List, [], ◌∷◌, length}
use Rattle.mc_words.specs.model_device.specs.Bytes.{be2}
use Rattle.mc_words.specs.model_device.specs.Card.{word}
use Rattle.mc_words.specs.model_device.specs.Layout.{first_place}

-- spans that all begin at p or after it
abbrev pub SpansAbove : ℕ → List (ℕ × ℕ) → Type 0
SpansAbove p [] = Unit {0}
SpansAbove p (e ∷ es) = (p ≤ e.0) × SpansAbove p es

-- gaps are a chain: they ascend, and the header of each has its number of words and the place of the next gap, or 0 if
-- there is none
abbrev pub IsChain : List (List ℕ) → List (ℕ × ℕ) → Type 0
IsChain m [] = Unit {0}
IsChain m (g ∷ gs) =
    (1 ≤ g.0) × (g.0 + g.1 ≤ length m) × (1 ≤ g.1) × (be2 (word m g.0) 2 ≡ g.1) × (be2 (word m g.0) 4 ≡ first_place gs) × SpansAbove (g.0 + 1) gs × IsChain m gs

-- the number of gaps that a search for n words reads: those up to the first of at least n words
abbrev pub count_of_searched_gaps : ℕ → List (ℕ × ℕ) → ℕ
count_of_searched_gaps n [] = 0
count_of_searched_gaps n (g ∷ gs) = suc (cond (nat_le n g.1) 0 (count_of_searched_gaps n gs))
