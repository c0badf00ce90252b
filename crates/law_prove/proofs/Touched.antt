-- Pieces within 512 bytes touch at most 64 words.
use Rattle.std.proofs.Common.{◌≡◌, ℕ, suc, ◌+◌, ◌-◌, ◌<◌, ◌≤◌, Bool, cond, List, [], ◌∷◌, length, refl, arith}
use Rattle.std.specs.Prelude.{◌==◌, nat_lt, ⊤}
use Rattle.std.proofs.lemmas.Bool.{eqb-false, ltb-true, ltb-false}
use Rattle.model_prove.specs.model_device.specs.Bytes.{down}
use Rattle.model_prove.specs.model_device.specs.Pieces.{with_number, with_words, with_touched, touched_words}
use Rattle.law_rules.specs.law_bytes.specs.law_rows.specs.Keeping.{PiecesWithin}

-- numbers from the least on, below the most, each above the one before
abbrev pub Between : ℕ → ℕ → List ℕ → Type 0
Between least most [] = ⊤
Between least most (n ∷ ns) = (least ≤ n) × (n < most) × Between (suc n) most ns

few_between : (least most : ℕ) (ns : List ℕ) → Between least most ns → length ns ≤ most - least
few_between least most [] h = omega arith
few_between least most (n ∷ ns) h = let low = h.0 in let high = h.1 in omega (arith, low, high, few_between (suc n) most ns h.2)

number_by : (b c : Bool) (k n : ℕ) (least most : ℕ) (ns ms : List ℕ) → (k == n) ≡ b → nat_lt k n ≡ c → least ≤ k → k < most → Between least most (n ∷ ns) → (suc n ≤ k → Between (suc n) most ms)
    → Between least most (cond b (n ∷ ns) (cond c (k ∷ n ∷ ns) (n ∷ ms)))
number_by b c k n least most ns ms e l low high h rest = grind (arith, ltb-true, ltb-false, eqb-false)

number_between : (k least most : ℕ) (ns : List ℕ) → least ≤ k → k < most → Between least most ns → Between least most (with_number k ns)
number_between k least most [] low high h = (low, high, tt)
number_between k least most (n ∷ ns) low high h =
    number_by (k == n) (nat_lt k n) k n least most ns (with_number k ns) refl refl low high h (λ more. number_between k (suc n) most ns more high h.2)

words_between : (at : ℕ) (b ns : List ℕ) → at + length b ≤ 512 → Between 0 64 ns → Between 0 64 (with_words at b ns)
words_between at [] ns fits h = h
words_between at (c ∷ b) ns fits h =
    words_between (at + 1) b (with_number (down at 8) ns) (omega (arith, fits)) (number_between (down at 8) 0 64 ns (omega arith) (omega (arith, fits)) h)

touched_between : (n : ℕ) (ps : List (ℕ × List ℕ)) (ns : List ℕ) → n ≤ 512 → PiecesWithin n ps → Between 0 64 ns → Between 0 64 (with_touched ns ps)
touched_between n [] ns low inside h = h
touched_between n (p ∷ ps) ns low inside h =
    touched_between n ps (with_words p.0 p.1 ns) low inside.1 (words_between p.0 p.1 ns (omega (arith, inside.0, low)) h)

-- pieces within 512 bytes touch at most 64 words
pub few_touched : (n : ℕ) (ps : List (ℕ × List ℕ)) → n ≤ 512 → PiecesWithin n ps → length (touched_words ps) ≤ 64
unfolding touched_words
few_touched n ps low inside = few_between 0 64 (with_touched [] ps) (touched_between n ps [] low inside tt)
