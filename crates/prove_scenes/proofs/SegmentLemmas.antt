-- The bytes of a segment, kept or not.
use Rattle.std.proofs.Common.{◌≡◌, ℕ, ◌≤◌, List, [], ◌∷◌, length, take, refl, sym, ap, ◌∙◌, arith}
use Rattle.std.proofs.lemmas.List.{take-replicate, length-replicate}
use Rattle.model_machine.specs.model_device.specs.Bytes.{zeros}
use Rattle.prove_scenes.specs.Segments.{laid}

-- n zeros are n bytes
pub zeros_long : (n : ℕ) → length (zeros n) ≡ n
zeros_long n = length-replicate n 0

-- zeros, if no byte is kept
pub laid_zeros : (n : ℕ) (l : List ℕ) → length l ≡ 0 → n ≤ 4096 → take n (zeros 4096) ≡ laid n l
laid_zeros n [] none most = take-replicate n 4096 0 most
laid_zeros n (b ∷ bs) none most = absurd (omega (arith, none))

-- what is kept, if it is as long as the segment
pub laid_kept : (n : ℕ) (l : List ℕ) → length l ≡ n → laid n l ≡ l
laid_kept n [] long = sym (ap zeros long)
laid_kept n (b ∷ bs) long = refl

-- what is kept, if it is not empty
pub laid_some : (n : ℕ) (l : List ℕ) → 1 ≤ length l → laid n l ≡ l
laid_some n [] some = absurd (omega (arith, some))
laid_some n (b ∷ bs) some = refl
