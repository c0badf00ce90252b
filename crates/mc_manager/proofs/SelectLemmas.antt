-- The first bytes of an FCI.
use Rattle.std.proofs.Common.{◌≡◌, ℕ, List, length, take, ap, ◌∙◌}
use Rattle.std.specs.Prelude.{min}
use Rattle.std.proofs.lemmas.List.{take_min}

pub take_least : (n k : ℕ) (l : List ℕ) → k ≡ length l → take (min n k) l ≡ take n l
take_least n k l is = ap (λ (i : ℕ). take (min n i) l) is ∙ take_min n l
