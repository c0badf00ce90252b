-- Tests of every byte of a text.
use Rattle.std.proofs.Common.{◌≡◌, ℕ, Bool, true, List, [], ◌∷◌, ◌++◌}
use Rattle.std.proofs.lemmas.Bool.{and_parts, and_from}
use Rattle.model_text.specs.Text.{every}

pub every_append : (p : ℕ → Bool) (s t : List ℕ) → every p s ≡ true → every p t ≡ true → every p (s ++ t) ≡ true
every_append p [] t h k = k
every_append p (c ∷ s) t h k =
    let e = and_parts (p c) (every p s) h in
    and_from (p c) (every p (s ++ t)) e.0 (every_append p s t e.1 k)
