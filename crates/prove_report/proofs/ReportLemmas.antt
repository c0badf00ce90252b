-- The text of a proof, piece by piece.
use Rattle.std.proofs.Common.{◌≡◌, ◌∙◌, ap, refl, ℕ, true, List, [], ◌∷◌, ◌++◌, Result, Ok, Err}
use Rattle.std.specs.Prelude.{OnOk}
use Rattle.prove_report.specs.Reports.{is_of_lines}

-- a line that was ended
ended : (t : List ℕ) → is_of_lines (t ++ 10 ∷ []) ≡ true
ended [] = refl
ended (c ∷ []) = refl
ended (c ∷ d ∷ cs) = ended (d ∷ cs)

-- so it is if its end could be added
pub ended_on_ok : {E : Type 0} (r : Result (Unit {0}) E) (t u : List ℕ) → OnOk r (u ≡ t ++ 10 ∷ []) → OnOk r (is_of_lines u ≡ true)
ended_on_ok (Ok x) t u is = ap is_of_lines is ∙ ended t
ended_on_ok (Err e) t u is = tt
