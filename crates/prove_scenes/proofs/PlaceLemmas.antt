-- Places that lie in segments.
use Rattle.std.proofs.Common.{◌≡◌, ℕ, suc, ◌+◌, ◌-◌, ◌≤◌, ◌<◌, false, List, [], ◌∷◌, ◌++◌, length, sym, ap, ◌∙◌, append_assoc, arith}
use Rattle.std.specs.Prelude.{not}
use Rattle.model_machine.specs.Frame.{Frame, is_outside}
use Rattle.model_prove.specs.Sets.{numbers_from}
use Rattle.model_prove.specs.Splits.{Scene}
use Rattle.model_prove.specs.Steps as steps
use Rattle.std.proofs.lemmas.List.Elements.{filter-append}

-- a byte in a segment has an address below 65,536
pub inside_low : (f : Frame) (a : ℕ) → is_outside f a 1 ≡ false → length f.fixed ≤ 4096 → f.dt ≤ 0x8200 → a < 65536
inside_low f a inside fixed dt = grind arith

-- the first of some places, and the others
first_inside : (s : Scene) (k n : ℕ) → steps.inside s (numbers_from k (suc n)) ≡ steps.inside s (k ∷ []) ++ steps.inside s (numbers_from (suc k) n)
first_inside s k n = filter-append (λ a. not (is_outside s.frame a 1)) (k ∷ []) (numbers_from (suc k) n)

-- one more of some places
pub inside_next : (s : Scene) (old new all : List ℕ) (from count i : ℕ) → i < count → new ≡ old ++ steps.inside s ((from + i) ∷ [])
    → old ++ steps.inside s (numbers_from (from + i) (count - i)) ≡ all
    → new ++ steps.inside s (numbers_from (from + (i + 1)) (count - (i + 1))) ≡ all
inside_next s old new all from count i lt is h =
    let left : count - i ≡ suc (count - (i + 1)) = omega arith in
    let on : suc (from + i) ≡ from + (i + 1) = omega arith in
    let rest = steps.inside s (numbers_from (suc (from + i)) (count - (i + 1))) in
    ap (λ (t : List ℕ). t ++ steps.inside s (numbers_from (from + (i + 1)) (count - (i + 1)))) is
    ∙ ap (λ (k : ℕ). (old ++ steps.inside s ((from + i) ∷ [])) ++ steps.inside s (numbers_from k (count - (i + 1)))) (sym on)
    ∙ append_assoc old (steps.inside s ((from + i) ∷ [])) rest
    ∙ ap (λ (t : List ℕ). old ++ t) (sym (first_inside s (from + i) (count - (i + 1))))
    ∙ ap (λ (n : ℕ). old ++ steps.inside s (numbers_from (from + i) n)) (sym left)
    ∙ h
