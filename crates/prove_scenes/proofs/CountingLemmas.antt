-- The first cause that counts, cause by cause.
use Rattle.std.proofs.Common.{◌≡◌, ℕ, zero, suc, ◌+◌, ◌<◌, Bool, true, false, cond, List, [], ◌∷◌, length, drop, refl, sym, ap, ◌∙◌, arith}
use Rattle.std.specs.Prelude.{◌&&◌, slice_index_or, Some}
use Rattle.model_machine.specs.declared.machine.Abend.{Abend}
use Rattle.model_machine.specs.declared.machine.Abend.TheVariants.{A01}
use Rattle.model_machine.specs.Row.{first_cause}
use Rattle.model_prove.specs.Reach.{is_known_cause, known_causes}
use Rattle.prove_scenes.specs.declared.counting.Counted.{Counted}
use Rattle.prove_scenes.specs.declared.counting.Counted.TheVariants.{All, Known}
use Rattle.prove_scenes.specs.Counting.{counts, counted_causes}

-- a cause that may be kept, before others
kept : (keep holds : Bool) (a : Abend) (cs : List (Abend × Bool)) → first_cause (cond keep ((a, holds) ∷ cs) cs) ≡ cond (holds && keep) (Some a) (first_cause cs)
kept true true a cs = refl
kept true false a cs = refl
kept false true a cs = refl
kept false false a cs = refl

-- the first of some causes is the first of them, or of the others
pub first_step : (counted : Counted) (c : Abend × Bool) (cs : List (Abend × Bool)) → first_cause (counted_causes counted (c ∷ cs)) ≡ cond (c.1 && counts counted c.0) (Some c.0) (first_cause (counted_causes counted cs))
first_step All (a, true) cs = refl
first_step All (a, false) cs = refl
first_step (Known bad) c cs = kept (is_known_cause bad c.0) c.1 c.0 (known_causes bad cs)

-- at a place of a list
pub first_at : (counted : Counted) (cs : List (Abend × Bool)) (i : ℕ) → i < length cs
    → first_cause (counted_causes counted (drop i cs)) ≡ cond ((slice_index_or cs i (A01, false)).1 && counts counted (slice_index_or cs i (A01, false)).0) (Some (slice_index_or cs i (A01, false)).0) (first_cause (counted_causes counted (drop (i + 1) cs)))
first_at counted [] i h = absurd (omega (arith, h))
first_at counted (c ∷ cs) zero h = first_step counted c cs
first_at counted (c ∷ cs) (suc i) h =
    let next : suc (i + 1) ≡ suc i + 1 = omega arith in
    let e = slice_index_or cs i (A01, false) in
    first_at counted cs i (omega (arith, h)) ∙ ap (λ (k : ℕ). cond (e.1 && counts counted e.0) (Some e.0) (first_cause (counted_causes counted (drop k (c ∷ cs))))) next

-- a cause that holds and counts is the first, if none before it was
pub first_found : (counted : Counted) (cs : List (Abend × Bool)) (i : ℕ) (both counting : Bool) → i < length cs → both ≡ ((slice_index_or cs i (A01, false)).1 && counting) → counting ≡ counts counted (slice_index_or cs i (A01, false)).0 → both ≡ true
    → first_cause (counted_causes counted (drop i cs)) ≡ first_cause (counted_causes counted cs) → Some (slice_index_or cs i (A01, false)).0 ≡ first_cause (counted_causes counted cs)
first_found counted cs i both counting lt is does true_is h =
    let e = slice_index_or cs i (A01, false) in
    let test : (e.1 && counts counted e.0) ≡ true = ap (λ (b : Bool). e.1 && b) (sym does) ∙ sym is ∙ true_is in
    sym (sym h ∙ first_at counted cs i lt ∙ ap (λ (b : Bool). cond b (Some e.0) (first_cause (counted_causes counted (drop (i + 1) cs)))) test)

-- a cause that does not hold or count is passed
pub first_not : (counted : Counted) (cs : List (Abend × Bool)) (i : ℕ) (both counting : Bool) → i < length cs → both ≡ ((slice_index_or cs i (A01, false)).1 && counting) → counting ≡ counts counted (slice_index_or cs i (A01, false)).0 → both ≡ false
    → first_cause (counted_causes counted (drop i cs)) ≡ first_cause (counted_causes counted cs) → first_cause (counted_causes counted (drop (i + 1) cs)) ≡ first_cause (counted_causes counted cs)
first_not counted cs i both counting lt is does false_is h =
    let e = slice_index_or cs i (A01, false) in
    let test : (e.1 && counts counted e.0) ≡ false = ap (λ (b : Bool). e.1 && b) (sym does) ∙ sym is ∙ false_is in
    sym (ap (λ (b : Bool). cond b (Some e.0) (first_cause (counted_causes counted (drop (i + 1) cs)))) test) ∙ sym (first_at counted cs i lt) ∙ h
