-- Narrowing, step by step of a loop.
use Rattle.std.specs.Prelude.{◌≡◌, ℕ, suc, Bool, true, false, ◌+◌, ◌<◌, List, length, drop, get_or, Option, Some, None}
use Rattle.std.proofs.Common.{arith, ap, sym, ◌∙◌}
use Rattle.prove_facts.specs.model_prove.specs.Sets.{Set}
use Rattle.prove_facts.specs.model_prove.specs.Facts as known
use Rattle.prove_facts.specs.declared.values.Values.{Values}
use Rattle.prove_facts.specs.Sets.{set_of}
use Rattle.prove_works.specs.Narrowing.{left_if}
use Rattle.prove_works.specs.Searches.{sets_of}
use Rattle.prove_works.proofs.SetSteps.{drop_set}

pub narrow_first : (a : ℕ) (ss : List Set) (f : Option known.Facts) → known.narrow_all (a + 0) ss f ≡ known.narrow_all a ss f
narrow_first a ss f = let e : a + 0 ≡ a = omega arith in ap (λ (k : ℕ). known.narrow_all k ss f) e

step : (l : List Values) (a i : ℕ) (d : Values) (f : known.Facts) (g all : Option known.Facts) → i < length l
    → g ≡ known.narrow (a + i) (set_of (get_or l i d)) f
    → known.narrow_all (a + i) (drop i (sets_of l)) (Some f) ≡ all
    → known.narrow_all (a + (i + 1)) (drop (i + 1) (sets_of l)) g ≡ all
step l a i d f g all h n e =
    let u : a + (i + 1) ≡ suc (a + i) = omega arith in
    ap (λ (k : ℕ). known.narrow_all k (drop (i + 1) (sets_of l)) g) u
    ∙ ap (λ (o : Option known.Facts). known.narrow_all (suc (a + i)) (drop (i + 1) (sets_of l)) o) n
    ∙ ap (λ (ss : List Set). known.narrow_all (a + i) ss (Some f)) (sym (drop_set l i d h))
    ∙ e

-- one more byte has a value left
pub narrow_next : (l : List Values) (a i : ℕ) (d : Values) (f g : known.Facts) (b : Bool) (all : Option known.Facts) → i < length l
    → b ≡ true → left_if b g ≡ known.narrow (a + i) (set_of (get_or l i d)) f
    → known.narrow_all (a + i) (drop i (sets_of l)) (Some f) ≡ all
    → known.narrow_all (a + (i + 1)) (drop (i + 1) (sets_of l)) (Some g) ≡ all
narrow_next l a i d f g true all h t n e = step l a i d f (Some g) all h n e
narrow_next l a i d f g false all h t n e = absurd (cc t)

-- one byte has none
pub narrow_stop : (l : List Values) (a i : ℕ) (d : Values) (f g : known.Facts) (b : Bool) (all : Option known.Facts) → i < length l
    → b ≡ false → left_if b g ≡ known.narrow (a + i) (set_of (get_or l i d)) f
    → known.narrow_all (a + i) (drop i (sets_of l)) (Some f) ≡ all
    → None ≡ all
narrow_stop l a i d f g false all h t n e = step l a i d f None all h n e
narrow_stop l a i d f g true all h t n e = absurd (cc t)
