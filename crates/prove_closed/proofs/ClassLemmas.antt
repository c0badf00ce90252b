-- Classes by their numbers, and that no two are equal.
use Rattle.std.proofs.Common.{◌≡◌, ℕ, zero, suc, ◌-◌, ◌<◌, Bool, true, false, List, [], ◌∷◌, length, get_or, take, drop, refl, sym, subst, ap, ◌∙◌, arith, length-drop}
use Rattle.std.proofs.Math.Seq.{take-length}
use Rattle.std.proofs.lemmas.Bool.{or_left, or_right, both_ways}
use Rattle.std.specs.declared.alloc.Global.{Global}
use Rattle.std.specs.declared.vec.Vec.{Vec}
use Rattle.prove_facts.specs.model_prove.specs.Digits.{same}
use Rattle.prove_facts.specs.model_prove.specs.Keys.{OfClass, same_lists}
use Rattle.prove_keys.specs.Tables.{AreDistinct}
use Rattle.prove_keys.proofs.SameLemmas.{starts_are, starts_self}
use Rattle.prove_closed.specs.Classes.{lists_of, is_among}

class_is : (c d : List Bool) → OfClass c ≡ OfClass d → c ≡ d
class_is c d e = cc

-- lists that the test finds the same are equal
pub lists_are : (c d : List Bool) → same_lists same c d ≡ true → c ≡ d
lists_are c d e = class_is c d (starts_are (OfClass c) (OfClass d) e)

pub listed_at : (cs : List (Vec Bool Global)) (i : ℕ) (x : Vec Bool Global) → i < length cs → get_or (lists_of cs) i [] ≡ (get_or cs i x).items
listed_at [] i x low = absurd (omega arith)
listed_at (c ∷ cs) zero x low = refl
listed_at (c ∷ cs) (suc i) x low = listed_at cs i x (omega arith)

-- the class with a number is the one that the test finds there
pub class_at : (cs : List (Vec Bool Global)) (i : ℕ) (x : Vec Bool Global) (m : List Bool) → i < length cs → x ≡ get_or cs i x → same_lists same x.items m ≡ true
    → get_or (lists_of cs) i [] ≡ m
class_at cs i x m low is same_there =
    listed_at cs i x low ∙ ap (λ (v : Vec Bool Global). v.items) (sym is) ∙ lists_are x.items m same_there

-- ---- distinct classes

among_at : (c : List Bool) (ds : List (List Bool)) (j : ℕ) → j < length ds → c ≡ get_or ds j [] → is_among c ds ≡ true
among_at c [] j low e = absurd (omega arith)
among_at c (d ∷ ds) zero low e =
    or_left (same_lists same c d) (is_among c ds) (subst (λ (x : List Bool). same_lists same c x ≡ true) e (starts_self (OfClass c)))
among_at c (d ∷ ds) (suc j) low e = or_right (same_lists same c d) (is_among c ds) (among_at c ds j (omega arith) e)

-- a class that is not among distinct ones is distinct from them
pub distinct_next : (c : List Bool) (ds : List (List Bool)) → is_among c ds ≡ false → AreDistinct ds → AreDistinct (c ∷ ds)
distinct_next c ds other h zero zero p q e = refl
distinct_next c ds other h zero (suc j) p q e = absurd (both_ways (is_among c ds) other (among_at c ds j (omega arith) e))
distinct_next c ds other h (suc i) zero p q e = absurd (both_ways (is_among c ds) other (among_at c ds i (omega arith) (sym e)))
distinct_next c ds other h (suc i) (suc j) p q e = ap (λ (n : ℕ). suc n) (h i j (omega arith) (omega arith) e)

-- the classes from a place on
pub rest_is : (cs : List (Vec Bool Global)) (i : ℕ) → take (length cs - i) (drop i cs) ≡ drop i cs
rest_is cs i =
    subst (λ (n : ℕ). take n (drop i cs) ≡ drop i cs) (length-drop i cs) (take-length (drop i cs))
