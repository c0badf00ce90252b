-- Keys of the definition that its test finds the same are equal, and each key is the same as itself.
use Rattle.std.proofs.Common.{◌≡◌, ℕ, Bool, true, false, ◌&&◌, List, [], ◌∷◌, refl, ap, ◌∙◌}
use Rattle.std.specs.Prelude.{◌==◌, bytes_eq}
use Rattle.std.proofs.lemmas.Bool.{and_parts, eqb-true, eq-eqb}
use Rattle.std.proofs.lemmas.Slice.Eq.{bytes_eq-Decides}
use Rattle.prove_facts.specs.model_rules.specs.Keeping.{Amounts}
use Rattle.prove_facts.specs.model_prove.specs.Digits.{same}
use Rattle.prove_facts.specs.model_prove.specs.Keys.{Start, Delegated, OfClass, Call, PlaceKey, MomentKey, same_lists, same_amounts, same_starts, same_calls, same_places, same_moments}

pub both : (s t : Bool) → s ≡ true → t ≡ true → (s && t) ≡ true
both s t p q = ap (λ (x : Bool). x && t) p ∙ q

pub number_self : (n : ℕ) → (n == n) ≡ true
number_self n = eq-eqb n n refl

pub same_is : (a b : Bool) → same a b ≡ true → a ≡ b
same_is true true e = refl
same_is true false e = absurd (cc e)
same_is false true e = absurd (cc e)
same_is false false e = refl

pub same_self : (a : Bool) → same a a ≡ true
same_self true = refl
same_self false = refl

-- ---- lists

lists_are : {A : Type 0} (test : A → A → Bool) → ((x y : A) → test x y ≡ true → x ≡ y) → (xs ys : List A) → same_lists test xs ys ≡ true → xs ≡ ys
lists_are test sound [] [] e = refl
lists_are test sound [] (y ∷ ys) e = absurd (cc e)
lists_are test sound (x ∷ xs) [] e = absurd (cc e)
lists_are {A} test sound (x ∷ xs) (y ∷ ys) e =
    let p = and_parts (test x y) (same_lists test xs ys) e in
    ap (λ (z : A). z ∷ xs) (sound x y p.0) ∙ ap (λ (zs : List A). y ∷ zs) (lists_are test sound xs ys p.1)

lists_self : {A : Type 0} (test : A → A → Bool) → ((x : A) → test x x ≡ true) → (xs : List A) → same_lists test xs xs ≡ true
lists_self test self [] = refl
lists_self test self (x ∷ xs) = both _ _ (self x) (lists_self test self xs)

-- ---- amounts

amount_is : (x y : List ℕ × ℕ) → (bytes_eq x.0 y.0 && x.1 == y.1) ≡ true → x ≡ y
amount_is x y e =
    let p = and_parts (bytes_eq x.0 y.0) (x.1 == y.1) e in
    let name : x.0 ≡ y.0 = (bytes_eq-Decides x.0 y.0).0 p.0 in
    let amount : x.1 ≡ y.1 = eqb-true x.1 y.1 p.1 in
    λ i. (name i, amount i)

pub amounts_are : (a b : Amounts) → same_amounts a b ≡ true → a ≡ b
amounts_are a b e = lists_are (λ x y. bytes_eq x.0 y.0 && x.1 == y.1) amount_is a b e

pub amounts_self : (a : Amounts) → same_amounts a a ≡ true
amounts_self a =
    lists_self (λ (x y : List ℕ × ℕ). bytes_eq x.0 y.0 && x.1 == y.1) (λ x. both _ _ ((bytes_eq-Decides x.0 x.0).1 refl) (number_self x.1)) a

-- ---- beginnings

pub starts_are : (a b : Start) → same_starts a b ≡ true → a ≡ b
starts_are Delegated Delegated e = refl
starts_are Delegated (OfClass b) e = absurd (cc e)
starts_are (OfClass a) Delegated e = absurd (cc e)
starts_are (OfClass a) (OfClass b) e = ap (λ (z : List Bool). OfClass z) (lists_are same same_is a b e)

pub starts_self : (a : Start) → same_starts a a ≡ true
starts_self Delegated = refl
starts_self (OfClass a) = lists_self same same_self a

-- ---- calls

call_is : (c d : Call) → same_calls c d ≡ true → c ≡ d
call_is c d e =
    let p = and_parts (c.dt == d.dt && c.lb == d.lb) (c.at == d.at) e in
    let q = and_parts (c.dt == d.dt) (c.lb == d.lb) p.0 in
    let dt : c.dt ≡ d.dt = eqb-true c.dt d.dt q.0 in
    let lb : c.lb ≡ d.lb = eqb-true c.lb d.lb q.1 in
    let at : c.at ≡ d.at = eqb-true c.at d.at p.1 in
    λ i. record { dt = dt i; lb = lb i; at = at i }

call_self : (c : Call) → same_calls c c ≡ true
call_self c = both _ _ (both _ _ (number_self c.dt) (number_self c.lb)) (number_self c.at)

pub calls_are : (cs ds : List Call) → same_lists same_calls cs ds ≡ true → cs ≡ ds
calls_are cs ds e = lists_are same_calls call_is cs ds e

pub calls_self : (cs : List Call) → same_lists same_calls cs cs ≡ true
calls_self cs = lists_self same_calls call_self cs

-- ---- keys

pub moments_are : (k l : MomentKey) → same_moments k l ≡ true → (k.selected ≡ l.selected) × (k.allowances ≡ l.allowances)
moments_are k l e =
    let p = and_parts (same k.selected l.selected) (same_amounts k.allowances l.allowances) e in
    (same_is k.selected l.selected p.0, amounts_are k.allowances l.allowances p.1)

pub moment_self : (k : MomentKey) → same_moments k k ≡ true
moment_self k = both _ _ (same_self k.selected) (amounts_self k.allowances)

-- the parts of two places are equal
pub record SamePlace (k l : PlaceKey) : Type 0 where
  pub at : k.at ≡ l.at
  pub dt : k.dt ≡ l.dt
  pub lb : k.lb ≡ l.lb
  pub c : k.c ≡ l.c
  pub z : k.z ≡ l.z
  pub protected : k.protected ≡ l.protected
  pub start : k.start ≡ l.start
  pub allowances : k.allowances ≡ l.allowances
  pub calls : k.calls ≡ l.calls

pub places_are : (k l : PlaceKey) → same_places k l ≡ true → SamePlace k l
places_are k l e =
    let n7 = k.at == l.at && k.dt == l.dt && k.lb == l.lb && same k.c l.c && same k.z l.z && same k.protected l.protected && same_starts k.start l.start in
    let n6 = k.at == l.at && k.dt == l.dt && k.lb == l.lb && same k.c l.c && same k.z l.z && same k.protected l.protected in
    let n5 = k.at == l.at && k.dt == l.dt && k.lb == l.lb && same k.c l.c && same k.z l.z in
    let n4 = k.at == l.at && k.dt == l.dt && k.lb == l.lb && same k.c l.c in
    let n3 = k.at == l.at && k.dt == l.dt && k.lb == l.lb in
    let p8 = and_parts (n7 && same_amounts k.allowances l.allowances) (same_lists same_calls k.calls l.calls) e in
    let p7 = and_parts n7 (same_amounts k.allowances l.allowances) p8.0 in
    let p6 = and_parts n6 (same_starts k.start l.start) p7.0 in
    let p5 = and_parts n5 (same k.protected l.protected) p6.0 in
    let p4 = and_parts n4 (same k.z l.z) p5.0 in
    let p3 = and_parts n3 (same k.c l.c) p4.0 in
    let p2 = and_parts (k.at == l.at && k.dt == l.dt) (k.lb == l.lb) p3.0 in
    let p1 = and_parts (k.at == l.at) (k.dt == l.dt) p2.0 in
    record {
      at = eqb-true k.at l.at p1.0;
      dt = eqb-true k.dt l.dt p1.1;
      lb = eqb-true k.lb l.lb p2.1;
      c = same_is k.c l.c p3.1;
      z = same_is k.z l.z p4.1;
      protected = same_is k.protected l.protected p5.1;
      start = starts_are k.start l.start p6.1;
      allowances = amounts_are k.allowances l.allowances p7.1;
      calls = calls_are k.calls l.calls p8.1;
    }

pub place_self : (k : PlaceKey) → same_places k k ≡ true
place_self k =
    both _ _
    (both _ _
    (both _ _
    (both _ _
    (both _ _
    (both _ _ (both _ _ (both _ _ (number_self k.at) (number_self k.dt)) (number_self k.lb)) (same_self k.c))
    (same_self k.z))
    (same_self k.protected))
    (starts_self k.start))
    (amounts_self k.allowances))
    (calls_self k.calls)
