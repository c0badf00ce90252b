-- Classes of the same lines put together, and the search of the definition's rounds.
use Rattle.std.proofs.Common.{◌≡◌, ◌∙◌, ℕ, zero, suc, ◌+◌, ◌<◌, ◌≤◌, Bool, true, false, cond, List, [], ◌∷◌, ◌++◌, length, get_or, set, take, map, ap, sym, refl, arith}
use Rattle.prove_facts.specs.model_prove.specs.Sets.{Set, union}
use Rattle.prove_facts.specs.model_prove.specs.Keys.{same_lists}
use Rattle.prove_facts.specs.model_prove.specs.Digits.{same}
use Rattle.prove_facts.specs.model_prove.specs.Texts.{after_any, any_count}
use Rattle.prove_facts.specs.model_prove.specs.Between.{Class, Header, union_all, with_class, with_classes, classes_of}
use Rattle.prove_patterns.specs.declared.command_headers.Header as made
use Rattle.prove_patterns.specs.Headers.{headers_of}
use Rattle.prove_patterns.specs.Classes.{class_place, class_joined, classes_onto}

-- a class of these lines and sets
abbrev pub class_of : List Bool → List Set → Class
class_of m ss = record { matches = m; sets = ss }

here_by : (b : Bool) (n : ℕ) (c d : Class) (ds rest : List Class) → cond b 0 (suc n) < suc (length ds) → (n < length ds → rest ≡ class_joined n c.sets ds)
    → cond b (record { matches = d.matches; sets = union_all c.sets d.sets } ∷ ds) (d ∷ rest) ≡ class_joined (cond b 0 (suc n)) c.sets (d ∷ ds)
here_by true n c d ds rest l h = refl
here_by false n c d ds rest l h = ap (λ (x : List Class). d ∷ x) (h (omega (arith, l)))

-- a class put to the one of the same lines
pub class_here : (c : Class) (ds : List Class) → class_place c.matches ds < length ds → with_class c ds ≡ class_joined (class_place c.matches ds) c.sets ds
class_here c [] l = absurd (omega (arith, l))
class_here c (d ∷ ds) l = here_by (same_lists same c.matches d.matches) (class_place c.matches ds) c d ds (with_class c ds) l (class_here c ds)

last_by : (b : Bool) (n : ℕ) (c d : Class) (ds rest : List Class) → suc (length ds) ≤ cond b 0 (suc n) → (length ds ≤ n → rest ≡ ds ++ c ∷ [])
    → cond b (record { matches = d.matches; sets = union_all c.sets d.sets } ∷ ds) (d ∷ rest) ≡ d ∷ (ds ++ c ∷ [])
last_by true n c d ds rest l h = absurd (omega (arith, l))
last_by false n c d ds rest l h = ap (λ (x : List Class). d ∷ x) (h (omega (arith, l)))

-- a class of other lines
pub class_last : (c : Class) (ds : List Class) → length ds ≤ class_place c.matches ds → with_class c ds ≡ ds ++ c ∷ []
class_last c [] l = refl
class_last c (d ∷ ds) l = last_by (same_lists same c.matches d.matches) (class_place c.matches ds) c d ds (with_class c ds) l (class_last c ds)

-- a class put to the one that is there, or after all
pub class_put : (c : Class) (n k : ℕ) (ds new : List Class) → n ≡ class_place c.matches ds → length ds ≡ k → n < k → new ≡ class_joined n c.sets ds → new ≡ with_class c ds
class_put c n k ds new at size l e =
    e ∙ ap (λ (m : ℕ). class_joined m c.sets ds) at ∙ sym (class_here c ds (omega (arith, at, size, l)))

pub class_new : (c : Class) (n k : ℕ) (ds new : List Class) → n ≡ class_place c.matches ds → length ds ≡ k → k ≤ n → new ≡ ds ++ c ∷ [] → new ≡ with_class c ds
class_new c n k ds new at size l e = e ∙ sym (class_last c ds (omega (arith, at, size, l)))

-- the class at a place with more sets
pub class_set : {A : Type 0} (f : A → Class) (ds : List A) (n : ℕ) (sets : List Set) (e x : A) → n < length ds
    → f x ≡ record { matches = (f (get_or ds n e)).matches; sets = union_all sets (f (get_or ds n e)).sets } → map f (set ds n x) ≡ class_joined n sets (map f ds)
class_set f [] n sets e x l h = absurd (omega (arith, l))
class_set f (d ∷ ds) zero sets e x l h = ap (λ (y : Class). y ∷ map f ds) h
class_set f (d ∷ ds) (suc n) sets e x l h = ap (λ (y : List Class). f d ∷ y) (class_set f ds n sets e x (omega (arith, l)) h)

-- the search of the definition
pub classes_are : (hs : List Header) → classes_of hs ≡ classes_onto any_count hs []
unfolding classes_onto
classes_are [] = refl
classes_are (h ∷ hs) = ap (λ (cs : List Class). with_classes h.sets (after_any any_count (h.left ∷ [])) cs) (classes_are hs)

onto_last : (n : ℕ) (hs : List Header) (h : Header) (cs : List Class) → classes_onto n (hs ++ h ∷ []) cs ≡ classes_onto n hs (with_classes h.sets (after_any n (h.left ∷ [])) cs)
unfolding classes_onto
onto_last n [] h cs = refl
onto_last n (k ∷ hs) h cs = ap (λ (ds : List Class). with_classes k.sets (after_any n (k.left ∷ [])) ds) (onto_last n hs h cs)

pub onto_none : (n : ℕ) (cs : List Class) → classes_onto n [] cs ≡ cs
unfolding classes_onto
onto_none n cs = refl

-- the last of some headers is done
pub onto_turn : (n : ℕ) (hs rest : List Header) (h : Header) (cs next whole : List Class) → hs ≡ rest ++ h ∷ [] → next ≡ with_classes h.sets (after_any n (h.left ∷ [])) cs
    → classes_onto n hs cs ≡ whole → classes_onto n rest next ≡ whole
onto_turn n hs rest h cs next whole e i w =
    ap (λ (ds : List Class). classes_onto n rest ds) i ∙ sym (onto_last n rest h cs) ∙ sym (ap (λ (ks : List Header). classes_onto n ks cs) e) ∙ w

-- no headers are left
pub onto_end : (n : ℕ) (hs : List made.Header) (cs whole : List Class) → length hs ≡ 0 → classes_onto n (headers_of hs) cs ≡ whole → cs ≡ whole
unfolding classes_onto
onto_end n [] cs whole e w = w
onto_end n (h ∷ hs) cs whole e w = absurd (omega (arith, e))

-- ---- sets

union_none : (ss : List Set) → union_all ss [] ≡ ss
union_none [] = refl
union_none (s ∷ ss) = refl

short : (i : ℕ) (ss : List Set) → length (take i ss) ≤ i
short zero ss = omega arith
short (suc i) [] = omega arith
short (suc i) (s ∷ ss) = let h = short i ss in omega (arith, h)

-- one more set is put to the one at its place, or after all
pub union_put : (ss ts : List Set) (i : ℕ) (x : Set) → i < length ss → i < length (union_all (take i ss) ts)
    → x ≡ union (get_or ss i []) (get_or (union_all (take i ss) ts) i []) → set (union_all (take i ss) ts) i x ≡ union_all (take (suc i) ss) ts
union_put [] ts i x l m e = absurd (omega (arith, l))
union_put (s ∷ ss) [] zero x l m e = absurd (omega (arith, m))
union_put (s ∷ ss) (t ∷ ts) zero x l m e = ap (λ (y : Set). y ∷ ts) e
union_put (s ∷ ss) [] (suc i) x l m e = let h = short i ss in absurd (omega (arith, h, m))
union_put (s ∷ ss) (t ∷ ts) (suc i) x l m e = ap (λ (y : List Set). union s t ∷ y) (union_put ss ts i x (omega (arith, l)) (omega (arith, m)) e)

pub union_push : (ss ts : List Set) (i : ℕ) → i < length ss → length (union_all (take i ss) ts) ≤ i → union_all (take i ss) ts ++ get_or ss i [] ∷ [] ≡ union_all (take (suc i) ss) ts
union_push [] ts i l m = absurd (omega (arith, l))
union_push (s ∷ ss) [] zero l m = refl
union_push (s ∷ ss) (t ∷ ts) zero l m = absurd (omega (arith, m))
union_push (s ∷ ss) [] (suc i) l m =
    let h = union_push ss [] i (omega (arith, l)) (let e = ap (λ (y : List Set). length y) (union_none (take i ss)) in omega (arith, m, e)) in
    ap (λ (y : List Set). s ∷ y) (sym (ap (λ (y : List Set). y ++ get_or ss i [] ∷ []) (union_none (take i ss))) ∙ h ∙ union_none (take (suc i) ss))
union_push (s ∷ ss) (t ∷ ts) (suc i) l m = ap (λ (y : List Set). union s t ∷ y) (union_push ss ts i (omega (arith, l)) (omega (arith, m)))

pub union_turn : (ss ts old new : List Set) (i : ℕ) (s : Set) → i < length ss → i < length old → old ≡ union_all (take i ss) ts → get_or ss i [] ≡ s
    → new ≡ set old i (union s (get_or old i [])) → new ≡ union_all (take (i + 1) ss) ts
union_turn ss ts old new i s l m o e n =
    let same = ap (λ (x : List Set). length x) o in
    let more : suc i ≡ i + 1 = omega arith in
    n ∙ ap (λ (x : List Set). set x i (union s (get_or x i []))) o ∙ ap (λ (x : Set). set (union_all (take i ss) ts) i (union x (get_or (union_all (take i ss) ts) i []))) (sym e)
    ∙ union_put ss ts i (union (get_or ss i []) (get_or (union_all (take i ss) ts) i [])) l (omega (arith, m, same)) refl ∙ ap (λ (k : ℕ). union_all (take k ss) ts) more

pub union_more : (ss ts old new : List Set) (i : ℕ) (s : Set) → i < length ss → length old ≤ i → old ≡ union_all (take i ss) ts → get_or ss i [] ≡ s
    → new ≡ old ++ s ∷ [] → new ≡ union_all (take (i + 1) ss) ts
union_more ss ts old new i s l m o e n =
    let same = ap (λ (x : List Set). length x) o in
    let more : suc i ≡ i + 1 = omega arith in
    n ∙ ap (λ (x : List Set). x ++ s ∷ []) o ∙ ap (λ (x : Set). union_all (take i ss) ts ++ x ∷ []) (sym e)
    ∙ union_push ss ts i l (omega (arith, m, same)) ∙ ap (λ (k : ℕ). union_all (take k ss) ts) more
