-- Lists of values of bytes, one more at a time.
use Rattle.std.specs.Prelude.{◌≡◌, ℕ, suc, ◌+◌, ◌-◌, ◌<◌, ◌≤◌, List, [], ◌∷◌, ◌++◌, map, length, take, drop, get_or, nat_lt, true}
use Rattle.std.proofs.Common.{arith, ap, sym, subst, ◌∙◌, refl}
use Rattle.std.proofs.lemmas.Bool.{ltb-true}
use Rattle.std.proofs.lemmas.List.{length-map, take_all, drop_all}
use Rattle.prove_facts.specs.model_prove.specs.Sets.{Set, all_bytes}
use Rattle.prove_facts.specs.model_prove.specs.Facts.{Facts, values_at, values_from, within}
use Rattle.prove_facts.specs.model_prove.specs.Steps.{any_bytes}
use Rattle.prove_facts.specs.declared.values.Values.{Values}
use Rattle.prove_facts.specs.Sets.{set_of}
use Rattle.prove_facts.specs.declared.facts.Fact.{Fact}
use Rattle.prove_facts.specs.Facts.{fact_of, facts_of, AreSparse, AreBelow}
use Rattle.prove_facts.proofs.FactLemmas.{below_at, before_is}

-- the sets of a list with one more
sets_push : (vs : List Values) (v : Values) (rest : List Set) → map set_of (vs ++ v ∷ []) ++ rest ≡ map set_of vs ++ (set_of v ∷ rest)
sets_push [] v rest = refl
sets_push (x ∷ vs) v rest = ap (λ (t : List Set). set_of x ∷ t) (sets_push vs v rest)

-- the values of one byte more
pub value_more : (f : Facts) (a n i : ℕ) (vs : List Values) (v : Values) (w : List Set) → i < n → set_of v ≡ values_at f (a + i)
    → map set_of vs ++ values_from f (a + i) (n - i) ≡ w → map set_of (vs ++ v ∷ []) ++ values_from f (a + (i + 1)) (n - (i + 1)) ≡ w
value_more f a n i vs v w h e o =
    let left : n - i ≡ suc (n - (i + 1)) = omega arith in
    let rest : List Set = values_from f (a + (i + 1)) (n - (i + 1)) in
    let after : suc (a + i) ≡ a + (i + 1) = omega arith in
    let next : values_from f (a + i) (n - i) ≡ values_at f (a + i) ∷ rest =
    ap (values_from f (a + i)) left ∙ ap (λ (k : ℕ). values_at f (a + i) ∷ values_from f k (n - (i + 1))) after in
    sets_push vs v rest ∙ ap (λ (s : Set). map set_of vs ++ (s ∷ rest)) e ∙ ap (λ (t : List Set). map set_of vs ++ t) (sym next) ∙ o

-- once more all values
pub any_more : (n i : ℕ) (vs : List Values) (v : Values) → i < n → set_of v ≡ all_bytes → map set_of vs ++ any_bytes (n - i) ≡ any_bytes n
    → map set_of (vs ++ v ∷ []) ++ any_bytes (n - (i + 1)) ≡ any_bytes n
any_more n i vs v h e o =
    let left : n - i ≡ suc (n - (i + 1)) = omega arith in
    let rest : List Set = any_bytes (n - (i + 1)) in
    sets_push vs v rest ∙ ap (λ (s : Set). map set_of vs ++ (s ∷ rest)) e ∙ ap (λ (k : ℕ). map set_of vs ++ any_bytes k) (sym left) ∙ o

-- ---- the last fact

-- all facts are below an address above that of the last
pub last_below : (l : List Fact) (d : Fact) (f : Facts) (end : ℕ) → 1 ≤ length l → AreSparse 0 f → facts_of l ≡ f
    → nat_lt (get_or l (length l - 1) d).at end ≡ true → within 0 end f ≡ f
last_below l d f end h s e b =
    let n : ℕ = length l - 1 in
    let long : length f ≤ suc n = subst (λ (g : Facts). length g ≤ suc n) e (omega (arith, length-map l fact_of)) in
    let o : AreSparse 0 (facts_of l) = subst (λ (g : Facts). AreSparse 0 g) (sym e) s in
    let below : AreBelow end (take (suc n) f) = subst (λ (g : Facts). AreBelow end (take (suc n) g)) e (below_at 0 n end l d o (omega arith) (ltb-true _ _ b)) in
    let none : AreSparse end (drop (suc n) f) = subst (λ (g : Facts). AreSparse end g) (sym (drop_all (suc n) f long)) tt in
    before_is end (suc n) f s below none ∙ take_all (suc n) f long
