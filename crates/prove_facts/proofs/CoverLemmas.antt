-- Turns of loops over two lists of facts: what is left of one of them, and what is looked up in the other.
use Rattle.std.specs.Prelude.{◌≡◌, ℕ, ◌<◌, ◌≤◌, Bool, false, ◌&&◌, List, [], ◌∷◌, ◌++◌, length, drop, get_or}
use Rattle.std.proofs.Common.{arith, ap, sym, subst, ◌∙◌}
use Rattle.model_prove.specs.Sets.{Set, all_bytes, is_full, is_subset}
use Rattle.model_prove.specs.Facts.{fact_at, values_at, joined_fact, join, follow}
use Rattle.prove_facts.specs.declared.facts.Fact.{Fact}
use Rattle.prove_facts.specs.Facts.{fact_of, facts_of, AreSparse, Agree}
use Rattle.prove_facts.proofs.FactLemmas.{sparse_lower, sparse_drop, agree_rest, follow_step, join_step, first_values, joined_first}

abbrev Known : Type 0
Known = List (ℕ × Set)

-- without facts a byte has any value
pub none_within : (l : List Fact) (a : ℕ) (s : Set) → length l < 1 → is_subset all_bytes s ≡ false → false ≡ is_subset (values_at (facts_of l) a) s
none_within [] a s h n = sym n
none_within (e ∷ l) a s h n = absurd (omega (arith, h))

-- the first fact decides
pub first_within : (l : List Fact) (d : Fact) (a : ℕ) (s : Set) (b : Bool) → 1 ≤ length l → AreSparse a (facts_of l)
    → b ≡ is_subset (values_at (fact_of (get_or l 0 d) ∷ []) a) s → b ≡ is_subset (values_at (facts_of l) a) s
first_within [] d a s b h o i = absurd (omega (arith, h))
first_within (e ∷ l) d a s b h o i = i ∙ ap (λ (t : Set). is_subset t s) (first_values (fact_of e) (facts_of l) a o)

pub first_joined : (l : List Fact) (d : Fact) (e : ℕ × Set) (f new : Known) → 1 ≤ length l → AreSparse e.0 (facts_of l)
    → new ≡ f ++ joined_fact e (fact_at (fact_of (get_or l 0 d) ∷ []) e.0) [] → new ≡ f ++ joined_fact e (fact_at (facts_of l) e.0) []
first_joined [] d e f new h o i = absurd (omega (arith, h))
first_joined (x ∷ l) d e f new h o i = joined_first e (fact_of x) (facts_of l) f new o i

-- what is left of facts without two for a byte
pub rest_sparse : (f more : Known) (i : ℕ) (x : ℕ × Set) → AreSparse 0 f → drop i f ≡ x ∷ more → AreSparse x.0 (x ∷ more)
rest_sparse f more i x s e = grind (arith, subst (λ (g : Known). AreSparse 0 g) e (sparse_drop 0 i f s))

-- what a turn over facts keeps: what is looked up goes on from a place
pub record Turns (more next g : Known) : Type 0 where
  pub sparse : AreSparse 0 next
  pub agree : Agree more next g

pub turn_of : (f more g rest next : Known) (x : ℕ × Set) → f ≡ x ∷ more → AreSparse x.0 (x ∷ more) → Agree f rest g
    → ((a : ℕ) → x.0 ≤ a → fact_at next a ≡ fact_at rest a) → AreSparse x.0 next → Turns more next g
turn_of f more g rest next x e s a same n =
    record {
      sparse = sparse_lower 0 x.0 next (omega arith) n;
      agree = agree_rest x x.0 more rest next g s (subst (λ (h : Known). Agree h rest g) e a) same;
    }

-- the next fact follows or not, and then those after it
pub cover_turn : (f more g rest next : Known) (x : ℕ × Set) (b : Bool) → f ≡ x ∷ more → AreSparse x.0 (x ∷ more) → Agree f rest g
    → ((a : ℕ) → x.0 ≤ a → fact_at next a ≡ fact_at rest a) → AreSparse x.0 next
    → (AreSparse x.0 next → is_full x.1 ≡ false → b ≡ is_subset (values_at next x.0) x.1) → follow g f ≡ (b && follow g more)
cover_turn f more g rest next x b e s a same n test =
    ap (λ (h : Known). follow g h) e ∙ follow_step g more rest next x b (subst (λ (h : Known). Agree h rest g) e a) same (test n s.1)

-- the next fact is joined, and then those after it
pub join_turn : (f more both new g rest next whole : Known) (x : ℕ × Set) → f ≡ x ∷ more → Agree f rest g
    → ((a : ℕ) → x.0 ≤ a → fact_at next a ≡ fact_at rest a) → new ≡ both ++ joined_fact x (fact_at next x.0) [] → both ++ join f g ≡ whole
    → new ++ join more g ≡ whole
join_turn f more both new g rest next whole x e a same n w =
    join_step both new more rest next g whole x (subst (λ (h : Known). Agree h rest g) e a) same n (ap (λ (h : Known). both ++ join h g) (sym e) ∙ w)
