-- Facts of one value apart from the others: put among them again, they are all facts.
use Rattle.std.specs.Prelude.{◌≡◌, ◌⊎◌, ℕ, suc, ◌+◌, ◌<◌, ◌≤◌, Bool, true, false, cond, ◌&&◌, nat_lt, ◌==◌, List, [], ◌∷◌, ◌++◌, length, take, drop, get_or, Option, Some, None, refl}
use Rattle.std.proofs.Common.{arith, ap, sym, subst, ◌∙◌, inl, inr}
use Rattle.std.proofs.lemmas.Bool.{eqb-false, ne_eqb, ltb-true, ltb-false, cases_lt}
use Rattle.std.proofs.lemmas.List.{append_assoc, append-nil, take-append-drop, take_more, drop_more, take-map, drop-map, take_all, map-append}
use Rattle.model_prove.specs.Sets.{Set, is_full, only_value}
use Rattle.model_prove.specs.Facts.{fact_at, fact_before, with_fact, fact_follows, follow}
use Rattle.prove_facts.specs.declared.facts.Fact.{Fact}
use Rattle.prove_facts.specs.declared.packed.One.{One}
use Rattle.prove_facts.specs.Facts.{fact_of, facts_of, AreSparse, AreBelow, AreFrom}
use Rattle.prove_facts.specs.Packed.{one_of, ones_of, among, AreApart}
use Rattle.prove_facts.specs.Packing.{AreBefore, Packs}
use Rattle.prove_facts.proofs.FactLemmas.{sparse_lower, from_lower, below_higher, sparse_append, sparse_from, at_after, at_none, with_below, with_above, follow_with, drop_fact}
use Rattle.prove_facts.proofs.CoverLemmas.{rest_sparse}

abbrev Known : Type 0
Known = List (ℕ × Set)

-- ---- one fact put among others

before_push : (b : Bool) (o d e : ℕ × Set) (f r : Known) → with_fact o (f ++ e ∷ []) ≡ with_fact o f ++ e ∷ []
    → fact_before b o d (f ++ e ∷ []) (with_fact o (f ++ e ∷ [])) ≡ fact_before b o d f (with_fact o f) ++ e ∷ []
before_push true o d e f r h = refl
before_push false o d e f r h = ap (λ (g : Known). d ∷ g) h

with_push : (o e : ℕ × Set) (f : Known) → o.0 < e.0 → with_fact o (f ++ e ∷ []) ≡ with_fact o f ++ e ∷ []
with_push o e [] h = with_above (e ∷ []) o (omega (arith, h), tt)
with_push o e (d ∷ f) h = before_push (nat_lt o.0 d.0) o d e f [] (with_push o e f h)

at_pushed : (b c : Bool) (d e : ℕ × Set) (f : Known) (a : ℕ) → cond b (Some d.1) (fact_at f a) ≡ None → (fact_at f a ≡ None → fact_at (f ++ e ∷ []) a ≡ None)
    → cond b (Some d.1) (fact_at (f ++ e ∷ []) a) ≡ None
at_pushed true c d e f a h k = absurd (cc h)
at_pushed false c d e f a h k = k h

at_push : (f : Known) (e : ℕ × Set) (a : ℕ) → a < e.0 → fact_at f a ≡ None → fact_at (f ++ e ∷ []) a ≡ None
at_push [] e a h k = at_none (e ∷ []) (suc a) a (omega (arith, h), tt) (omega arith)
at_push (d ∷ f) e a h k = at_pushed (d.0 == a) true d e f a k (at_push f e a h)

at_below : (f : Known) (a : ℕ) → AreBelow a f → fact_at f a ≡ None
at_below f a b = ap (λ (g : Known). fact_at g a) (sym (append-nil f)) ∙ at_after f [] a b

below_push : (f : Known) (e : ℕ × Set) (k : ℕ) → AreBelow k f → e.0 < k → AreBelow k (f ++ e ∷ [])
below_push [] e k b h = (h, tt)
below_push (d ∷ f) e k b h = (b.0, below_push f e k b.1 h)

sparse_push : (f : Known) (e : ℕ × Set) → AreSparse 0 f → AreBelow e.0 f → is_full e.1 ≡ false → AreSparse 0 (f ++ e ∷ [])
sparse_push f e s b h = sparse_append 0 e.0 f (e ∷ []) s b (omega arith) (omega arith, h, tt)

apart_one : (os ss : Known) (e : ℕ × Set) → AreApart os ss → fact_at ss e.0 ≡ None → AreApart (os ++ e ∷ []) ss
apart_one [] ss e a h = (h, tt)
apart_one (o ∷ os) ss e a h = (a.0, apart_one os ss e a.1 h)

apart_set : (os ss : Known) (e : ℕ × Set) → AreApart os ss → AreBelow e.0 os → AreApart os (ss ++ e ∷ [])
apart_set [] ss e a b = tt
apart_set (o ∷ os) ss e a b = (at_push ss e o.0 b.0 a.0, apart_set os ss e a.1 b.1)

among_one : (os ss : Known) (e : ℕ × Set) → AreBelow e.0 os → AreBelow e.0 ss → among (os ++ e ∷ []) ss ≡ among os ss ++ e ∷ []
among_one [] ss e b c = ap (λ (f : Known). with_fact e f) (sym (append-nil ss)) ∙ with_below ss [] e c
among_one (o ∷ os) ss e b c = ap (λ (f : Known). with_fact o f) (among_one os ss e b.1 c) ∙ with_push o e (among os ss) b.0

among_set : (os ss : Known) (e : ℕ × Set) → AreBelow e.0 os → among os (ss ++ e ∷ []) ≡ among os ss ++ e ∷ []
among_set [] ss e b = refl
among_set (o ∷ os) ss e b = ap (λ (f : Known). with_fact o f) (among_set os ss e b.1) ∙ with_push o e (among os ss) b.0

before_next : (e : ℕ × Set) (more f : Known) → AreSparse e.0 (e ∷ more) → AreBelow e.0 f → AreBefore more f
before_next e [] f s b = tt
before_next e (d ∷ more) f s b = below_higher e.0 d.0 f (omega (arith, s.2.0)) b

before_added : (e : ℕ × Set) (more f : Known) → AreSparse e.0 (e ∷ more) → AreBelow e.0 f → AreBefore more (f ++ e ∷ [])
before_added e [] f s b = tt
before_added e (d ∷ more) f s b = below_push f e d.0 (below_higher e.0 d.0 f (omega (arith, s.2.0)) b) (omega (arith, s.2.0))

pub packs_one : (first more os ss : Known) (e : ℕ × Set) → AreSparse e.0 (e ∷ more) → Packs first (e ∷ more) os ss → Packs (first ++ e ∷ []) more (os ++ e ∷ []) ss
packs_one first more os ss e s p = grind (arith, sparse_push, apart_one, at_below, before_added, before_next, among_one)

pub packs_set : (first more os ss : Known) (e : ℕ × Set) → AreSparse e.0 (e ∷ more) → Packs first (e ∷ more) os ss → Packs (first ++ e ∷ []) more os (ss ++ e ∷ [])
packs_set first more os ss e s p = grind (arith, sparse_push, apart_set, before_next, before_added, among_set)

pub packs_none : (more : Known) → Packs [] more [] []
packs_none [] = record { ones_sparse = tt; sets_sparse = tt; apart = tt; ones_before = tt; sets_before = tt; same = refl }
packs_none (e ∷ more) = record { ones_sparse = tt; sets_sparse = tt; apart = tt; ones_before = tt; sets_before = tt; same = refl }

-- ---- all facts again

from_before : (b : Bool) (k : ℕ) (e d : ℕ × Set) (f r : Known) → k ≤ e.0 → k ≤ d.0 → AreFrom k f → AreFrom k r → AreFrom k (fact_before b e d f r)
from_before true k e d f r h i s t = (h, (i, s))
from_before false k e d f r h i s t = (i, t)

from_with : (k : ℕ) (e : ℕ × Set) (f : Known) → k ≤ e.0 → AreFrom k f → AreFrom k (with_fact e f)
from_with k e [] h s = (h, tt)
from_with k e (d ∷ f) h s = from_before (nat_lt e.0 d.0) k e d f (with_fact e f) h s.0 s.1 (from_with k e f h s.1)

from_among : (k : ℕ) (os ss : Known) → AreFrom k os → AreFrom k ss → AreFrom k (among os ss)
from_among k [] ss s t = t
from_among k (o ∷ os) ss s t = from_with k o (among os ss) s.0 (from_among k os ss s.1 t)

among_below : (k : ℕ) (os f g : Known) → AreBelow k f → AreFrom k os → among os (f ++ g) ≡ f ++ among os g
among_below k [] f g b s = refl
among_below k (o ∷ os) f g b s =
    ap (λ (r : Known). with_fact o r) (among_below k os f g b s.1) ∙ with_below f (among os g) o (below_higher k o.0 f s.0 b)

-- the first fact of one value follows what is before it
pub among_first : (o : ℕ × Set) (os f g : Known) → AreBelow o.0 f → AreFrom (suc o.0) os → AreFrom (suc o.0) g → among (o ∷ os) (f ++ g) ≡ f ++ (o ∷ among os g)
among_first o os f g b s t =
    among_below o.0 (o ∷ os) f g b (omega arith, from_lower o.0 (suc o.0) os (omega arith) s)
    ∙ ap (λ (r : Known). f ++ r) (with_above (among os g) o (from_among (suc o.0) os g s t))

pub apart_rest : (k : ℕ) (os f g : Known) → AreBelow k f → AreFrom k os → AreApart os (f ++ g) → AreApart os g
apart_rest k [] f g b s a = tt
apart_rest k (o ∷ os) f g b s a = (sym (at_after f g o.0 (below_higher k o.0 f s.0 b)) ∙ a.0, apart_rest k os f g b s.1 a.1)

at_before : (b : Bool) (e d : ℕ × Set) (f r : Known) (a : ℕ) → (e.0 == a) ≡ false → fact_at r a ≡ fact_at f a → fact_at (fact_before b e d f r) a ≡ fact_at (d ∷ f) a
at_before true e d f r a i h = ap (λ (c : Bool). cond c (Some e.1) (fact_at (d ∷ f) a)) i
at_before false e d f r a i h = ap (λ (o : Option Set). cond (d.0 == a) (Some d.1) o) h

at_with : (e : ℕ × Set) (f : Known) (a : ℕ) → (e.0 == a) ≡ false → fact_at (with_fact e f) a ≡ fact_at f a
at_with e [] a i = ap (λ (c : Bool). cond c (Some e.1) None) i
at_with e (d ∷ f) a i = at_before (nat_lt e.0 d.0) e d f (with_fact e f) a i (at_with e f a i)

at_among : (os ss : Known) (a : ℕ) → AreFrom (suc a) os → fact_at (among os ss) a ≡ fact_at ss a
at_among [] ss a s = refl
at_among (o ∷ os) ss a s = at_with o (among os ss) a (ne_eqb o.0 a (λ i. omega (arith, i, s.0))) ∙ at_among os ss a s.1

not_first : (b : Bool) (d : ℕ × Set) (r : Option Set) → cond b (Some d.1) r ≡ None → b ≡ false
not_first true d r h = absurd (cc h)
not_first false d r h = refl

rest_none : (b : Bool) (d : ℕ × Set) (r : Option Set) → cond b (Some d.1) r ≡ None → r ≡ None
rest_none true d r h = absurd (cc h)
rest_none false d r h = h

sparse_before : (b : Bool) (k : ℕ) (e d : ℕ × Set) (f r : Known) → nat_lt e.0 d.0 ≡ b → (d.0 == e.0) ≡ false → k ≤ e.0 → is_full e.1 ≡ false → AreSparse k (d ∷ f)
    → (suc d.0 ≤ e.0 → AreSparse (suc d.0) r) → AreSparse k (fact_before b e d f r)
sparse_before b k e d f r i n h u s t = grind (arith, ltb-true, ltb-false, cases_lt, eqb-false)

sparse_with : (k : ℕ) (e : ℕ × Set) (f : Known) → k ≤ e.0 → is_full e.1 ≡ false → AreSparse k f → fact_at f e.0 ≡ None → AreSparse k (with_fact e f)
sparse_with k e [] h u s n = (h, u, tt)
sparse_with k e (d ∷ f) h u s n =
    sparse_before (nat_lt e.0 d.0) k e d f (with_fact e f) refl (not_first (d.0 == e.0) d (fact_at f e.0) n) h u s
    (λ l. sparse_with (suc d.0) e f l u s.2 (rest_none (d.0 == e.0) d (fact_at f e.0) n))

pub sparse_among : (k : ℕ) (os ss : Known) → AreSparse k os → AreSparse k ss → AreApart os ss → AreSparse k (among os ss)
sparse_among k [] ss s t a = t
sparse_among k (o ∷ os) ss s t a =
    sparse_with k o (among os ss) s.0 s.1 (sparse_among k os ss (sparse_lower k (suc o.0) os (omega (arith, s.0)) s.2) t a.1)
    (at_among os ss o.0 (sparse_from (suc o.0) os s.2) ∙ a.0)

-- ---- what follows

grouped : (p q r : Bool) → (p && (q && r)) ≡ ((p && q) && r)
grouped true q r = refl
grouped false q r = refl

pub follow_among : (g os ss : Known) → follow g (among os ss) ≡ (follow g os && follow g ss)
follow_among g [] ss = refl
follow_among g (o ∷ os) ss =
    follow_with g o (among os ss) ∙ ap (λ (b : Bool). fact_follows g o && b) (follow_among g os ss) ∙ grouped (fact_follows g o) (follow g os) (follow g ss)

-- ---- steps of loops

-- a set of one value
pub only_of : (s : Set) (v : ℕ) → only_value s ≡ Some v → s ≡ v ∷ []
only_of s v h = grind arith

pub drop_one : (l : List One) (i : ℕ) (d : One) → i < length l → drop i (ones_of l) ≡ one_of (get_or l i d) ∷ drop (i + 1) (ones_of l)
drop_one l i d h =
    drop-map one_of i l ∙ ap (λ (r : List One). ones_of r) (drop_more l i d h) ∙ ap (λ (r : Known). one_of (get_or l i d) ∷ r) (sym (drop-map one_of (i + 1) l))

pub take_fact : (l : List Fact) (i : ℕ) (d : Fact) → i < length l → take (i + 1) (facts_of l) ≡ take i (facts_of l) ++ fact_of (get_or l i d) ∷ []
take_fact l i d h =
    take-map fact_of (i + 1) l ∙ ap (λ (r : List Fact). facts_of r) (take_more l i d h) ∙ map-append fact_of (take i l) (get_or l i d ∷ [])
    ∙ ap (λ (r : Known). r ++ fact_of (get_or l i d) ∷ []) (sym (take-map fact_of i l))

packs_by : (first more os ss os2 ss2 : Known) (x : ℕ × Set) → AreSparse x.0 (x ∷ more) → Packs first (x ∷ more) os ss
    → ((os2 ≡ os ++ x ∷ []) × (ss2 ≡ ss)) ⊎ ((os2 ≡ os) × (ss2 ≡ ss ++ x ∷ [])) → Packs (first ++ x ∷ []) more os2 ss2
packs_by first more os ss os2 ss2 x s p h =
    elim h [
      | inl a ↦ subst (λ (o : Known). Packs (first ++ x ∷ []) more o ss2) (sym a.0)
          (subst (λ (t : Known). Packs (first ++ x ∷ []) more (os ++ x ∷ []) t) (sym a.1) (packs_one first more os ss x s p))
      | inr b ↦ subst (λ (o : Known). Packs (first ++ x ∷ []) more o ss2) (sym b.0)
          (subst (λ (t : Known). Packs (first ++ x ∷ []) more os t) (sym b.1) (packs_set first more os ss x s p))
    ]

-- one fact more is packed
pub packs_turn : (l : List Fact) (i : ℕ) (d : Fact) (os ss os2 ss2 : Known) → i < length l → AreSparse 0 (facts_of l)
    → Packs (take i (facts_of l)) (drop i (facts_of l)) os ss
    → ((os2 ≡ os ++ fact_of (get_or l i d) ∷ []) × (ss2 ≡ ss)) ⊎ ((os2 ≡ os) × (ss2 ≡ ss ++ fact_of (get_or l i d) ∷ []))
    → Packs (take (i + 1) (facts_of l)) (drop (i + 1) (facts_of l)) os2 ss2
packs_turn l i d os ss os2 ss2 h s p a =
    let e = drop_fact l i d h in
    let x = fact_of (get_or l i d) in
    let q : Packs (take i (facts_of l)) (x ∷ drop (i + 1) (facts_of l)) os ss = subst (λ (m : Known). Packs (take i (facts_of l)) m os ss) e p in
    subst (λ (f : Known). Packs f (drop (i + 1) (facts_of l)) os2 ss2) (sym (take_fact l i d h))
    (packs_by (take i (facts_of l)) (drop (i + 1) (facts_of l)) os ss os2 ss2 x (rest_sparse (facts_of l) (drop (i + 1) (facts_of l)) i x s e) q a)

-- all facts are packed
pub packs_all : (f os ss more : Known) (n : ℕ) → length f ≤ n → Packs (take n f) more os ss → among os ss ≡ f
packs_all f os ss more n h p = p.same ∙ take_all n f h

-- what a turn over facts of one value leaves: others that are put among them, and the facts so far
pub record Merges (more rest new whole : Known) : Type 0 where
  pub sparse : AreSparse 0 rest
  pub apart : AreApart more rest
  pub same : new ++ among more rest ≡ whole

-- facts without one of an address are from the next one on
from_after : (a : ℕ) (g : Known) → AreSparse a g → fact_at g a ≡ None → AreFrom (suc a) g
from_after a [] s h = tt
from_after a (d ∷ g) s h =
    let n = not_first (d.0 == a) d (fact_at g a) h in
    let l : a < d.0 = elim (cases_lt a d.0) [ inl k ↦ k | inr k ↦ absurd (eqb-false d.0 a n (omega (arith, k, s.0))) ] in
    (omega (arith, l), from_lower (suc a) (suc d.0) g (omega (arith, l)) (sparse_from (suc d.0) g s.2))

merged_by : (more front rest list new whole : Known) (o : ℕ × Set) → AreSparse o.0 (o ∷ more) → AreApart (o ∷ more) (front ++ rest) → AreBelow o.0 front
    → AreSparse o.0 rest → new ≡ (list ++ front) ++ o ∷ [] → list ++ among (o ∷ more) (front ++ rest) ≡ whole → Merges more rest new whole
merged_by more front rest list new whole o s a b c n w =
    let t = sparse_from (suc o.0) more s.2 in
    let g = from_after o.0 rest c (sym (at_after front rest o.0 b) ∙ a.0) in
    record {
      sparse = sparse_lower 0 o.0 rest (omega arith) c;
      apart = apart_rest o.0 more front rest b (from_lower o.0 (suc o.0) more (omega arith) t) a.1;
      same = ap (λ (r : Known). r ++ among more rest) n ∙ append_assoc (list ++ front) (o ∷ []) (among more rest) ∙ append_assoc list front (o ∷ among more rest)
          ∙ ap (λ (r : Known). list ++ r) (sym (among_first o more front rest b t g)) ∙ w;
    }

-- the facts before one of a single value, and this
pub merge_turn : (f more rest list new whole : Known) (o : ℕ × Set) (n : ℕ) → f ≡ o ∷ more → AreSparse o.0 (o ∷ more) → AreApart f rest → AreBelow o.0 (take n rest)
    → AreSparse o.0 (drop n rest) → new ≡ (list ++ take n rest) ++ o ∷ [] → list ++ among f rest ≡ whole → Merges more (drop n rest) new whole
merge_turn f more rest list new whole o n e s a b c m w =
    let t = sym (take-append-drop n rest) in
    let p : AreApart (o ∷ more) (take n rest ++ drop n rest) = subst (λ (r : Known). AreApart (o ∷ more) r) t (subst (λ (g : Known). AreApart g rest) e a) in
    merged_by more (take n rest) (drop n rest) list new whole o s p b c m
    (ap (λ (g : Known). list ++ among (o ∷ more) g) (sym t) ∙ ap (λ (g : Known). list ++ among g rest) (sym e) ∙ w)

merged_items : (old rs mid new : List Fact) (x : Fact) (n : ℕ) (o : ℕ × Set) → mid ≡ old ++ take n rs → new ≡ mid ++ x ∷ [] → fact_of x ≡ o
    → facts_of new ≡ (facts_of old ++ take n (facts_of rs)) ++ o ∷ []
merged_items old rs mid new x n o m k i = grind (arith, map-append, take-map)

-- a turn over the lists themselves
pub merge_step : (f more next whole : Known) (rs old mid new : List Fact) (x : Fact) (o : ℕ × Set) (n : ℕ) → f ≡ o ∷ more → AreSparse o.0 (o ∷ more) → AreApart f (facts_of rs)
    → AreBelow o.0 (take n (facts_of rs)) → AreSparse o.0 (drop n (facts_of rs)) → mid ≡ old ++ take n rs → new ≡ mid ++ x ∷ [] → fact_of x ≡ o
    → next ≡ drop n (facts_of rs) → facts_of old ++ among f (facts_of rs) ≡ whole → Merges more next (facts_of new) whole
merge_step f more next whole rs old mid new x o n e s a b c m k i d w =
    subst (λ (g : Known). Merges more g (facts_of new) whole) (sym d)
    (merge_turn f more (facts_of rs) (facts_of old) (facts_of new) whole o n e s a b c (merged_items old rs mid new x n o m k i) w)

-- each of two kinds of facts follows
pub covers_by : (g os ss all : Known) (a b : Bool) → a ≡ follow g os → b ≡ follow g ss → among os ss ≡ all → (a && b) ≡ follow g all
covers_by g os ss all a b i j e =
    ap (λ (c : Bool). c && b) i ∙ ap (λ (c : Bool). follow g os && c) j ∙ sym (follow_among g os ss) ∙ ap (λ (f : Known). follow g f) e
