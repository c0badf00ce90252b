-- Facts in the order of their addresses: what is at an address, before it and after it.
use Rattle.std.specs.Prelude.{◌≡◌, ℕ, zero, suc, ◌+◌, ◌-◌, ◌<◌, ◌≤◌, Bool, true, false, cond, not, ◌&&◌, nat_lt, nat_le, ◌==◌, List, [], ◌∷◌, ◌++◌, length, take, drop, get_or, filter, unwrap_or, Option, Some, None, Result, Ok, Err, OnOk, OnErr, refl}
use Rattle.std.proofs.Common.{set, arith, ap, sym, subst, ◌∙◌, inl, inr}
use Rattle.std.proofs.lemmas.Bool.{and_from, and_left, and_right, eq-eqb, ne_eqb, eqb-true, eqb-false, leb-true, lt-ltb, le-ltb, le-leb, lt-leb, cases_lt, cases_Bool, both_ways}
use Rattle.std.proofs.lemmas.List.{take-append-drop, take_rest, take-map, drop-map, drop-take, append_assoc, append-nil, drop-drop, drop_more, drop_all, map-append}
use Rattle.model_prove.specs.Sets.{Set, all_bytes, union, is_full, is_subset}
use Rattle.model_prove.specs.Facts.{fact_at, values_at, without_byte, without_bytes, within, fact_before, with_fact, fact_unless, know, joined_fact, join, fact_follows, follow}
use Rattle.prove_facts.specs.declared.facts.Fact.{Fact}
use Rattle.prove_facts.specs.Sets.{set_of}
use Rattle.prove_facts.specs.Facts.{fact_of, facts_of, AreSparse, AreBelow, AreFrom, starts_at, fact_alone, Agree}

abbrev Known : Type 0
Known = List (ℕ × Set)

-- ---- order

pub sparse_lower : (j k : ℕ) (f : Known) → j ≤ k → AreSparse k f → AreSparse j f
sparse_lower j k [] h s = tt
sparse_lower j k (e ∷ f) h s = (omega (arith, h, s.0), s.1, s.2)

pub from_lower : (j k : ℕ) (f : Known) → j ≤ k → AreFrom k f → AreFrom j f
from_lower j k [] h s = tt
from_lower j k (e ∷ f) h s = (omega (arith, h, s.0), from_lower j k f h s.1)

pub sparse_from : (k : ℕ) (f : Known) → AreSparse k f → AreFrom k f
sparse_from k [] s = tt
sparse_from k (e ∷ f) s = (s.0, from_lower k (suc e.0) f (omega (arith, s.0)) (sparse_from (suc e.0) f s.2))

pub from_drop : (k n : ℕ) (f : Known) → AreFrom k f → AreFrom k (drop n f)
from_drop k zero f h = h
from_drop k (suc n) [] h = tt
from_drop k (suc n) (e ∷ f) h = from_drop k n f h.1

pub from_take : (k n : ℕ) (f : Known) → AreFrom k f → AreFrom k (take n f)
from_take k zero f h = tt
from_take k (suc n) [] h = tt
from_take k (suc n) (e ∷ f) h = (h.0, from_take k n f h.1)

pub below_drop : (k n : ℕ) (f : Known) → AreBelow k f → AreBelow k (drop n f)
below_drop k zero f h = h
below_drop k (suc n) [] h = tt
below_drop k (suc n) (e ∷ f) h = below_drop k n f h.1

pub below_take : (k n : ℕ) (f : Known) → AreBelow k f → AreBelow k (take n f)
below_take k zero f h = tt
below_take k (suc n) [] h = tt
below_take k (suc n) (e ∷ f) h = (h.0, below_take k n f h.1)

pub below_higher : (j k : ℕ) (f : Known) → j ≤ k → AreBelow j f → AreBelow k f
below_higher j k [] h b = tt
below_higher j k (e ∷ f) h b = (omega (arith, h, b.0), below_higher j k f h b.1)

-- a list is sparse if its parts are
pub sparse_append : (j k : ℕ) (f g : Known) → AreSparse j f → AreBelow k f → j ≤ k → AreSparse k g → AreSparse j (f ++ g)
sparse_append j k [] g s b h t = sparse_lower j k g h t
sparse_append j k (e ∷ f) g s b h t = (s.0, s.1, sparse_append (suc e.0) k f g s.2 b.1 (omega (arith, b.0)) t)

pub sparse_take : (j n : ℕ) (f : Known) → AreSparse j f → AreSparse j (take n f)
sparse_take j zero f s = tt
sparse_take j (suc n) [] s = tt
sparse_take j (suc n) (e ∷ f) s = (s.0, s.1, sparse_take (suc e.0) n f s.2)

pub sparse_drop : (j n : ℕ) (f : Known) → AreSparse j f → AreSparse j (drop n f)
sparse_drop j zero f s = s
sparse_drop j (suc n) [] s = tt
sparse_drop j (suc n) (e ∷ f) s = sparse_lower j (suc e.0) (drop n f) (omega (arith, s.0)) (sparse_drop (suc e.0) n f s.2)

-- ---- one fact of a list

pub least_at : (k n : ℕ) (l : List Fact) (d : Fact) → AreSparse k (facts_of l) → n < length l → k ≤ (get_or l n d).at
least_at k n [] d s h = absurd (omega (arith, h))
least_at k zero (e ∷ l) d s h = s.0
least_at k (suc n) (e ∷ l) d s h = let r = least_at (suc e.at) n l d s.2 (omega (arith, h)) in omega (arith, r, s.0)

-- what follows a fact is sparse from its address on
pub sparse_at : (k n : ℕ) (l : List Fact) (d : Fact) → AreSparse k (facts_of l) → n < length l → AreSparse ((get_or l n d).at) (drop n (facts_of l))
sparse_at k n [] d s h = absurd (omega (arith, h))
sparse_at k zero (e ∷ l) d s h = (omega arith, s.1, s.2)
sparse_at k (suc n) (e ∷ l) d s h = sparse_at (suc e.at) n l d s.2 (omega (arith, h))

-- a fact below an address has only such before it
pub below_at : (k n a : ℕ) (l : List Fact) (d : Fact) → AreSparse k (facts_of l) → n < length l → (get_or l n d).at < a → AreBelow a (take (suc n) (facts_of l))
below_at k n a [] d s h b = absurd (omega (arith, h))
below_at k zero a (e ∷ l) d s h b = (b, tt)
below_at k (suc n) a (e ∷ l) d s h b =
    let r = least_at (suc e.at) n l d s.2 (omega (arith, h)) in
    (omega (arith, r, b), below_at (suc e.at) n a l d s.2 (omega (arith, h)) b)

-- ---- look-ups

pub at_after : (f g : Known) (a : ℕ) → AreBelow a f → fact_at (f ++ g) a ≡ fact_at g a
at_after [] g a b = refl
at_after (e ∷ f) g a b = ap (λ (c : Bool). cond c (Some e.1) (fact_at (f ++ g) a)) (ne_eqb e.0 a (λ i. omega (arith, i, b.0))) ∙ at_after f g a b.1

pub at_none : (f : Known) (k a : ℕ) → AreFrom k f → a < k → fact_at f a ≡ None
at_none [] k a s h = refl
at_none (e ∷ f) k a s h = ap (λ (c : Bool). cond c (Some e.1) (fact_at f a)) (ne_eqb e.0 a (λ i. omega (arith, i, s.0, h))) ∙ at_none f k a s.1 h

-- the fact of a byte is among those from its address on
pub at_rest : (f : Known) (n a : ℕ) → AreBelow a (take n f) → fact_at f a ≡ fact_at (drop n f) a
at_rest f n a b = sym (ap (λ (g : Known). fact_at g a) (take-append-drop n f)) ∙ at_after (take n f) (drop n f) a b

-- the first of some facts decides its address
pub at_first : (e : ℕ × Set) (f : Known) (a : ℕ) → a ≤ e.0 → AreFrom (suc e.0) f → fact_at (e ∷ f) a ≡ fact_at (e ∷ []) a
at_first e f a h s = ap (λ (o : Option Set). cond (e.0 == a) (Some e.1) o) (at_none f (suc e.0) a s (omega (arith, h)))

-- ---- one fact more

pub without_below : (f g : Known) (a : ℕ) → AreBelow a f → without_byte a (f ++ g) ≡ f ++ without_byte a g
without_below [] g a b = refl
without_below (e ∷ f) g a b = grind (arith, ne_eqb, without_below f g a b.1)

pub without_above : (f : Known) (a k : ℕ) → AreFrom k f → a < k → without_byte a f ≡ f
without_above [] a k s h = refl
without_above (e ∷ f) a k s h = grind (arith, ne_eqb, without_above f a k s.1 h)

pub with_below : (f g : Known) (e : ℕ × Set) → AreBelow e.0 f → with_fact e (f ++ g) ≡ f ++ with_fact e g
with_below [] g e b = refl
with_below (d ∷ f) g e b = grind (arith, le-ltb, with_below f g e b.1)

pub with_above : (f : Known) (e : ℕ × Set) → AreFrom (suc e.0) f → with_fact e f ≡ e ∷ f
with_above [] e s = refl
with_above (d ∷ f) e s = ap (λ (c : Bool). fact_before c e d f (with_fact e f)) (lt-ltb e.0 d.0 (omega (arith, s.0)))

-- a list that does not start at an address is sparse from the next one on
pub sparse_next : (a : ℕ) (f : Known) → AreSparse a f → starts_at a f ≡ false → AreSparse (suc a) f
sparse_next a f s h = grind (arith, cases_lt, eqb-false)

unless_by : (b : Bool) (a : ℕ) (s : Set) (f g : Known) → AreBelow a f → AreFrom (suc a) g → fact_unless b (a, s) (f ++ g) ≡ f ++ (cond b [] ((a, s) ∷ []) ++ g)
unless_by true a s f g b h = refl
unless_by false a s f g b h = with_below f g (a, s) b ∙ ap (λ (r : Known). f ++ r) (with_above g (a, s) h)

-- a fact of a byte that has none
pub know_new : (a : ℕ) (s : Set) (f g : Known) → AreBelow a f → AreFrom (suc a) g → know a s (f ++ g) ≡ f ++ (fact_alone (a, s) ++ g)
know_new a s f g b h = grind (arith, without_below, without_above, unless_by)

without_first : (e : ℕ × Set) (g : Known) (a : ℕ) → (e.0 == a) ≡ true → AreFrom (suc a) g → without_byte a (e ∷ g) ≡ g
without_first e g a i h = ap (λ (c : Bool). cond (not c) (e ∷ without_byte a g) (without_byte a g)) i ∙ without_above g a (suc a) h (omega arith)

-- a fact of a byte that has one
pub know_there : (a : ℕ) (s : Set) (f g : Known) (e : ℕ × Set) → AreBelow a f → (e.0 == a) ≡ true → AreFrom (suc a) g
    → know a s (f ++ e ∷ g) ≡ f ++ (fact_alone (a, s) ++ g)
know_there a s f g e b i h = grind (arith, without_below, without_first, unless_by)

pub alone_sparse : (e : ℕ × Set) (b : Bool) (g : Known) → is_full e.1 ≡ b → AreSparse (suc e.0) g → AreSparse e.0 (cond b [] (e ∷ []) ++ g)
alone_sparse e true g i s = sparse_lower e.0 (suc e.0) g (omega arith) s
alone_sparse e false g i s = (omega arith, i, s)

-- ---- parts

keeps : (p : ℕ × Set → Bool) (e : ℕ × Set) (f g : Known) → p e ≡ true → filter p f ≡ g → filter p (e ∷ f) ≡ e ∷ g
keeps p e f g h k = ap (λ (c : Bool). cond c (e ∷ filter p f) (filter p f)) h ∙ ap (λ (r : Known). e ∷ r) k

leaves : (p : ℕ × Set → Bool) (e : ℕ × Set) (f g : Known) → p e ≡ false → filter p f ≡ g → filter p (e ∷ f) ≡ g
leaves p e f g h k = ap (λ (c : Bool). cond c (e ∷ filter p f) (filter p f)) h ∙ k

pub filter_both : (p : ℕ × Set → Bool) (f g : Known) → filter p (f ++ g) ≡ filter p f ++ filter p g
filter_both p [] g = refl
filter_both p (e ∷ f) g = grind (arith, cases_Bool, keeps, leaves, filter_both p f g)

abbrev Inside : ℕ → ℕ → ℕ × Set → Bool
Inside from to e = nat_le from e.0 && nat_lt e.0 to

inside_below : (from to : ℕ) (f : Known) → AreBelow from f → within from to f ≡ []
inside_below from to [] b = refl
inside_below from to (e ∷ f) b = leaves (Inside from to) e f [] (and_left (nat_le from e.0) (nat_lt e.0 to) (lt-leb from e.0 b.0)) (inside_below from to f b.1)

inside_above : (from to : ℕ) (f : Known) → AreFrom to f → within from to f ≡ []
inside_above from to [] s = refl
inside_above from to (e ∷ f) s = leaves (Inside from to) e f [] (and_right (nat_le from e.0) (nat_lt e.0 to) (le-ltb e.0 to s.0)) (inside_above from to f s.1)

inside_all : (from to : ℕ) (f : Known) → AreFrom from f → AreBelow to f → within from to f ≡ f
inside_all from to [] s b = refl
inside_all from to (e ∷ f) s b =
    keeps (Inside from to) e f f (and_from (nat_le from e.0) (nat_lt e.0 to) (le-leb from e.0 s.0) (lt-ltb e.0 to b.0)) (inside_all from to f s.1 b.1)

-- three parts of a list
pub three_parts : (m n : ℕ) (f : Known) → m ≤ n → f ≡ take m f ++ (take (n - m) (drop m f) ++ drop n f)
three_parts m n f h =
    let e : m + (n - m) ≡ n = omega (arith, h) in
    sym (take-append-drop m f)
    ∙ ap (λ (r : Known). take m f ++ r) (sym (take-append-drop (n - m) (drop m f)) ∙ ap (λ (r : Known). take (n - m) (drop m f) ++ r) (drop-drop (n - m) m f ∙ ap (λ (k : ℕ). drop k f) e))

middle_below : (m n : ℕ) (to : ℕ) (f : Known) → m ≤ n → AreBelow to (take n f) → AreBelow to (take (n - m) (drop m f))
middle_below m n to f h b =
    let e : m + (n - m) ≡ n = omega (arith, h) in
    subst (λ (r : Known). AreBelow to r) (ap (λ (k : ℕ). drop m (take k f)) (sym e) ∙ drop-take m (n - m) f) (below_drop to m (take n f) b)

-- the facts from one address to below another lie between two places
pub inside_is : (from to m n : ℕ) (f : Known) → m ≤ n → AreBelow from (take m f) → AreFrom from (drop m f) → AreBelow to (take n f) → AreFrom to (drop n f)
    → within from to f ≡ take (n - m) (drop m f)
inside_is from to m n f h a b c d =
    ap (λ (r : Known). within from to r) (three_parts m n f h)
    ∙ filter_both (Inside from to) (take m f) (take (n - m) (drop m f) ++ drop n f)
    ∙ ap (λ (r : Known). r ++ within from to (take (n - m) (drop m f) ++ drop n f)) (inside_below from to (take m f) a)
    ∙ filter_both (Inside from to) (take (n - m) (drop m f)) (drop n f)
    ∙ ap (λ (r : Known). within from to (take (n - m) (drop m f)) ++ r) (inside_above from to (drop n f) d)
    ∙ append-nil (within from to (take (n - m) (drop m f)))
    ∙ inside_all from to (take (n - m) (drop m f)) (from_take from (n - m) (drop m f) b) (middle_below m n to f h c)

-- none, if the places are in the other order
pub inside_none : (from to m n : ℕ) (f : Known) → n ≤ m → AreBelow from (take m f) → AreFrom to (drop n f) → within from to f ≡ []
inside_none from to m n f h a d =
    let e : n + (m - n) ≡ m = omega (arith, h) in
    ap (λ (r : Known). within from to r) (sym (take-append-drop m f))
    ∙ filter_both (Inside from to) (take m f) (drop m f)
    ∙ ap (λ (r : Known). r ++ within from to (drop m f)) (inside_below from to (take m f) a)
    ∙ inside_above from to (drop m f) (subst (λ (r : Known). AreFrom to r) (drop-drop (m - n) n f ∙ ap (λ (k : ℕ). drop k f) e) (from_drop to (m - n) (drop n f) d))

abbrev Outside : ℕ → ℕ → ℕ × Set → Bool
Outside a n e = not (nat_le a e.0 && nat_lt e.0 (a + n))

outside_below : (a n : ℕ) (f : Known) → AreBelow a f → without_bytes a n f ≡ f
outside_below a n [] b = refl
outside_below a n (e ∷ f) b = keeps (Outside a n) e f f (ap not (and_left (nat_le a e.0) (nat_lt e.0 (a + n)) (lt-leb a e.0 b.0))) (outside_below a n f b.1)

outside_above : (a n : ℕ) (f : Known) → AreFrom (a + n) f → without_bytes a n f ≡ f
outside_above a n [] s = refl
outside_above a n (e ∷ f) s = keeps (Outside a n) e f f (ap not (and_right (nat_le a e.0) (nat_lt e.0 (a + n)) (le-ltb e.0 (a + n) s.0))) (outside_above a n f s.1)

outside_none : (a n : ℕ) (f : Known) → AreFrom a f → AreBelow (a + n) f → without_bytes a n f ≡ []
outside_none a n [] s b = refl
outside_none a n (e ∷ f) s b =
    leaves (Outside a n) e f [] (ap not (and_from (nat_le a e.0) (nat_lt e.0 (a + n)) (le-leb a e.0 s.0) (lt-ltb e.0 (a + n) b.0))) (outside_none a n f s.1 b.1)

-- the facts but those of n bytes lie around two places
pub outside_is : (a k m n : ℕ) (f : Known) → m ≤ n → AreBelow a (take m f) → AreFrom a (drop m f) → AreBelow (a + k) (take n f) → AreFrom (a + k) (drop n f)
    → without_bytes a k f ≡ take m f ++ drop n f
outside_is a k m n f h p q r s =
    ap (λ (g : Known). without_bytes a k g) (three_parts m n f h)
    ∙ filter_both (Outside a k) (take m f) (take (n - m) (drop m f) ++ drop n f)
    ∙ ap (λ (g : Known). g ++ without_bytes a k (take (n - m) (drop m f) ++ drop n f)) (outside_below a k (take m f) p)
    ∙ ap (λ (g : Known). take m f ++ g) (filter_both (Outside a k) (take (n - m) (drop m f)) (drop n f))
    ∙ ap (λ (g : Known). take m f ++ (g ++ without_bytes a k (drop n f))) (outside_none a k (take (n - m) (drop m f)) (from_take a (n - m) (drop m f) q) (middle_below m n (a + k) f h r))
    ∙ ap (λ (g : Known). take m f ++ g) (outside_above a k (drop n f) s)

-- all, if none lies between
pub outside_all : (a k m : ℕ) (f : Known) → AreBelow a (take m f) → AreFrom (a + k) (drop m f) → without_bytes a k f ≡ f
outside_all a k m f p t =
    ap (λ (r : Known). without_bytes a k r) (sym (take-append-drop m f))
    ∙ filter_both (Outside a k) (take m f) (drop m f)
    ∙ ap (λ (r : Known). r ++ without_bytes a k (drop m f)) (outside_below a k (take m f) p)
    ∙ ap (λ (r : Known). take m f ++ r) (outside_above a k (drop m f) t)
    ∙ take-append-drop m f

-- the facts below an address are those before a place
pub before_is : (from m : ℕ) (f : Known) → AreSparse 0 f → AreBelow from (take m f) → AreSparse from (drop m f) → within 0 from f ≡ take m f
before_is from m f s a b =
    ap (λ (r : Known). within 0 from r) (sym (take-append-drop m f))
    ∙ filter_both (Inside 0 from) (take m f) (drop m f)
    ∙ ap (λ (r : Known). within 0 from (take m f) ++ r) (inside_above 0 from (drop m f) (sparse_from from (drop m f) b))
    ∙ append-nil (within 0 from (take m f))
    ∙ inside_all 0 from (take m f) (from_take 0 m f (sparse_from 0 f s)) a

kept_sparse : (b : Bool) (k : ℕ) (e : ℕ × Set) (f : Known) → k ≤ e.0 → is_full e.1 ≡ false → AreSparse (suc e.0) f → AreSparse k (cond b (e ∷ f) f)
kept_sparse true k e f h u s = (h, u, s)
kept_sparse false k e f h u s = sparse_lower k (suc e.0) f (omega (arith, h)) s

pub sparse_filter : (p : ℕ × Set → Bool) (k : ℕ) (f : Known) → AreSparse k f → AreSparse k (filter p f)
sparse_filter p k [] s = tt
sparse_filter p k (e ∷ f) s = kept_sparse (p e) k e (filter p f) s.0 s.1 (sparse_filter p (suc e.0) f s.2)

kept_within : (c d : Bool) (from : ℕ) (e : ℕ × Set) (f : Known) → nat_le from e.0 ≡ c → is_full e.1 ≡ false → AreSparse (suc e.0) f → AreSparse from f
    → AreSparse from (cond (c && d) (e ∷ f) f)
kept_within c d from e f i u s t = grind (arith, leb-true)

-- a part is sparse from its first address on
pub sparse_within : (from to : ℕ) (f : Known) (k : ℕ) → AreSparse k f → AreSparse from (within from to f)
sparse_within from to [] k s = tt
sparse_within from to (e ∷ f) k s =
    kept_within (nat_le from e.0) (nat_lt e.0 to) from e (within from to f) refl s.1 (sparse_filter (Inside from to) (suc e.0) f s.2) (sparse_within from to f (suc e.0) s.2)

-- ---- joins

by_full : (b : Bool) (k : ℕ) (e : ℕ × Set) (f : Known) → is_full e.1 ≡ b → k ≤ e.0 → AreSparse (suc e.0) f → AreSparse k (cond b f (e ∷ f))
by_full true k e f i h s = sparse_lower k (suc e.0) f (omega (arith, h)) s
by_full false k e f i h s = (h, i, s)

pub joined_sparse : (e : ℕ × Set) (o : Option Set) (k : ℕ) (f : Known) → k ≤ e.0 → AreSparse (suc e.0) f → AreSparse k (joined_fact e o f)
joined_sparse e None k f h s = sparse_lower k (suc e.0) f (omega (arith, h)) s
joined_sparse e (Some t) k f h s = by_full (is_full (union e.1 t)) k (e.0, union e.1 t) f refl h s

pub join_sparse : (k : ℕ) (f g : Known) → AreSparse k f → AreSparse k (join f g)
join_sparse k [] g s = tt
join_sparse k (e ∷ f) g s = joined_sparse e (fact_at g e.0) k (join f g) s.0 (join_sparse (suc e.0) f g s.2)

by_append : (b : Bool) (e : ℕ × Set) (f : Known) → cond b f (e ∷ f) ≡ cond b [] (e ∷ []) ++ f
by_append true e f = refl
by_append false e f = refl

-- one joined fact stands before the others
pub joined_append : (e : ℕ × Set) (o : Option Set) (f : Known) → joined_fact e o f ≡ joined_fact e o [] ++ f
joined_append e None f = refl
joined_append e (Some t) f = by_append (is_full (union e.1 t)) (e.0, union e.1 t) f

-- ---- what is left of a list agrees

pub agree_rest : (e : ℕ × Set) (k : ℕ) (more rest next f : Known) → AreSparse k (e ∷ more) → Agree (e ∷ more) rest f
    → ((a : ℕ) → e.0 ≤ a → fact_at next a ≡ fact_at rest a) → Agree more next f
agree_rest e k [] rest next f s h g = tt
agree_rest e k (d ∷ more) rest next f s h g = λ a l. g a (omega (arith, l, s.2.0)) ∙ h a (omega (arith, l, s.2.0))

-- ---- what follows

exchange : (p q r : Bool) → (p && (q && r)) ≡ (q && (p && r))
exchange p q r = grind arith

follow_before : (b : Bool) (g : Known) (e d : ℕ × Set) (f rest : Known) → follow g rest ≡ (fact_follows g e && follow g f)
    → follow g (fact_before b e d f rest) ≡ (fact_follows g e && follow g (d ∷ f))
follow_before true g e d f rest h = refl
follow_before false g e d f rest h = ap (λ (b : Bool). fact_follows g d && b) h ∙ exchange (fact_follows g d) (fact_follows g e) (follow g f)

pub follow_with : (g : Known) (e : ℕ × Set) (f : Known) → follow g (with_fact e f) ≡ (fact_follows g e && follow g f)
follow_with g e [] = refl
follow_with g e (d ∷ f) = follow_before (nat_lt e.0 d.0) g e d f (with_fact e f) (follow_with g e f)

-- ---- steps of loops

-- what is left begins with the next fact
pub drop_fact : (l : List Fact) (i : ℕ) (d : Fact) → i < length l → drop i (facts_of l) ≡ fact_of (get_or l i d) ∷ drop (i + 1) (facts_of l)
drop_fact l i d h =
    drop-map fact_of i l ∙ ap (λ (r : List Fact). facts_of r) (drop_more l i d h) ∙ ap (λ (r : Known). fact_of (get_or l i d) ∷ r) (sym (drop-map fact_of (i + 1) l))

-- the next fact follows, so what is left decides
pub follow_step : (g more rest next : Known) (e : ℕ × Set) (b : Bool) → Agree (e ∷ more) rest g → ((a : ℕ) → e.0 ≤ a → fact_at next a ≡ fact_at rest a)
    → b ≡ is_subset (values_at next e.0) e.1 → follow g (e ∷ more) ≡ (b && follow g more)
follow_step g more rest next e b h n i = grind arith

-- the next fact is joined
pub join_step : (both new more rest next g whole : Known) (e : ℕ × Set) → Agree (e ∷ more) rest g → ((a : ℕ) → e.0 ≤ a → fact_at next a ≡ fact_at rest a)
    → new ≡ both ++ joined_fact e (fact_at next e.0) [] → both ++ join (e ∷ more) g ≡ whole → new ++ join more g ≡ whole
join_step both new more rest next g whole e h n i w = grind (arith, append_assoc, joined_append)

-- ---- edits of lists

-- no fact at a place or after it
pub values_past : (f : Known) (n a : ℕ) → length f ≤ n → AreBelow a (take n f) → values_at f a ≡ all_bytes
values_past f n a h b = ap (λ (o : Option Set). unwrap_or o all_bytes) (at_rest f n a b ∙ ap (λ (g : Known). fact_at g a) (drop_all n f h))

pub values_first : (l : List Fact) (n a : ℕ) (d : Fact) → n < length l → AreBelow a (take n (facts_of l)) → AreSparse a (drop n (facts_of l))
    → values_at (fact_of (get_or l n d) ∷ []) a ≡ values_at (facts_of l) a
values_first l n a d h b s =
    let e = drop_fact l n d h in
    let t : AreSparse a (fact_of (get_or l n d) ∷ drop (n + 1) (facts_of l)) = subst (λ (f : Known). AreSparse a f) e s in
    sym (ap (λ (o : Option Set). unwrap_or o all_bytes) (at_rest (facts_of l) n a b ∙ ap (λ (f : Known). fact_at f a) e
    ∙ at_first (fact_of (get_or l n d)) (drop (n + 1) (facts_of l)) a t.0 (sparse_from (suc (get_or l n d).at) (drop (n + 1) (facts_of l)) t.2)))

pub starts_past : (l : List Fact) (n a : ℕ) → length l ≤ n → starts_at a (drop n (facts_of l)) ≡ false
starts_past l n a h = ap (λ (f : Known). starts_at a f) (drop-map fact_of n l ∙ ap (λ (r : List Fact). facts_of r) (drop_all n l h))

pub starts_here : (l : List Fact) (n a : ℕ) (d : Fact) → n < length l → starts_at a (drop n (facts_of l)) ≡ ((get_or l n d).at == a)
starts_here l n a d h = ap (λ (f : Known). starts_at a f) (drop_fact l n d h)

there_by : (a g : Known) (e : ℕ × Set) → AreSparse 0 a → AreBelow e.0 a → AreSparse e.0 g → starts_at e.0 g ≡ true
    → (know e.0 e.1 (a ++ g) ≡ a ++ (fact_alone e ++ drop 1 g)) × AreSparse 0 (a ++ (fact_alone e ++ drop 1 g))
there_by a g e s b t h = grind (arith, eqb-true, know_there, sparse_from, sparse_append, alone_sparse)

new_by : (a g : Known) (e : ℕ × Set) → AreSparse 0 a → AreBelow e.0 a → AreSparse e.0 g → starts_at e.0 g ≡ false
    → (know e.0 e.1 (a ++ g) ≡ a ++ (fact_alone e ++ g)) × AreSparse 0 (a ++ (fact_alone e ++ g))
new_by a g e s b t h = grind (arith, sparse_next, know_new, sparse_from, sparse_append, alone_sparse)

next_drop : (n : ℕ) (f : Known) → drop 1 (drop n f) ≡ drop (suc n) f
next_drop n f = let e : n + 1 ≡ suc n = omega arith in drop-drop 1 n f ∙ ap (λ (k : ℕ). drop k f) e

-- a fact put in the place of that of its byte
pub put_there : (f new : Known) (n : ℕ) (e : ℕ × Set) → AreSparse 0 f → AreBelow e.0 (take n f) → AreSparse e.0 (drop n f) → starts_at e.0 (drop n f) ≡ true
    → new ≡ take n f ++ (fact_alone e ++ drop (suc n) f) → (new ≡ know e.0 e.1 f) × AreSparse 0 new
put_there f new n e s b t h i =
    let p = there_by (take n f) (drop n f) e (sparse_take 0 n f s) b t h in
    let j : new ≡ take n f ++ (fact_alone e ++ drop 1 (drop n f)) = i ∙ ap (λ (r : Known). take n f ++ (fact_alone e ++ r)) (sym (next_drop n f)) in
    (j ∙ sym p.0 ∙ ap (λ (g : Known). know e.0 e.1 g) (take-append-drop n f), subst (λ (g : Known). AreSparse 0 g) (sym j) p.1)

-- a fact put in where its byte has none
pub put_new : (f new : Known) (n : ℕ) (e : ℕ × Set) → AreSparse 0 f → AreBelow e.0 (take n f) → AreSparse e.0 (drop n f) → starts_at e.0 (drop n f) ≡ false
    → new ≡ take n f ++ (fact_alone e ++ drop n f) → (new ≡ know e.0 e.1 f) × AreSparse 0 new
put_new f new n e s b t h i =
    let p = new_by (take n f) (drop n f) e (sparse_take 0 n f s) b t h in
    (i ∙ sym p.0 ∙ ap (λ (g : Known). know e.0 e.1 g) (take-append-drop n f), subst (λ (g : Known). AreSparse 0 g) (sym i) p.1)

alone_full : (e : ℕ × Set) → is_full e.1 ≡ true → fact_alone e ≡ []
alone_full e h = ap (λ (b : Bool). cond b [] (e ∷ [])) h

alone_one : (e : ℕ × Set) → is_full e.1 ≡ false → fact_alone e ≡ e ∷ []
alone_one e h = ap (λ (b : Bool). cond b [] (e ∷ [])) h

pub removed_is : (l : List Fact) (n : ℕ) (e : ℕ × Set) → is_full e.1 ≡ true
    → facts_of (take n l ++ drop (suc n) l) ≡ take n (facts_of l) ++ (fact_alone e ++ drop (suc n) (facts_of l))
removed_is l n e h = grind (arith, map-append, take-map, drop-map, alone_full)

set_is : (l : List Fact) (n : ℕ) (x : Fact) → n < length l → facts_of (set l n x) ≡ take n (facts_of l) ++ (fact_of x ∷ drop (suc n) (facts_of l))
set_is [] n x h = absurd (omega (arith, h))
set_is (y ∷ l) zero x h = refl
set_is (y ∷ l) (suc n) x h = ap (λ (r : Known). fact_of y ∷ r) (set_is l n x (omega (arith, h)))

pub stored_is : (l : List Fact) (n : ℕ) (x : Fact) → n < length l → is_full (set_of x.values) ≡ false
    → facts_of (set l n x) ≡ take n (facts_of l) ++ (fact_alone (fact_of x) ++ drop (suc n) (facts_of l))
stored_is l n x h u = set_is l n x h ∙ ap (λ (r : Known). take n (facts_of l) ++ (r ++ drop (suc n) (facts_of l))) (sym (alone_one (fact_of x) u))

pub inserted_is : (l : List Fact) (n : ℕ) (x : Fact) → is_full (set_of x.values) ≡ false
    → facts_of (take n l ++ x ∷ drop n l) ≡ take n (facts_of l) ++ (fact_alone (fact_of x) ++ drop n (facts_of l))
inserted_is l n x u = grind (arith, map-append, take-map, drop-map, alone_one)

-- nothing is put in for a fact that says nothing
pub left_out : (f : Known) (n : ℕ) (e : ℕ × Set) → is_full e.1 ≡ true → f ≡ take n f ++ (fact_alone e ++ drop n f)
left_out f n e h = sym (take-append-drop n f) ∙ ap (λ (r : Known). take n f ++ (r ++ drop n f)) (sym (alone_full e h))

-- ---- parts of lists

pub part_is : (l : List Fact) (from to m n : ℕ) → m ≤ n → AreSparse 0 (facts_of l) → AreBelow from (take m (facts_of l)) → AreSparse from (drop m (facts_of l))
    → AreBelow to (take n (facts_of l)) → AreSparse to (drop n (facts_of l)) → facts_of (take (n - m) (drop m l)) ≡ within from to (facts_of l)
part_is l from to m n h s a b c d = grind (arith, take-map, drop-map, inside_is, sparse_from)

pub part_none : (l : List Fact) (from to m n : ℕ) → n ≤ m → AreBelow from (take m (facts_of l)) → AreSparse to (drop n (facts_of l)) → [] ≡ within from to (facts_of l)
part_none l from to m n h a d = sym (inside_none from to m n (facts_of l) h a (sparse_from to (drop n (facts_of l)) d))

first_below : (k to : ℕ) (g r : Known) (e : ℕ × Set) → 0 < k → g ≡ e ∷ r → AreBelow to (take k g) → e.0 < to
first_below zero to g r e h i b = absurd (omega (arith, h))
first_below (suc k) to g r e h i b = let t : AreBelow to (take (suc k) (e ∷ r)) = subst (λ (x : Known). AreBelow to (take (suc k) x)) i b in t.0

-- the first address is below the second, if a fact lies between
in_order : (l : List Fact) (from to m n : ℕ) (d : Fact) → m < n → n ≤ length l → AreSparse from (drop m (facts_of l)) → AreBelow to (take n (facts_of l)) → from < to
in_order l from to m n d h k b c =
    let e = drop_fact l m d (omega (arith, h, k)) in
    let t : AreSparse from (fact_of (get_or l m d) ∷ drop (m + 1) (facts_of l)) = subst (λ (f : Known). AreSparse from f) e b in
    let u = first_below (n - m) to (drop m (facts_of l)) (drop (m + 1) (facts_of l)) (fact_of (get_or l m d)) (omega (arith, h)) e (middle_below m n to (facts_of l) (omega (arith, h)) c) in
    omega (arith, t.0, u)

around_split : (l new : List Fact) (m n : ℕ) → new ≡ take m l ++ drop n l → facts_of new ≡ take m (facts_of l) ++ drop n (facts_of l)
around_split l new m n i = grind (arith, map-append, take-map, drop-map)

-- the facts before one address and from another on
pub around_is : (l new : List Fact) (from to m n : ℕ) → m < n → n ≤ length l → AreSparse 0 (facts_of l) → AreBelow from (take m (facts_of l))
    → AreSparse from (drop m (facts_of l)) → AreBelow to (take n (facts_of l)) → AreSparse to (drop n (facts_of l)) → new ≡ take m l ++ drop n l
    → (facts_of new ≡ without_bytes from (to - from) (facts_of l)) × AreSparse 0 (facts_of new)
around_is [] new from to m n h k s a b c d i = absurd (omega (arith, h, k))
around_is (x ∷ l) new from to m n h k s a b c d i =
    let o = in_order (x ∷ l) from to m n x h k b c in
    let f = facts_of (x ∷ l) in
    let e : to ≡ from + (to - from) = omega (arith, o) in
    let p : AreBelow (from + (to - from)) (take n f) = subst (λ (w : ℕ). AreBelow w (take n f)) e c in
    let q : AreFrom (from + (to - from)) (drop n f) = subst (λ (w : ℕ). AreFrom w (drop n f)) e (sparse_from to (drop n f) d) in
    let r = around_split (x ∷ l) new m n i in (
      r ∙ sym (outside_is from (to - from) m n f (omega (arith, h)) a (sparse_from from (drop m f) b) p q),
      subst (λ (g : Known). AreSparse 0 g) (sym r) (sparse_append 0 from (take m f) (drop n f) (sparse_take 0 m f s) a (omega arith) (sparse_lower from to (drop n f) (omega (arith, o)) d)),
    )

-- all facts, if none lies between
pub around_all : (l : List Fact) (from to m n : ℕ) → n ≤ m → AreBelow from (take m (facts_of l)) → AreSparse from (drop m (facts_of l)) → AreSparse to (drop n (facts_of l))
    → facts_of l ≡ without_bytes from (to - from) (facts_of l)
around_all l from to m n h a b d =
    let f = facts_of l in
    let e : n + (m - n) ≡ m = omega (arith, h) in
    let above : AreFrom to (drop m f) = subst (λ (r : Known). AreFrom to r) (drop-drop (m - n) n f ∙ ap (λ (k : ℕ). drop k f) e) (from_drop to (m - n) (drop n f) (sparse_from to (drop n f) d)) in
    let high : AreFrom (from + (to - from)) (drop m f) = elim (cases_lt from to) [
      | inl l ↦ subst (λ (w : ℕ). AreFrom w (drop m f)) (omega (arith, l)) above
      | inr g ↦ subst (λ (w : ℕ). AreFrom w (drop m f)) (omega (arith, g)) (sparse_from from (drop m f) b)
    ] in
    sym (outside_all from (to - from) m f a high)

-- the facts before an address, and others from there to another
pub extended_is : (l more : List Fact) (new part : List Fact) (from to m : ℕ) → AreSparse 0 (facts_of l) → AreSparse 0 (facts_of more) → AreBelow from (take m (facts_of l))
    → AreSparse from (drop m (facts_of l)) → facts_of part ≡ within from to (facts_of more) → new ≡ take m l ++ part
    → (facts_of new ≡ within 0 from (facts_of l) ++ within from to (facts_of more)) × AreSparse 0 (facts_of new)
extended_is l more new part from to m s t a b p i = grind (arith, map-append, take-map, before_is, sparse_append, sparse_take, sparse_within)

-- the values of another byte
pub other_at : (e : ℕ × Set) (a : ℕ) → (e.0 ≡ a → ⊥) → values_at (e ∷ []) a ≡ all_bytes
other_at e a n = ap (λ (b : Bool). unwrap_or (cond b (Some e.1) None) all_bytes) (ne_eqb e.0 a n)

pub same_at : (e : ℕ × Set) (a : ℕ) → e.0 ≡ a → values_at (e ∷ []) a ≡ e.1
same_at e a i = ap (λ (b : Bool). unwrap_or (cond b (Some e.1) None) all_bytes) (eq-eqb e.0 a i)

-- a fact at a place is one of the list
pub starts_within : (l : List Fact) (n a : ℕ) → starts_at a (drop n (facts_of l)) ≡ true → n < length l
starts_within l n a h = elim (cases_lt n (length l)) [ inl k ↦ k | inr k ↦ absurd (both_ways (starts_at a (drop n (facts_of l))) (starts_past l n a k) h) ]

-- whether the values of a byte as a fact allows them are among others
pub within_by : (b : Bool) (e : ℕ × Set) (a : ℕ) (s : Set) → (e.0 == a) ≡ b → is_subset all_bytes s ≡ false
    → (b && is_subset e.1 s) ≡ is_subset (values_at (e ∷ []) a) s
within_by true e a s i h = sym (ap (λ (t : Set). is_subset t s) (same_at e a (eqb-true e.0 a i)))
within_by false e a s i h = sym (ap (λ (t : Set). is_subset t s) (other_at e a (eqb-false e.0 a i)) ∙ h)

-- the first of some facts decides its address
pub first_values : (e : ℕ × Set) (f : Known) (a : ℕ) → AreSparse a (e ∷ f) → values_at (e ∷ []) a ≡ values_at (e ∷ f) a
first_values e f a s = sym (ap (λ (o : Option Set). unwrap_or o all_bytes) (at_first e f a s.0 (sparse_from (suc e.0) f s.2)))

-- two facts joined, if they are of one byte
pub joined_other : (e d : ℕ × Set) (f : Known) → (d.0 ≡ e.0 → ⊥) → f ≡ f ++ joined_fact e (fact_at (d ∷ []) e.0) []
joined_other e d f n = sym (ap (λ (b : Bool). f ++ joined_fact e (cond b (Some d.1) None) []) (ne_eqb d.0 e.0 n) ∙ append-nil f)

joined_by : (b : Bool) (e : ℕ × Set) (s : Set) (f new : Known) → is_full s ≡ b → new ≡ f ++ cond b [] ((e.0, s) ∷ []) → new ≡ f ++ cond (is_full s) [] ((e.0, s) ∷ [])
joined_by b e s f new h i = i ∙ ap (λ (c : Bool). f ++ cond c [] ((e.0, s) ∷ [])) (sym h)

-- only the first of some facts is joined
pub joined_first : (e d : ℕ × Set) (more : Known) (f new : Known) → AreSparse e.0 (d ∷ more) → new ≡ f ++ joined_fact e (fact_at (d ∷ []) e.0) []
    → new ≡ f ++ joined_fact e (fact_at (d ∷ more) e.0) []
joined_first e d more f new s n = n ∙ ap (λ (o : Option Set). f ++ joined_fact e o []) (sym (at_first d more e.0 s.0 (sparse_from (suc d.0) more s.2)))

-- what follows from either end of a call
pub by_result : {T E : Type 0} (r : Result T E) (P Q R : Type 0) → OnOk r P → OnErr r Q → (P → R) → (Q → R) → R
by_result (Ok x) P Q R p q f g = f p
by_result (Err e) P Q R p q f g = g q

-- ---- halving

pub below_next : (n a : ℕ) (l : List Fact) (d : Fact) → AreSparse 0 (facts_of l) → n < length l → (get_or l n d).at < a → AreBelow a (take (n + 1) (facts_of l))
below_next n a l d s h b =
    let e : suc n ≡ n + 1 = omega arith in
    subst (λ (k : ℕ). AreBelow a (take k (facts_of l))) e (below_at 0 n a l d s h b)

pub sparse_from_here : (n a : ℕ) (l : List Fact) (d : Fact) → AreSparse 0 (facts_of l) → n < length l → a ≤ (get_or l n d).at → AreSparse a (drop n (facts_of l))
sparse_from_here n a l d s h b = sparse_lower a (get_or l n d).at (drop n (facts_of l)) b (sparse_at 0 n l d s h)

-- one fact more is below an address
below_one : (n a : ℕ) (l : List Fact) (d : Fact) → AreBelow a (take n (facts_of l)) → n < length l → (get_or l n d).at < a → AreBelow a (take (suc n) (facts_of l))
below_one n a [] d h k b = absurd (omega (arith, k))
below_one zero a (e ∷ l) d h k b = (b, tt)
below_one (suc n) a (e ∷ l) d h k b = (h.0, below_one n a l d h.1 (omega (arith, k)) b)

pub below_more : (n a : ℕ) (l : List Fact) (d : Fact) → AreBelow a (take n (facts_of l)) → n < length l → (get_or l n d).at < a → AreBelow a (take (n + 1) (facts_of l))
below_more n a l d h k b =
    let e : suc n ≡ n + 1 = omega arith in
    subst (λ (k : ℕ). AreBelow a (take k (facts_of l))) e (below_one n a l d h k b)

-- the facts from a place on, as a slice
pub slice_rest : (l : List Fact) (n : ℕ) → facts_of (take (length l - n) (drop n l)) ≡ drop n (facts_of l)
slice_rest l n = ap (λ (r : List Fact). facts_of r) (take_rest l n) ∙ sym (drop-map fact_of n l)
