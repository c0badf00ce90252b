-- Facts, numbers and calls that are not reached, step by step of a loop.
use Rattle.std.specs.Prelude.{◌≡◌, ℕ, ◌+◌, ◌-◌, ◌<◌, ◌≤◌, Bool, true, false, cond, not, ◌&&◌, ◌||◌, ◌==◌, List, [], ◌∷◌, ◌++◌, length, take, drop, get_or, map, filter, ⊤, refl}
use Rattle.std.proofs.Common.{arith, ap, sym, ◌∙◌, append_assoc}
use Rattle.std.proofs.lemmas.Bool.{eqb-true}
use Rattle.std.proofs.lemmas.List.{append-nil, take_more, drop_more, drop_all, take_all, map-append, length-map}
use Rattle.mc_arith.specs.model_machine.specs.Frame.{Frame}
use Rattle.prove_facts.specs.model_prove.specs.Sets.{Set}
use Rattle.prove_facts.specs.model_prove.specs.Facts.{Facts, without_byte}
use Rattle.prove_facts.specs.model_prove.specs.Keys as known
use Rattle.prove_facts.specs.model_prove.specs.Reach as reach
use Rattle.prove_facts.specs.declared.facts.Fact.{Fact}
use Rattle.prove_facts.specs.Facts.{fact_of, facts_of}
use Rattle.prove_facts.proofs.FactLemmas.{drop_fact}
use Rattle.prove_keys.specs.declared.keys.Call.{Call}
use Rattle.prove_keys.specs.Keys.{call_of, calls_of}
use Rattle.prove_works.specs.Reaches.{without_reached, calls_from}

-- ---- facts

-- facts without those of a list that are reached
abbrev pub left_of : Frame → reach.Reach → Facts → Facts → Facts
left_of f r [] g = g
left_of f r (e ∷ es) g = left_of f r es (without_reached f r e.0 g)

abbrev has : ℕ → Facts → Bool
has a [] = false
has a (e ∷ es) = (e.0 == a) || has a es

kept : (b c : Bool) (e : ℕ × Set) (f g : Facts) → b ≡ c → f ≡ g → cond b (e ∷ f) f ≡ cond c (e ∷ g) g
kept true true e f g h i = ap (λ (r : Facts). e ∷ r) i
kept false false e f g h i = i
kept true false e f g h i = absurd (cc h)
kept false true e f g h i = absurd (cc h)

kept_twice : (p : ℕ × Set → Bool) (b c : Bool) (e : ℕ × Set) (f g : Facts) → (b && p e) ≡ c → filter p f ≡ g
    → filter p (cond b (e ∷ f) f) ≡ cond c (e ∷ g) g
kept_twice p true c e f g h i = kept (p e) c e (filter p f) g h i
kept_twice p false true e f g h i = absurd (cc h)
kept_twice p false false e f g h i = i

filter_twice : (p q r : ℕ × Set → Bool) (f : Facts) → ((e : ℕ × Set) → (q e && p e) ≡ r e) → filter p (filter q f) ≡ filter r f
filter_twice p q r [] h = refl
filter_twice p q r (e ∷ f) h = kept_twice p (q e) (r e) e (filter q f) (filter r f) (h e) (filter_twice p q r f h)

both_tests : (p q : Bool) (h : Bool) → (not (p && true) && not (p && h)) ≡ not (p && (true || h))
both_tests true q true = refl
both_tests true q false = refl
both_tests false q h = refl

other_tests : (p q h : Bool) → (not (q && false) && not (p && h)) ≡ not (p && (false || h))
other_tests p true h = refl
other_tests p false h = refl

flip_eq : (a b : ℕ) → (a == b) ≡ (b == a)
flip_eq a b = grind arith

tests : (p : ℕ → Bool) (a b : ℕ) (h e : Bool) → (a == b) ≡ e → (not (p b && e) && not (p a && h)) ≡ not (p a && (e || h))
tests p a b h true i =
    ap (λ (k : ℕ). not (p k && true) && not (p a && h)) (sym (eqb-true a b i)) ∙ both_tests (p a) (p a) h
tests p a b h false i = other_tests (p a) (p b) h

nothing_lost : (p : Bool) → not (p && false) ≡ true
nothing_lost true = refl
nothing_lost false = refl

filter_all : (p : ℕ × Set → Bool) (f : Facts) → ((e : ℕ × Set) → p e ≡ true) → f ≡ filter p f
filter_all p [] h = refl
filter_all p (e ∷ f) h = kept true (p e) e f (filter p f) (sym (h e)) (filter_all p f h)

left_is : (f : Frame) (r : reach.Reach) (es g : Facts) → left_of f r es g ≡ filter (λ e. not (reach.is_reached f r e.0 && has e.0 es)) g
left_is f r [] g = filter_all (λ e. not (reach.is_reached f r e.0 && false)) g (λ e. nothing_lost (reach.is_reached f r e.0))
left_is f r (d ∷ es) g =
    left_is f r es (without_reached f r d.0 g)
    ∙ filter_twice (λ e. not (reach.is_reached f r e.0 && has e.0 es)) (λ e. not (reach.is_reached f r d.0 && (e.0 == d.0)))
    (λ e. not (reach.is_reached f r e.0 && ((d.0 == e.0) || has e.0 es))) g
    (λ e. tests (λ a. reach.is_reached f r a) e.0 d.0 (has e.0 es) (e.0 == d.0) refl
    ∙ ap (λ (b : Bool). not (reach.is_reached f r e.0 && (b || has e.0 es))) (flip_eq e.0 d.0))

abbrev Among : Facts → Facts → Type 0
Among g [] = ⊤
Among g (e ∷ f) = (has e.0 g ≡ true) × Among g f

or_later : (b c : Bool) → c ≡ true → (b || c) ≡ true
or_later true c h = refl
or_later false c h = h

among_more : (d : ℕ × Set) (g f : Facts) → Among g f → Among (d ∷ g) f
among_more d g [] h = tt
among_more d g (e ∷ f) h = (or_later (d.0 == e.0) (has e.0 g) h.0, among_more d g f h.1)

first_has : (a : ℕ) (f : Facts) → ((a == a) || has a f) ≡ true
first_has a f = grind arith

among_all : (f : Facts) → Among f f
among_all [] = tt
among_all (e ∷ f) = (first_has e.0 f, among_more e f f (among_all f))

sure : (b c : Bool) → c ≡ true → not (b && c) ≡ not b
sure true true h = refl
sure false c h = refl
sure true false h = absurd (cc h)

filter_among : (f : Frame) (r : reach.Reach) (g es : Facts) → Among g es
    → filter (λ e. not (reach.is_reached f r e.0 && has e.0 g)) es ≡ reach.facts_not_reached f r es
filter_among f r g [] h = refl
filter_among f r g (e ∷ es) h =
    kept (not (reach.is_reached f r e.0 && has e.0 g)) (not (reach.is_reached f r e.0)) e
    (filter (λ e. not (reach.is_reached f r e.0 && has e.0 g)) es) (reach.facts_not_reached f r es)
    (sure (reach.is_reached f r e.0) (has e.0 g) h.0) (filter_among f r g es h.1)

-- facts without those of themselves that are reached
pub all_left : (f : Frame) (r : reach.Reach) (g : Facts) → left_of f r g g ≡ reach.facts_not_reached f r g
all_left f r g = left_is f r g g ∙ filter_among f r g g (among_all g)

all_kept : (f : Frame) (r : reach.Reach) (a : ℕ) (g : Facts) (b : Bool) → reach.is_reached f r a ≡ b → cond b (without_byte a g) g ≡ without_reached f r a g
all_kept f r a g true h = ap (λ (b : Bool). filter (λ e. not (b && (e.0 == a))) g) (sym h)
all_kept f r a g false h = filter_all (λ e. not (false && (e.0 == a))) g (λ e. refl) ∙ ap (λ (b : Bool). filter (λ e. not (b && (e.0 == a))) g) (sym h)

-- a fact is taken away if it is reached
pub taken : (f : Frame) (r : reach.Reach) (a : ℕ) (g : Facts) (b : Bool) → b ≡ reach.is_reached f r a → cond b (without_byte a g) g ≡ without_reached f r a g
taken f r a g b h = all_kept f r a g b (sym h)

-- the next fact
pub facts_next : (f : Frame) (r : reach.Reach) (l : List Fact) (i : ℕ) (d : Fact) (old new all : Facts) → i < length l
    → new ≡ without_reached f r (get_or l i d).at old
    → left_of f r (drop i (facts_of l)) old ≡ all → left_of f r (drop (i + 1) (facts_of l)) new ≡ all
facts_next f r l i d old new all h n e =
    ap (λ (g : Facts). left_of f r (drop (i + 1) (facts_of l)) g) n
    ∙ ap (λ (es : Facts). left_of f r es old) (sym (drop_fact l i d h))
    ∙ e

-- after the last fact
pub facts_last : (f : Frame) (r : reach.Reach) (l : List Fact) (i : ℕ) (old all : Facts) → length l ≤ i
    → left_of f r (drop i (facts_of l)) old ≡ left_of f r all all → old ≡ reach.facts_not_reached f r all
facts_last f r l i old all h e =
    let n : length (facts_of l) ≤ i = omega (arith, h, length-map l fact_of) in
    ap (λ (es : Facts). left_of f r es old) (sym (drop_all i (facts_of l) n)) ∙ e ∙ all_left f r all

-- ---- calls

pub calls_append : (cs ds : List Call) → calls_of (cs ++ ds) ≡ calls_of ds ++ calls_of cs
calls_append [] ds = sym (append-nil (calls_of ds))
calls_append (c ∷ cs) ds =
    ap (λ (l : List known.Call). l ++ call_of c ∷ []) (calls_append cs ds) ∙ append_assoc (calls_of ds) (calls_of cs) (call_of c ∷ [])

abbrev Lists : Type 0
Lists = List (List known.Call)

-- the lists of calls before which others are open
abbrev pub under : List known.Call → Lists → Lists
under ds ls = map (λ rest. ds ++ rest) ls

under_none : (ls : Lists) → under [] ls ≡ ls
under_none [] = refl
under_none (l ∷ ls) = ap (λ (r : Lists). l ∷ r) (under_none ls)

under_one : (ds : List known.Call) (c : known.Call) (ls : Lists) → under ds (map (λ rest. c ∷ rest) ls) ≡ under (ds ++ c ∷ []) ls
under_one ds c [] = refl
under_one ds c (l ∷ ls) =
    ap (λ (r : List known.Call). r ∷ under ds (map (λ rest. c ∷ rest) ls)) (sym (append_assoc ds (c ∷ []) l))
    ∙ ap (λ (r : Lists). ((ds ++ c ∷ []) ++ l) ∷ r) (under_one ds c ls)

-- before the first turn
calls_first : (f : Frame) (r : reach.Reach) (calls : List Call) (n : ℕ) → n ≡ length calls
    → under (calls_of (drop n calls)) (reach.calls_hit f r (calls_of (take n calls))) ≡ reach.calls_hit f r (calls_of calls)
calls_first f r calls n e =
    ap (λ (l : List Call). under (calls_of l) (reach.calls_hit f r (calls_of (take n calls)))) (drop_all n calls (omega (arith, e)))
    ∙ under_none (reach.calls_hit f r (calls_of (take n calls)))
    ∙ ap (λ (l : List Call). reach.calls_hit f r (calls_of l)) (take_all n calls (omega (arith, e)))

pub calls_start : (f : Frame) (r : reach.Reach) (calls : List Call) (places : List ℕ) (n : ℕ) → places ≡ [] → n ≡ length calls
    → calls_from calls places ++ under (calls_of (drop n calls)) (reach.calls_hit f r (calls_of (take n calls))) ≡ reach.calls_hit f r (calls_of calls)
calls_start f r calls places n e l =
    ap (λ (p : List ℕ). calls_from calls p ++ under (calls_of (drop n calls)) (reach.calls_hit f r (calls_of (take n calls)))) e ∙ calls_first f r calls n l

hit_lists : (b : Bool) (ds : List known.Call) → under ds (cond b ([] ∷ []) []) ≡ cond b (ds ∷ []) []
hit_lists true ds = ap (λ (l : List known.Call). l ∷ []) (append-nil ds)
hit_lists false ds = refl

hit_from : (calls : List Call) (b : Bool) (i : ℕ) → calls_from calls (cond b (i ∷ []) []) ≡ cond b (calls_of (drop i calls) ∷ []) []
hit_from calls true i = refl
hit_from calls false i = refl

-- what is left of a turn that comes to the call at j
turn_is : (f : Frame) (r : reach.Reach) (calls : List Call) (j : ℕ) (d : Call) (b : Bool) → j < length calls
    → b ≡ reach.some_reached f r ((call_of (get_or calls j d)).dt - 4) 4
    → under (calls_of (drop (j + 1) calls)) (reach.calls_hit f r (calls_of (take (j + 1) calls)))
    ≡ cond b (calls_of (drop (j + 1) calls) ∷ []) [] ++ under (calls_of (drop j calls)) (reach.calls_hit f r (calls_of (take j calls)))
turn_is f r calls j d b l h =
    let c = call_of (get_or calls j d) in
    let ds = calls_of (drop (j + 1) calls) in
    let old = calls_of (take j calls) in
    let t : calls_of (take (j + 1) calls) ≡ c ∷ old = ap (λ (l : List Call). calls_of l) (take_more calls j d l) ∙ calls_append (take j calls) (get_or calls j d ∷ []) in
    let e : calls_of (drop j calls) ≡ ds ++ c ∷ [] = ap (λ (l : List Call). calls_of l) (drop_more calls j d l) in
    ap (λ (l : List known.Call). under ds (reach.calls_hit f r l)) t
    ∙ map-append (λ (rest : List known.Call). ds ++ rest) (cond (reach.some_reached f r (c.dt - 4) 4) ([] ∷ []) []) (map (λ rest. c ∷ rest) (reach.calls_hit f r old))
    ∙ ap (λ (k : Bool). under ds (cond k ([] ∷ []) []) ++ under ds (map (λ rest. c ∷ rest) (reach.calls_hit f r old))) (sym h)
    ∙ ap (λ (l : Lists). l ++ under ds (map (λ rest. c ∷ rest) (reach.calls_hit f r old))) (hit_lists b ds)
    ∙ ap (λ (l : Lists). cond b (ds ∷ []) [] ++ l) (under_one ds c (reach.calls_hit f r old) ∙ ap (λ (l : List known.Call). under l (reach.calls_hit f r old)) (sym e))

-- the lists so far, and those of the calls that are left, are all
pub calls_next : (f : Frame) (r : reach.Reach) (calls : List Call) (old new : List ℕ) (k j m : ℕ) (d : Call) (b : Bool) (all : Lists) → k ≡ j + 1 → m ≡ j → j < length calls
    → b ≡ reach.some_reached f r ((call_of (get_or calls j d)).dt - 4) 4
    → new ≡ old ++ cond b ((j + 1) ∷ []) []
    → calls_from calls old ++ under (calls_of (drop k calls)) (reach.calls_hit f r (calls_of (take k calls))) ≡ all
    → calls_from calls new ++ under (calls_of (drop m calls)) (reach.calls_hit f r (calls_of (take m calls))) ≡ all
calls_next f r calls old new k j m d b all e g l h n i =
    let rest = under (calls_of (drop j calls)) (reach.calls_hit f r (calls_of (take j calls))) in
    ap (λ (t : ℕ). calls_from calls new ++ under (calls_of (drop t calls)) (reach.calls_hit f r (calls_of (take t calls)))) g
    ∙ ap (λ (p : List ℕ). calls_from calls p ++ rest) n
    ∙ ap (λ (p : Lists). p ++ rest) (map-append (λ (i : ℕ). calls_of (drop i calls)) old (cond b ((j + 1) ∷ []) []))
    ∙ append_assoc (calls_from calls old) (calls_from calls (cond b ((j + 1) ∷ []) [])) rest
    ∙ ap (λ (p : Lists). calls_from calls old ++ p) (ap (λ (p : Lists). p ++ rest) (hit_from calls b (j + 1)) ∙ sym (turn_is f r calls j d b l h))
    ∙ ap (λ (t : ℕ). calls_from calls old ++ under (calls_of (drop t calls)) (reach.calls_hit f r (calls_of (take t calls)))) (sym e)
    ∙ i

-- after the last turn
pub calls_last : (f : Frame) (r : reach.Reach) (calls : List Call) (old new : List ℕ) (k : ℕ) (all : Lists) → k ≡ 0 → new ≡ old ++ 0 ∷ []
    → calls_from calls old ++ under (calls_of (drop k calls)) (reach.calls_hit f r (calls_of (take k calls))) ≡ all
    → calls_from calls new ≡ all
calls_last f r calls old new k all e n i =
    ap (λ (p : List ℕ). calls_from calls p) n
    ∙ map-append (λ (i : ℕ). calls_of (drop i calls)) old (0 ∷ [])
    ∙ ap (λ (l : List known.Call). calls_from calls old ++ l ∷ []) (sym (append-nil (calls_of calls)))
    ∙ ap (λ (m : ℕ). calls_from calls old ++ under (calls_of (drop m calls)) (reach.calls_hit f r (calls_of (take m calls)))) (sym e)
    ∙ i
