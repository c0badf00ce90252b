-- Searches of a table, step by step of a loop.
use Rattle.std.specs.Prelude.{◌≡◌, ℕ, suc, ◌+◌, ◌<◌, ◌≤◌, Bool, true, false, cond, not, ◌&&◌, ◌||◌, ◌==◌, List, [], ◌∷◌, ◌++◌, length, drop, get_or, refl}
use Rattle.std.proofs.Common.{arith, ap, sym, ◌∙◌}
use Rattle.std.proofs.lemmas.Bool.{ne_eqb, or_from}
use Rattle.std.proofs.lemmas.List.{length-map, drop_all, drop_more}
use Rattle.prove_facts.specs.model_prove.specs.Sets.{Set, is_in, union}
use Rattle.prove_facts.specs.model_prove.specs.Steps as steps
use Rattle.prove_facts.specs.declared.values.Values.{Values}
use Rattle.prove_facts.specs.Sets.{has_value, set_of}
use Rattle.prove_facts.proofs.SetLemmas.{Rises, rises_lower, values_are}
use Rattle.prove_works.specs.Searches.{sets_of}
use Rattle.prove_works.proofs.SetSteps.{drop_set}

one_more : (b c : Bool) (i w : ℕ) (rest : Set) → is_in w (cond b (i ∷ []) [] ++ cond c [] rest) ≡ ((b && (i == w)) || (not c && is_in w rest))
one_more true true i w rest = refl
one_more true false i w rest = refl
one_more false true i w rest = refl
one_more false false i w rest = refl

rises_more : (b c : Bool) (i : ℕ) (rest : Set) → Rises (suc i) rest → Rises i (cond b (i ∷ []) [] ++ cond c [] rest)
rises_more true true i rest h = (omega arith, tt)
rises_more true false i rest h = (omega arith, h)
rises_more false true i rest h = tt
rises_more false false i rest h = rises_lower i (suc i) rest (omega arith) h

found_rises : (v i : ℕ) (ss : List Set) → Rises i (steps.found_at v i ss)
found_rises v i [] = tt
found_rises v i (s ∷ ss) = rises_more (is_in v s) (steps.is_only v s) i (steps.found_at v (suc i) ss) (found_rises v (suc i) ss)

no_more : (b c d e : Bool) → d ≡ false → e ≡ false → ((b && d) || (c && e)) ≡ false
no_more true true d e h i = or_from d e h i
no_more true false d e h i = or_from d false h refl
no_more false true d e h i = i
no_more false false d e h i = refl

found_low : (v i w : ℕ) (ss : List Set) → i + length ss ≤ w → is_in w (steps.found_at v i ss) ≡ false
found_low v i w [] h = refl
found_low v i w (s ∷ ss) h =
    one_more (is_in v s) (steps.is_only v s) i w (steps.found_at v (suc i) ss)
    ∙ no_more (is_in v s) (not (steps.is_only v s)) (i == w) (is_in w (steps.found_at v (suc i) ss))
    (ne_eqb i w (λ e. omega (arith, h, e))) (found_low v (suc i) w ss (omega (arith, h)))

-- a set of the indices at which a value is found
pub found_is : (s : Values) (v : ℕ) (ss : List Set) → length ss ≤ 256 → ((w : ℕ) → w < 256 → has_value s w ≡ is_in w (steps.found_at v 0 ss))
    → set_of s ≡ steps.found_at v 0 ss
found_is s v ss l h = values_are s.words (steps.found_at v 0 ss) (found_rises v 0 ss) h (λ w g. found_low v 0 w ss (omega (arith, l, g)))

ends_here : (old new b e c all rest : Bool) → new ≡ (old || (b && e)) → (old || ((b && e) || (not c && rest))) ≡ all → c ≡ true → new ≡ all
ends_here old new b e c all rest n h i = grind (arith, n, h, i)

goes_on : (old new b e c all rest : Bool) → new ≡ (old || (b && e)) → (old || ((b && e) || (not c && rest))) ≡ all → c ≡ false → (new || rest) ≡ all
goes_on old new b e c all rest n h i = grind (arith, n, h, i)

left_there : (l : List Values) (i : ℕ) (d : Values) (v w : ℕ) (old : Bool) (all : Bool) → i < length l
    → (old || is_in w (steps.found_at v i (drop i (sets_of l)))) ≡ all
    → (old || ((is_in v (set_of (get_or l i d)) && (i == w)) || (not (steps.is_only v (set_of (get_or l i d))) && is_in w (steps.found_at v (suc i) (drop (i + 1) (sets_of l)))))) ≡ all
left_there l i d v w old all h e =
    let s = set_of (get_or l i d) in
    ap (λ (b : Bool). old || b) (sym (ap (λ (t : List Set). is_in w (steps.found_at v i t)) (drop_set l i d h) ∙ one_more (is_in v s) (steps.is_only v s) i w (steps.found_at v (suc i) (drop (i + 1) (sets_of l)))))
    ∙ e

-- the last turn: the value is sure to be found
pub found_last : (l : List Values) (i : ℕ) (d : Values) (v : ℕ) (old new : Values) (b c : Bool) → i < length l
    → b ≡ is_in v (set_of (get_or l i d)) → c ≡ steps.is_only v (set_of (get_or l i d)) → c ≡ true
    → ((w : ℕ) → w < 256 → has_value new w ≡ (has_value old w || (b && (i == w))))
    → ((w : ℕ) → w < 256 → (has_value old w || is_in w (steps.found_at v i (drop i (sets_of l)))) ≡ is_in w (steps.found_at v 0 (sets_of l)))
    → (w : ℕ) → w < 256 → has_value new w ≡ is_in w (steps.found_at v 0 (sets_of l))
found_last l i d v old new b c h e f t n k w g =
    let s = set_of (get_or l i d) in
    ends_here (has_value old w) (has_value new w) (is_in v s) (i == w) (steps.is_only v s) (is_in w (steps.found_at v 0 (sets_of l))) (is_in w (steps.found_at v (suc i) (drop (i + 1) (sets_of l))))
    (n w g ∙ ap (λ (b : Bool). has_value old w || (b && (i == w))) e) (left_there l i d v w (has_value old w) (is_in w (steps.found_at v 0 (sets_of l))) h (k w g)) (sym f ∙ t)

-- a turn after which the search goes on
pub found_next : (l : List Values) (i : ℕ) (d : Values) (v : ℕ) (old new : Values) (b c : Bool) → i < length l
    → b ≡ is_in v (set_of (get_or l i d)) → c ≡ steps.is_only v (set_of (get_or l i d)) → c ≡ false
    → ((w : ℕ) → w < 256 → has_value new w ≡ (has_value old w || (b && (i == w))))
    → ((w : ℕ) → w < 256 → (has_value old w || is_in w (steps.found_at v i (drop i (sets_of l)))) ≡ is_in w (steps.found_at v 0 (sets_of l)))
    → (w : ℕ) → w < 256 → (has_value new w || is_in w (steps.found_at v (i + 1) (drop (i + 1) (sets_of l)))) ≡ is_in w (steps.found_at v 0 (sets_of l))
found_next l i d v old new b c h e f t n k w g =
    let s = set_of (get_or l i d) in
    let u : i + 1 ≡ suc i = omega arith in
    ap (λ (m : ℕ). has_value new w || is_in w (steps.found_at v m (drop (i + 1) (sets_of l)))) u
    ∙ goes_on (has_value old w) (has_value new w) (is_in v s) (i == w) (steps.is_only v s) (is_in w (steps.found_at v 0 (sets_of l))) (is_in w (steps.found_at v (suc i) (drop (i + 1) (sets_of l))))
    (n w g ∙ ap (λ (b : Bool). has_value old w || (b && (i == w))) e) (left_there l i d v w (has_value old w) (is_in w (steps.found_at v 0 (sets_of l))) h (k w g)) (sym f ∙ t)

or_none : (b : Bool) → (b || false) ≡ b
or_none true = refl
or_none false = refl

-- the end of the table
pub found_end : (l : List Values) (i v w : ℕ) (old all : Bool) → length l ≤ i → (old || is_in w (steps.found_at v i (drop i (sets_of l)))) ≡ all → old ≡ all
found_end l i v w old all h e =
    let n : length (sets_of l) ≤ i = omega (arith, h, length-map l set_of) in
    sym (or_none old) ∙ ap (λ (t : List Set). old || is_in w (steps.found_at v i t)) (sym (drop_all i (sets_of l) n)) ∙ e

-- the sets of a list are as many as the list has
pub sets_few : (l : List Values) (n : ℕ) → length l ≤ n → length (sets_of l) ≤ n
sets_few l n h = omega (arith, h, length-map l set_of)

-- ---- whether a value may pass

pass_left : (l : List Values) (i : ℕ) (d : Values) (v : ℕ) (b c : Bool) → i < length l → b ≡ steps.is_only v (set_of (get_or l i d))
    → steps.may_pass v (drop i (sets_of l)) ≡ c → (not b && steps.may_pass v (drop (i + 1) (sets_of l))) ≡ c
pass_left l i d v b c h e k =
    ap (λ (t : Bool). not t && steps.may_pass v (drop (i + 1) (sets_of l))) e
    ∙ ap (λ (t : List Set). steps.may_pass v t) (sym (drop_set l i d h))
    ∙ k

pub pass_not : (l : List Values) (i : ℕ) (d : Values) (v : ℕ) (b c : Bool) → i < length l → b ≡ steps.is_only v (set_of (get_or l i d)) → b ≡ true
    → steps.may_pass v (drop i (sets_of l)) ≡ c → false ≡ c
pass_not l i d v true c h e t k = pass_left l i d v true c h e k
pass_not l i d v false c h e t k = absurd (cc t)

pub pass_next : (l : List Values) (i : ℕ) (d : Values) (v : ℕ) (b c : Bool) → i < length l → b ≡ steps.is_only v (set_of (get_or l i d)) → b ≡ false
    → steps.may_pass v (drop i (sets_of l)) ≡ c → steps.may_pass v (drop (i + 1) (sets_of l)) ≡ c
pass_next l i d v false c h e t k = pass_left l i d v false c h e k
pass_next l i d v true c h e t k = absurd (cc t)

-- ---- the indices of some values

-- before the first turn there are none
pub each_first : (vs : List ℕ) (table : List Set) (s : Set) (n : ℕ) → n ≡ length vs → s ≡ [] → s ≡ steps.each_index (drop n vs) table
each_first vs table s n e h = h ∙ ap (λ (t : List ℕ). steps.each_index t table) (sym (drop_all n vs (omega (arith, e))))

-- one more value
pub each_next : (vs : List ℕ) (table : List Set) (found old new : Set) (k j : ℕ) → k ≡ j + 1 → j < length vs
    → found ≡ steps.found_at (get_or vs j 0) 0 table → new ≡ union found old → old ≡ steps.each_index (drop k vs) table
    → new ≡ steps.each_index (drop j vs) table
each_next vs table found old new k j e l f n h =
    n
    ∙ ap (λ (s : Set). union s old) f
    ∙ ap (λ (s : Set). union (steps.found_at (get_or vs j 0) 0 table) s) (h ∙ ap (λ (m : ℕ). steps.each_index (drop m vs) table) e)
    ∙ ap (λ (t : List ℕ). steps.each_index t table) (sym (drop_more vs j 0 l))

pub each_last : (vs : List ℕ) (table : List Set) (s : Set) (n : ℕ) → n ≡ 0 → s ≡ steps.each_index (drop n vs) table → s ≡ steps.each_index vs table
each_last vs table s n e h = h ∙ ap (λ (m : ℕ). steps.each_index (drop m vs) table) e
