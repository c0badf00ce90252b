-- Steps through all bytes: the final flags and the digits that they find are those of the ways of the definition.
use Rattle.std.specs.Prelude.{◌≡◌, ℕ, zero, suc, ◌<◌, ◌≤◌, Bool, true, false, cond, ◌&&◌, ◌||◌, List, [], ◌∷◌, ◌++◌, length, reverse, map, drop, get_or, min, Option, Some, None, refl}
use Rattle.std.proofs.Common.{arith, ap, sym, subst, ◌∙◌}
use Rattle.std.proofs.lemmas.List.{reverse-append, append_assoc, length-append}
use Rattle.prove_facts.specs.model_prove.specs.Sets.{Set, is_in}
use Rattle.prove_facts.specs.model_prove.specs.Digits.{Operation, Flags, Digits, same_flags, arcs, digits_to, first_flags, digits_from, ways}
use Rattle.prove_facts.specs.Sets.{set_of}
use Rattle.prove_facts.specs.declared.values.Values.{Values}
use Rattle.prove_facts.proofs.SetLemmas.{rises_values}
use Rattle.prove_digits.specs.declared.states.States.{States}
use Rattle.prove_digits.specs.declared.steps.Step.{Step}
use Rattle.prove_digits.specs.declared.trios.Trio.{Trio}
use Rattle.prove_digits.specs.declared.turns.Turn.{Turn}
use Rattle.prove_digits.specs.Trios.{trio_value}
use Rattle.prove_digits.specs.States.{has_state, states_one, any_pair, states_after, states_before, found_digits, back_states, back_digits, way_back, IsStep, AreSteps}
use Rattle.prove_digits.specs.Ways.{value_pairs, digits_of, way_if, ways_found}
use Rattle.prove_digits.proofs.ShapeLemmas.{Part, part_of, has_at, may_have, AreShaped, MayBeShaped, PairsRise, same_lists, from_shaped, ways_shaped}
use Rattle.prove_digits.proofs.WayLemmas.{is_way, way_by, is_arc, pair_alike, way_begins, first_values, later_values}
use Rattle.prove_digits.proofs.FoundLemmas.{forward, backward, found_is, found_rising}

-- ---- one step more

-- steps with one more are steps, if it begins with the states that they end with
pub steps_more : (op : Operation) (start mid : States) (ps : List (Set × Set)) (ss : List Step) (p : Set × Set) (m : Step) → AreSteps op start ps ss mid
    → m.before ≡ mid → IsStep op p.0 p.1 m → AreSteps op start (ps ++ p ∷ []) (ss ++ m ∷ []) (states_after m)
steps_more op start mid [] [] p m h e i = (e ∙ h, i, refl)
steps_more op start mid [] (s ∷ ss) p m h e i = absurd h
steps_more op start mid (q ∷ ps) [] p m h e i = absurd h
steps_more op start mid (q ∷ ps) (s ∷ ss) p m h e i = (h.0, h.1, steps_more op (states_after s) mid ps ss p m h.2 e i)

-- no steps end with the states that they begin with
pub no_steps : (op : Operation) (start end : States) (ps : List (Set × Set)) (ss : List Step) → ps ≡ [] → ss ≡ [] → end ≡ start → AreSteps op start ps ss end
no_steps op start end ps ss e h k =
    subst (λ (qs : List (Set × Set)). AreSteps op start qs ss end) (sym e) (subst (λ (rs : List Step). AreSteps op start [] rs end) (sym h) k)

-- there are as many steps as pairs of sets
pub steps_length : (op : Operation) (start end : States) (ps : List (Set × Set)) (ss : List Step) → AreSteps op start ps ss end → length ps ≡ length ss
steps_length op start end [] [] h = refl
steps_length op start end [] (s ∷ ss) h = absurd h
steps_length op start end (p ∷ ps) [] h = absurd h
steps_length op start end (p ∷ ps) (s ∷ ss) h = ap suc (steps_length op (states_after s) end ps ss h.2)

-- ---- no byte

or_false : (b : Bool) → b ≡ (b || false)
or_false true = refl
or_false false = refl

none_and : (b : Bool) → (b && false) ≡ false
none_and true = refl
none_and false = refl

never : (b e : Bool) (k : Part) (i v : ℕ) → (b && may_have k i v (cond e (Some []) None)) ≡ false
never b true k i v = none_and b
never b false k i v = none_and b

no_pair : (h : Bool → Bool → Bool) → ((c z : Bool) → h c z ≡ false) → any_pair h ≡ false
no_pair h e = pair_alike h (λ c z. false) e

rest_none : (c d : Bool) → false ≡ ((false || (c && false)) || (d && false))
rest_none c d = grind arith

one_of : (a b c d : Bool) → a ≡ ((((a && true) || (b && false)) || (c && false)) || (d && false))
one_of a b c d = grind (arith, rest_none)

two_of : (a b c d : Bool) → b ≡ ((((a && false) || (b && true)) || (c && false)) || (d && false))
two_of a b c d = grind (arith, rest_none)

three_of : (a b c d : Bool) → c ≡ ((((a && false) || (b && false)) || (c && true)) || (d && false))
three_of a b c d = grind (arith, none_and)

and_true : (b : Bool) → b ≡ (b && true)
and_true true = refl
and_true false = refl

four_of : (a b c d : Bool) → d ≡ ((((a && false) || (b && false)) || (c && false)) || (d && true))
four_of a b c d = grind (arith, and_true)

end_way : (s : States) (fc fz : Bool) → has_state s fc fz
    ≡ any_pair (λ c z. has_state s c z && is_way (cond (same_flags (record { c = fc; z = fz }) (record { c = c; z = z })) (Some []) None))
end_way s fc fz = grind (arith, one_of, two_of, three_of, four_of)

end_has : (s : States) (k : Part) (i v : ℕ) (fc fz : Bool) → false
    ≡ any_pair (λ c z. has_state s c z && may_have k i v (cond (same_flags (record { c = fc; z = fz }) (record { c = c; z = z })) (Some []) None))
end_has s k i v fc fz = sym (no_pair (λ c z. has_state s c z && may_have k i v (cond (same_flags (record { c = fc; z = fz }) (record { c = c; z = z })) (Some []) None))
    (λ c z. never (has_state s c z) (same_flags (record { c = fc; z = fz }) (record { c = c; z = z })) k i v))

end_back : (s : States) (fc fz c z : Bool) → has_state s fc fz ≡ true
    → has_state (states_one fc fz) c z ≡ (has_state s c z && is_way (cond (same_flags (record { c = fc; z = fz }) (record { c = c; z = z })) (Some []) None))
end_back s fc fz c z h = grind (arith, none_and)

-- ---- all bytes

-- flags are among the final ones if a way leads from flags before the steps to them
pub ends : (op : Operation) (fc fz : Bool) (start end : States) (ps : List (Set × Set)) (ss : List Step) → AreSteps op start ps ss end
    → has_state end fc fz ≡ any_pair (λ c z. has_state start c z && is_way (way_by op (record { c = fc; z = fz }) ps c z))
ends op fc fz start end [] [] h = ap (λ (s : States). has_state s fc fz) h ∙ end_way start fc fz
ends op fc fz start end [] (s ∷ ss) h = absurd h
ends op fc fz start end (p ∷ ps) [] h = absurd h
ends op fc fz start end (p ∷ ps) (s ∷ ss) h =
    let f : Flags = record { c = fc; z = fz } in
    ends op fc fz (states_after s) end ps ss h.2
    ∙ forward op p s (λ carry zero. is_way (way_by op f ps carry zero)) h.1
    ∙ pair_alike (λ c z. has_state s.before c z && any_pair (λ carry zero. is_arc op p (record { c = c; z = z }) (record { c = carry; z = zero }) && is_way (way_by op f ps carry zero)))
    (λ c z. has_state start c z && is_way (way_by op f (p ∷ ps) c z))
    (λ c z.
    ap (λ (b : States). has_state b c z && any_pair (λ carry zero. is_arc op p (record { c = c; z = z }) (record { c = carry; z = zero }) && is_way (way_by op f ps carry zero))) h.0
    ∙ ap (λ (b : Bool). has_state start c z && b) (sym (way_begins op f p ps c z)))

-- the flags before steps that lead to final ones
pub backs : (op : Operation) (fc fz : Bool) (start end : States) (ps : List (Set × Set)) (ss : List Step) → AreSteps op start ps ss end → has_state end fc fz ≡ true
    → (c z : Bool) → has_state (back_states (states_one fc fz) ss) c z ≡ (has_state start c z && is_way (way_by op (record { c = fc; z = fz }) ps c z))
backs op fc fz start end [] [] h e c z = end_back start fc fz c z (sym (ap (λ (s : States). has_state s fc fz) h) ∙ e)
backs op fc fz start end [] (s ∷ ss) h e c z = absurd h
backs op fc fz start end (p ∷ ps) [] h e c z = absurd h
backs op fc fz start end (p ∷ ps) (s ∷ ss) h e c z =
    let f : Flags = record { c = fc; z = fz } in
    backward op p s (back_states (states_one fc fz) ss) (λ carry zero. is_way (way_by op f ps carry zero)) h.1 (backs op fc fz (states_after s) end ps ss h.2 e) c z
    ∙ ap (λ (b : States). has_state b c z && any_pair (λ carry zero. is_arc op p (record { c = c; z = z }) (record { c = carry; z = zero }) && is_way (way_by op f ps carry zero))) h.0
    ∙ ap (λ (b : Bool). has_state start c z && b) (sym (way_begins op f p ps c z))

-- the digits that steps find
pub finds : (op : Operation) (fc fz : Bool) (start end : States) (ps : List (Set × Set)) (ss : List Step) (k : Part) (i v : ℕ) → AreSteps op start ps ss end
    → has_state end fc fz ≡ true
    → has_at k i v (back_digits (states_one fc fz) ss) ≡ any_pair (λ c z. has_state start c z && may_have k i v (way_by op (record { c = fc; z = fz }) ps c z))
finds op fc fz start end [] [] k i v h e = end_has start k i v fc fz
finds op fc fz start end [] (s ∷ ss) k i v h e = absurd h
finds op fc fz start end (p ∷ ps) [] k i v h e = absurd h
finds op fc fz start end (p ∷ ps) (s ∷ ss) k zero v h e =
    let f : Flags = record { c = fc; z = fz } in
    found_is op p s (back_states (states_one fc fz) ss) (λ carry zero. is_way (way_by op f ps carry zero)) k v h.1 (backs op fc fz (states_after s) end ps ss h.2 e)
    ∙ pair_alike (λ c z. has_state s.before c z && any_pair (λ carry zero. is_arc op p (record { c = c; z = z }) (record { c = carry; z = zero })
    && (is_way (way_by op f ps carry zero) && is_in v (part_of k (digits_from op p.0 p.1 (record { c = c; z = z }) (record { c = carry; z = zero }))))))
    (λ c z. has_state start c z && may_have k zero v (way_by op f (p ∷ ps) c z))
    (λ c z.
    ap (λ (b : States). has_state b c z && any_pair (λ carry zero. is_arc op p (record { c = c; z = z }) (record { c = carry; z = zero })
    && (is_way (way_by op f ps carry zero) && is_in v (part_of k (digits_from op p.0 p.1 (record { c = c; z = z }) (record { c = carry; z = zero })))))) h.0
    ∙ ap (λ (b : Bool). has_state start c z && b) (sym (first_values op f p ps c z k v)))
finds op fc fz start end (p ∷ ps) (s ∷ ss) k (suc i) v h e =
    let f : Flags = record { c = fc; z = fz } in
    finds op fc fz (states_after s) end ps ss k i v h.2 e
    ∙ forward op p s (λ carry zero. may_have k i v (way_by op f ps carry zero)) h.1
    ∙ pair_alike (λ c z. has_state s.before c z && any_pair (λ carry zero. is_arc op p (record { c = c; z = z }) (record { c = carry; z = zero }) && may_have k i v (way_by op f ps carry zero)))
    (λ c z. has_state start c z && may_have k (suc i) v (way_by op f (p ∷ ps) c z))
    (λ c z.
    ap (λ (b : States). has_state b c z && any_pair (λ carry zero. is_arc op p (record { c = c; z = z }) (record { c = carry; z = zero }) && may_have k i v (way_by op f ps carry zero))) h.0
    ∙ ap (λ (b : Bool). has_state start c z && b) (sym (later_values op f p ps c z k i v)))

back_shaped : (f : States) (ss : List Step) → AreShaped (length ss) (back_digits f ss)
back_shaped f [] = tt
back_shaped f (s ∷ ss) = (found_rising s (back_states f ss), back_shaped f ss)

-- ---- from the first flags

from_first : (h : Bool → Bool → Bool) → any_pair (λ c z. has_state (states_one false true) c z && h c z) ≡ h false true
from_first h = sym (or_false (h false true) ∙ or_false (h false true || false))

way_of : (fc fz : Bool) (o : Option (List Digits)) (b : Bool) (n : ℕ) (ds : List Digits) → b ≡ is_way o → MayBeShaped n o → AreShaped n ds
    → (b ≡ true → (k : Part) (i v : ℕ) → has_at k i v ds ≡ may_have k i v o)
    → cond b ((record { c = fc; z = fz }, reverse ds) ∷ []) [] ≡ way_if (record { c = fc; z = fz }) o
way_of fc fz o b n ds e p q h = grind (arith, same_lists)

-- the way that steps find is that of the definition
pub way_is : (op : Operation) (fc fz : Bool) (end : States) (ps : List (Set × Set)) (ss : List Step) → AreSteps op (states_one false true) ps ss end → PairsRise ps
    → way_back end fc fz ss ≡ way_if (record { c = fc; z = fz }) (digits_to (record { c = fc; z = fz }) (map (arcs op) ps))
way_is op fc fz end ps ss h r =
    let f : Flags = record { c = fc; z = fz } in
    let n = steps_length op (states_one false true) end ps ss h in
    way_of fc fz (digits_to f (map (arcs op) ps)) (has_state end fc fz) (length ps) (back_digits (states_one fc fz) ss)
    (ends op fc fz (states_one false true) end ps ss h ∙ from_first (λ c z. is_way (way_by op f ps c z)))
    (from_shaped (length ps) (ways f (map (arcs op) ps)) first_flags (ways_shaped op f ps r))
    (subst (λ (m : ℕ). AreShaped m (back_digits (states_one fc fz) ss)) (sym n) (back_shaped (states_one fc fz) ss))
    (λ e k i v. finds op fc fz (states_one false true) end ps ss k i v h e ∙ from_first (λ c z. may_have k i v (way_by op f ps c z)))

-- ---- pairs of values

pairs_append : (ps qs : List (Set × Set)) → PairsRise ps → PairsRise qs → PairsRise (ps ++ qs)
pairs_append [] qs p q = q
pairs_append (s ∷ ps) qs p q = (p.0, p.1, pairs_append ps qs p.2 q)

reverse_more : (p : Set × Set) (ps : List (Set × Set)) → reverse (p ∷ ps) ≡ reverse ps ++ p ∷ []
reverse_more p ps = reverse-append (p ∷ []) ps

pairs_reverse : (ps : List (Set × Set)) → PairsRise ps → PairsRise (reverse ps)
pairs_reverse [] h = tt
pairs_reverse (p ∷ ps) h =
    subst (λ (qs : List (Set × Set)). PairsRise qs) (sym (reverse_more p ps)) (pairs_append (reverse ps) (p ∷ []) (pairs_reverse ps h.2) (h.0, h.1, tt))

-- the sets of pairs of values ascend
pub values_rise : (xs ys : List Values) → PairsRise (value_pairs xs ys)
values_rise [] ys = tt
values_rise (x ∷ xs) [] = tt
values_rise (x ∷ xs) (y ∷ ys) = (rises_values x.words, rises_values y.words, values_rise xs ys)

-- no pair is left from the shorter list's end on
pub no_pairs_left : (xs ys : List Values) (n : ℕ) → min (length xs) (length ys) ≤ n → drop n (value_pairs xs ys) ≡ []
no_pairs_left [] ys zero h = refl
no_pairs_left [] ys (suc n) h = refl
no_pairs_left (x ∷ xs) [] zero h = refl
no_pairs_left (x ∷ xs) [] (suc n) h = refl
no_pairs_left (x ∷ xs) (y ∷ ys) zero h = absurd (omega (arith, h))
no_pairs_left (x ∷ xs) (y ∷ ys) (suc n) h = no_pairs_left xs ys n (omega (arith, h))

-- the pairs from a place on begin with that of the values there
pub pairs_left : (xs ys : List Values) (n : ℕ) (d e : Values) → n < length xs → n < length ys
    → drop n (value_pairs xs ys) ≡ (set_of (get_or xs n d), set_of (get_or ys n e)) ∷ drop (suc n) (value_pairs xs ys)
pairs_left [] ys n d e h k = absurd (omega (arith, h))
pairs_left (x ∷ xs) [] n d e h k = absurd (omega (arith, k))
pairs_left (x ∷ xs) (y ∷ ys) zero d e h k = refl
pairs_left (x ∷ xs) (y ∷ ys) (suc n) d e h k = pairs_left xs ys n d e (omega (arith, h)) (omega (arith, k))

-- turned round, the pair at a place comes last
pub pairs_before : (xs ys : List Values) (n : ℕ) (d e : Values) → n < length xs → n < length ys
    → reverse (drop n (value_pairs xs ys)) ≡ reverse (drop (suc n) (value_pairs xs ys)) ++ (set_of (get_or xs n d), set_of (get_or ys n e)) ∷ []
pairs_before xs ys n d e h k =
    ap reverse (pairs_left xs ys n d e h k) ∙ reverse_more (set_of (get_or xs n d), set_of (get_or ys n e)) (drop (suc n) (value_pairs xs ys))

-- the step of a byte before those whose steps were taken
pub steps_before : (op : Operation) (mid end : States) (xs ys : List Values) (n left : ℕ) (d e : Values) (ss rs : List Step) (m : Step) → suc n ≡ left → left ≤ length xs
    → left ≤ length ys → AreSteps op (states_one false true) (reverse (drop left (value_pairs xs ys))) ss mid → m.before ≡ mid
    → IsStep op (set_of (get_or xs n d)) (set_of (get_or ys n e)) m → rs ≡ ss ++ m ∷ [] → end ≡ states_after m
    → AreSteps op (states_one false true) (reverse (drop n (value_pairs xs ys))) rs end
steps_before op mid end xs ys n left d e ss rs m q a b h i j k l =
    let f : AreSteps op (states_one false true) (reverse (drop (suc n) (value_pairs xs ys))) ss mid
    = subst (λ (i : ℕ). AreSteps op (states_one false true) (reverse (drop i (value_pairs xs ys))) ss mid) (sym q) h in
    let p = pairs_before xs ys n d e (omega (arith, q, a)) (omega (arith, q, b)) in
    subst (λ (qs : List (Set × Set)). AreSteps op (states_one false true) qs rs end) (sym p)
    (subst (λ (ts : List Step). AreSteps op (states_one false true) (reverse (drop (suc n) (value_pairs xs ys)) ++ (set_of (get_or xs n d), set_of (get_or ys n e)) ∷ []) ts end) (sym k)
    (subst (λ (t : States). AreSteps op (states_one false true) (reverse (drop (suc n) (value_pairs xs ys)) ++ (set_of (get_or xs n d), set_of (get_or ys n e)) ∷ []) (ss ++ m ∷ []) t) (sym l)
    (steps_more op (states_one false true) mid (reverse (drop (suc n) (value_pairs xs ys))) ss (set_of (get_or xs n d), set_of (get_or ys n e)) m f i j)))

-- ---- digits of values

-- digits with one more byte in each list have one more at the end
pub digits_more : (xs ys rs : List Values) (x y r : Values) → length ys ≡ length xs → length rs ≡ length xs
    → digits_of (xs ++ x ∷ []) (ys ++ y ∷ []) (rs ++ r ∷ []) ≡ digits_of xs ys rs ++ (record { a = set_of x; b = set_of y; r = set_of r }) ∷ []
digits_more [] [] [] x y r h k = refl
digits_more [] (b ∷ ys) rs x y r h k = absurd (omega (arith, h))
digits_more [] [] (c ∷ rs) x y r h k = absurd (omega (arith, k))
digits_more (a ∷ xs) [] rs x y r h k = absurd (omega (arith, h))
digits_more (a ∷ xs) (b ∷ ys) [] x y r h k = absurd (omega (arith, k))
digits_more (a ∷ xs) (b ∷ ys) (c ∷ rs) x y r h k =
    ap (λ (ds : List Digits). (record { a = set_of a; b = set_of b; r = set_of c }) ∷ ds) (digits_more xs ys rs x y r (omega (arith, h)) (omega (arith, k)))

reverse_digits : (d : Digits) (ds : List Digits) → reverse (d ∷ ds) ≡ reverse ds ++ d ∷ []
reverse_digits d ds = reverse-append (d ∷ []) ds

-- one step back finds the states and the digits before it
pub back_more : (f : States) (ss : List Step) (n : ℕ) (s : Step) (after : States) (d : Digits) → drop n ss ≡ s ∷ drop (suc n) ss → after ≡ back_states f (drop (suc n) ss)
    → d ≡ found_digits s after
    → (states_before s after ≡ back_states f (drop n ss)) × (reverse (back_digits f (drop (suc n) ss)) ++ d ∷ [] ≡ reverse (back_digits f (drop n ss)))
back_more f ss n s after d e a g = grind (arith, reverse_digits)

-- digits with one more trio are those of the lists with one more byte
pub bytes_more : (xs ys rs us vs ws : List Values) (t : Trio) → length ys ≡ length xs → length rs ≡ length xs → us ≡ xs ++ t.x ∷ [] → vs ≡ ys ++ t.y ∷ []
    → ws ≡ rs ++ t.r ∷ [] → (digits_of us vs ws ≡ digits_of xs ys rs ++ trio_value t ∷ []) × (length vs ≡ length us) × (length ws ≡ length us)
bytes_more xs ys rs us vs ws t h k e f g = grind (arith, digits_more, length-append)

-- what an index past the end reads
abbrev pub blank_values : Values
blank_values = record { words = [] }

-- what an index past the end of trios reads
abbrev pub blank_trio : Trio
blank_trio = record { x = blank_values; y = blank_values; r = blank_values }

-- what an index past the end of turns reads
abbrev pub blank_turn : Turn
blank_turn = record { clear = record { other = blank_trio; zero = blank_trio }; set = record { other = blank_trio; zero = blank_trio } }

-- what an index past the end of steps reads
abbrev pub blank_step : Step
blank_step = record { before = record { other = false; zero = false; carry = false; both = false }; plain = blank_turn; carried = blank_turn }

-- ---- all final flags

-- the way of the definition to final flags
abbrev pub way_found : Operation → List (Set × Set) → Bool → Bool → List (Flags × List Digits)
way_found op qs c z = way_if (record { c = c; z = z }) (digits_to (record { c = c; z = z }) (map (arcs op) qs))

append_none : (w : List (Flags × List Digits)) → w ≡ w ++ []
append_none [] = refl
append_none (x ∷ w) = ap (λ (v : List (Flags × List Digits)). x ∷ v) (append_none w)

four_lists : (a b c d : List (Flags × List Digits)) → ((([] ++ a) ++ b) ++ c) ++ d ≡ a ++ (b ++ (c ++ (d ++ [])))
four_lists a b c d =
    append_assoc (a ++ b) c d ∙ append_assoc a b (c ++ d) ∙ ap (λ (w : List (Flags × List Digits)). a ++ (b ++ (c ++ w))) (append_none d)

-- the ways that the steps find to all final flags are those of the definition
pub ways_are : (op : Operation) (end : States) (xs ys : List Values) (ss : List Step) → AreSteps op (states_one false true) (reverse (value_pairs xs ys)) ss end
    → ((([] ++ way_back end false false ss) ++ way_back end false true ss) ++ way_back end true false ss) ++ way_back end true true ss ≡ ways_found op (value_pairs xs ys)
ways_are op end xs ys ss h =
    let r = pairs_reverse (value_pairs xs ys) (values_rise xs ys) in
    let qs = reverse (value_pairs xs ys) in
    four_lists (way_back end false false ss) (way_back end false true ss) (way_back end true false ss) (way_back end true true ss)
    ∙ ap (λ (w : List (Flags × List Digits)). w ++ (way_back end false true ss ++ (way_back end true false ss ++ (way_back end true true ss ++ [])))) (way_is op false false end qs ss h r)
    ∙ ap (λ (w : List (Flags × List Digits)). way_found op qs false false ++ (w ++ (way_back end true false ss ++ (way_back end true true ss ++ [])))) (way_is op false true end qs ss h r)
    ∙ ap (λ (w : List (Flags × List Digits)). way_found op qs false false ++ (way_found op qs false true ++ (w ++ (way_back end true true ss ++ [])))) (way_is op true false end qs ss h r)
    ∙ ap (λ (w : List (Flags × List Digits)). way_found op qs false false ++ (way_found op qs false true ++ (way_found op qs true false ++ (w ++ [])))) (way_is op true true end qs ss h r)
