-- What a step finds, forward and backward, by the arcs of the definition.
use Rattle.std.specs.Prelude.{◌≡◌, ℕ, Bool, true, false, cond, not, ◌&&◌, ◌||◌, refl}
use Rattle.std.proofs.Common.{arith, ap, ◌∙◌}
use Rattle.std.proofs.lemmas.Bool.{or_left, or_right}
use Rattle.prove_facts.specs.model_prove.specs.Sets.{Set, is_in, is_empty}
use Rattle.prove_facts.specs.model_prove.specs.Digits.{Operation, Digits, join_digit, digits_from}
use Rattle.prove_facts.proofs.SetLemmas.{rises_values}
use Rattle.prove_digits.specs.declared.states.States.{States}
use Rattle.prove_digits.specs.declared.steps.Step.{Step}
use Rattle.prove_digits.specs.declared.trios.Trio.{Trio}
use Rattle.prove_digits.specs.declared.turns.Turn.{Turn}
use Rattle.prove_digits.specs.Trios.{no_digits, trio_value, trio_at, edge_of}
use Rattle.prove_digits.specs.States.{has_state, turn_under, leads_from, any_pair, leads_to, states_after, goes_from, states_before, with_edge, with_edges, found_digits, IsStep}
use Rattle.prove_digits.proofs.MemberLemmas.{AreRising}
use Rattle.prove_digits.proofs.ShapeLemmas.{Part, part_of, joined_part, joined_rising}
use Rattle.prove_digits.proofs.WayLemmas.{is_arc, pair_alike}

-- ---- tests

-- two tests that agree under a condition agree with it
pub and_alike : (b x y : Bool) → (b ≡ true → x ≡ y) → (b && x) ≡ (b && y)
and_alike true x y h = h refl
and_alike false x y h = refl

-- a conjunction of three may be grouped either way
pub and_grouped : (a b c : Bool) → ((a && b) && c) ≡ (a && (b && c))
and_grouped true b c = refl
and_grouped false b c = refl

or_and : (a b m : Bool) → ((a || b) && m) ≡ ((a && m) || (b && m))
or_and a b m = grind arith

-- a condition that no flag decides may be taken out of a test of all flags
pub pair_and : (m : Bool) (h : Bool → Bool → Bool) → any_pair (λ c z. m && h c z) ≡ (m && any_pair h)
pair_and true h = refl
pair_and false h = refl

and_pair : (m : Bool) (h : Bool → Bool → Bool) → (any_pair h && m) ≡ any_pair (λ c z. h c z && m)
and_pair m h = grind (arith, or_and)

-- two pairs in the other order
crossed : (a b c d : Bool) → ((a || b) || (c || d)) ≡ ((a || c) || (b || d))
crossed a b c d = grind arith

pair_or : (h k : Bool → Bool → Bool) → (any_pair h || any_pair k) ≡ any_pair (λ c z. h c z || k c z)
pair_or h k = grind (arith, crossed)

-- some pair after some pair
pub pair_turned : (h : Bool → Bool → Bool → Bool → Bool) → any_pair (λ c z. any_pair (λ d y. h c z d y)) ≡ any_pair (λ d y. any_pair (λ c z. h c z d y))
pair_turned h = grind (arith, pair_or)

-- one pair among four
pub pair_from : (h : Bool → Bool → Bool) (c z : Bool) → h c z ≡ true → any_pair h ≡ true
pair_from h c z e = grind (arith, or_left, or_right)

-- ---- forward

-- a step leads from flags to flags if they come before it and an arc does
pub leads_is : (op : Operation) (p : Set × Set) (s : Step) → IsStep op p.0 p.1 s → (c z carry zero : Bool)
    → leads_from s c z carry zero ≡ (has_state s.before c z && is_arc op p (record { c = c; z = z }) (record { c = carry; z = zero }))
unfolding leads_from
leads_is op p s h c z carry zero =
    and_alike (has_state s.before c z) (not (is_empty (edge_of (turn_under s c) z carry zero).a)) (is_arc op p (record { c = c; z = z }) (record { c = carry; z = zero }))
    (λ e. ap (λ (d : Digits). not (is_empty d.a)) (h c z e carry zero))

leads_opened : (s : Step) (carry zero : Bool) → leads_to s carry zero ≡ any_pair (λ c z. leads_from s c z carry zero)
unfolding leads_to
leads_opened s carry zero = refl

after_is : (s : Step) (carry zero : Bool) → has_state (states_after s) carry zero ≡ leads_to s carry zero
after_is s carry h = grind arith

-- what holds of some flags after a step, by the flags before it
pub forward : (op : Operation) (p : Set × Set) (s : Step) (m : Bool → Bool → Bool) → IsStep op p.0 p.1 s
    → any_pair (λ carry zero. has_state (states_after s) carry zero && m carry zero)
    ≡ any_pair (λ c z. has_state s.before c z && any_pair (λ carry zero. is_arc op p (record { c = c; z = z }) (record { c = carry; z = zero }) && m carry zero))
forward op p s m h =
    pair_alike (λ carry zero. has_state (states_after s) carry zero && m carry zero)
    (λ carry zero. any_pair (λ c z. leads_from s c z carry zero && m carry zero))
    (λ carry zero. ap (λ (b : Bool). b && m carry zero) (after_is s carry zero ∙ leads_opened s carry zero) ∙ and_pair (m carry zero) (λ c z. leads_from s c z carry zero))
    ∙ pair_turned (λ carry zero c z. leads_from s c z carry zero && m carry zero)
    ∙ pair_alike (λ c z. any_pair (λ carry zero. leads_from s c z carry zero && m carry zero))
    (λ c z. has_state s.before c z && any_pair (λ carry zero. is_arc op p (record { c = c; z = z }) (record { c = carry; z = zero }) && m carry zero))
    (λ c z.
    pair_alike (λ carry zero. leads_from s c z carry zero && m carry zero)
    (λ carry zero. has_state s.before c z && (is_arc op p (record { c = c; z = z }) (record { c = carry; z = zero }) && m carry zero))
    (λ carry zero.
    ap (λ (b : Bool). b && m carry zero) (leads_is op p s h c z carry zero)
    ∙ and_grouped (has_state s.before c z) (is_arc op p (record { c = c; z = z }) (record { c = carry; z = zero })) (m carry zero))
    ∙ pair_and (has_state s.before c z) (λ carry zero. is_arc op p (record { c = c; z = z }) (record { c = carry; z = zero }) && m carry zero))

-- ---- backward

dropped : (a w l : Bool) → (l ≡ true → a ≡ true) → ((a && w) && l) ≡ (l && w)
dropped a w l h = grind arith

-- flags among those after a step from which a way goes on, where some values lead to them
pub on_way : (op : Operation) (p : Set × Set) (s : Step) (after : States) (w : Bool → Bool → Bool) → IsStep op p.0 p.1 s
    → ((carry zero : Bool) → has_state after carry zero ≡ (has_state (states_after s) carry zero && w carry zero)) → (c z carry zero : Bool)
    → (has_state after carry zero && leads_from s c z carry zero)
    ≡ (has_state s.before c z && (is_arc op p (record { c = c; z = z }) (record { c = carry; z = zero }) && w carry zero))
on_way op p s after w h e c z carry zero =
    ap (λ (b : Bool). b && leads_from s c z carry zero) (e carry zero)
    ∙ dropped (has_state (states_after s) carry zero) (w carry zero) (leads_from s c z carry zero)
    (λ l. after_is s carry zero ∙ leads_opened s carry zero ∙ pair_from (λ d y. leads_from s d y carry zero) c z l)
    ∙ ap (λ (b : Bool). b && w carry zero) (leads_is op p s h c z carry zero)
    ∙ and_grouped (has_state s.before c z) (is_arc op p (record { c = c; z = z }) (record { c = carry; z = zero })) (w carry zero)

goes_opened : (s : Step) (after : States) (c z : Bool) → goes_from s after c z ≡ any_pair (λ carry zero. has_state after carry zero && leads_from s c z carry zero)
unfolding goes_from
goes_opened s after c z = refl

before_is : (s : Step) (after : States) (c z : Bool) → has_state (states_before s after) c z ≡ goes_from s after c z
before_is s after c z = grind arith

-- flags lead on before a step if an arc of it leads to some that do
pub backward : (op : Operation) (p : Set × Set) (s : Step) (after : States) (w : Bool → Bool → Bool) → IsStep op p.0 p.1 s
    → ((carry zero : Bool) → has_state after carry zero ≡ (has_state (states_after s) carry zero && w carry zero)) → (c z : Bool)
    → has_state (states_before s after) c z
    ≡ (has_state s.before c z && any_pair (λ carry zero. is_arc op p (record { c = c; z = z }) (record { c = carry; z = zero }) && w carry zero))
backward op p s after w h e c z =
    before_is s after c z ∙ goes_opened s after c z
    ∙ pair_alike (λ carry zero. has_state after carry zero && leads_from s c z carry zero)
    (λ carry zero. has_state s.before c z && (is_arc op p (record { c = c; z = z }) (record { c = carry; z = zero }) && w carry zero))
    (λ carry zero. on_way op p s after w h e c z carry zero)
    ∙ pair_and (has_state s.before c z) (λ carry zero. is_arc op p (record { c = c; z = z }) (record { c = carry; z = zero }) && w carry zero)

-- ---- digits

or_false : (b : Bool) → b ≡ (b || false)
or_false true = refl
or_false false = refl

if_joined : (b : Bool) (k : Part) (v : ℕ) (d e : Digits) → is_in v (part_of k (cond b (join_digit d e) d)) ≡ (is_in v (part_of k d) || (b && is_in v (part_of k e)))
if_joined true k v d e = joined_part k v d e
if_joined false k v d e = or_false (is_in v (part_of k d))

-- whether a value leads from flags to flags among some
abbrev pub has_edge : Step → States → Part → ℕ → Bool → Bool → Bool → Bool → Bool
has_edge s after k v c z carry zero = (has_state after carry zero && leads_from s c z carry zero) && is_in v (part_of k (edge_of (turn_under s c) z carry zero))

in_edge : (s : Step) (after : States) (k : Part) (v : ℕ) (c z carry zero : Bool) (d : Digits)
    → is_in v (part_of k (with_edge s after c z carry zero d)) ≡ (is_in v (part_of k d) || has_edge s after k v c z carry zero)
unfolding with_edge
in_edge s after k v c z carry zero d = if_joined (has_state after carry zero && leads_from s c z carry zero) k v d (edge_of (turn_under s c) z carry zero)

four : (d a b c e : Bool) → ((((d || a) || b) || c) || e) ≡ (d || (((a || b) || c) || e))
four true a b c e = refl
four false a b c e = refl

in_edges : (s : Step) (after : States) (k : Part) (v : ℕ) (c z : Bool) (d : Digits)
    → is_in v (part_of k (with_edges s after c z d)) ≡ (is_in v (part_of k d) || any_pair (λ carry zero. has_edge s after k v c z carry zero))
unfolding with_edges
in_edges s after k v c z d =
    let d1 = with_edge s after c z false false d in
    let d2 = with_edge s after c z false true (with_edge s after c z false false d) in
    let d3 = with_edge s after c z true false (with_edge s after c z false true (with_edge s after c z false false d)) in
    in_edge s after k v c z true true d3
    ∙ ap (λ (b : Bool). b || has_edge s after k v c z true true) (in_edge s after k v c z true false d2)
    ∙ ap (λ (b : Bool). (b || has_edge s after k v c z true false) || has_edge s after k v c z true true) (in_edge s after k v c z false true d1)
    ∙ ap (λ (b : Bool). ((b || has_edge s after k v c z false true) || has_edge s after k v c z true false) || has_edge s after k v c z true true)
    (in_edge s after k v c z false false d)
    ∙ four (is_in v (part_of k d)) (has_edge s after k v c z false false) (has_edge s after k v c z false true) (has_edge s after k v c z true false) (has_edge s after k v c z true true)

in_none : (k : Part) (v : ℕ) → is_in v (part_of k no_digits) ≡ false
in_none k v = grind arith

in_found : (s : Step) (after : States) (k : Part) (v : ℕ)
    → is_in v (part_of k (found_digits s after)) ≡ any_pair (λ c z. any_pair (λ carry zero. has_edge s after k v c z carry zero))
unfolding found_digits
in_found s after k v =
    let t = λ (c z : Bool). any_pair (λ carry zero. has_edge s after k v c z carry zero) in
    let d1 = with_edges s after false false no_digits in
    let d2 = with_edges s after false true (with_edges s after false false no_digits) in
    let d3 = with_edges s after true false (with_edges s after false true (with_edges s after false false no_digits)) in
    in_edges s after k v true true d3
    ∙ ap (λ (b : Bool). b || t true true) (in_edges s after k v true false d2)
    ∙ ap (λ (b : Bool). (b || t true false) || t true true) (in_edges s after k v false true d1)
    ∙ ap (λ (b : Bool). ((b || t false true) || t true false) || t true true) (in_edges s after k v false false no_digits)
    ∙ ap (λ (b : Bool). (((b || t false false) || t false true) || t true false) || t true true) (in_none k v)

-- the values that a step finds
pub found_is : (op : Operation) (p : Set × Set) (s : Step) (after : States) (w : Bool → Bool → Bool) (k : Part) (v : ℕ) → IsStep op p.0 p.1 s
    → ((carry zero : Bool) → has_state after carry zero ≡ (has_state (states_after s) carry zero && w carry zero))
    → is_in v (part_of k (found_digits s after))
    ≡ any_pair (λ c z. has_state s.before c z && any_pair (λ carry zero. is_arc op p (record { c = c; z = z }) (record { c = carry; z = zero })
    && (w carry zero && is_in v (part_of k (digits_from op p.0 p.1 (record { c = c; z = z }) (record { c = carry; z = zero }))))))
found_is op p s after w k v h e =
    in_found s after k v
    ∙ pair_alike (λ c z. any_pair (λ carry zero. has_edge s after k v c z carry zero))
    (λ c z. has_state s.before c z && any_pair (λ carry zero. is_arc op p (record { c = c; z = z }) (record { c = carry; z = zero })
    && (w carry zero && is_in v (part_of k (digits_from op p.0 p.1 (record { c = c; z = z }) (record { c = carry; z = zero }))))))
    (λ c z.
    pair_alike (λ carry zero. has_edge s after k v c z carry zero)
    (λ carry zero. has_state s.before c z && (is_arc op p (record { c = c; z = z }) (record { c = carry; z = zero })
    && (w carry zero && is_in v (part_of k (digits_from op p.0 p.1 (record { c = c; z = z }) (record { c = carry; z = zero }))))))
    (λ carry zero.
    let a = is_arc op p (record { c = c; z = z }) (record { c = carry; z = zero }) in
    let i = is_in v (part_of k (edge_of (turn_under s c) z carry zero)) in
    let j = is_in v (part_of k (digits_from op p.0 p.1 (record { c = c; z = z }) (record { c = carry; z = zero }))) in
    ap (λ (b : Bool). b && is_in v (part_of k (edge_of (turn_under s c) z carry zero))) (on_way op p s after w h e c z carry zero)
    ∙ and_grouped (has_state s.before c z) (a && w carry zero) i
    ∙ and_alike (has_state s.before c z) ((a && w carry zero) && i) (a && (w carry zero && j))
    (λ t.
    ap (λ (d : Digits). (a && w carry zero) && is_in v (part_of k d)) (h c z t carry zero)
    ∙ and_grouped a (w carry zero) j))
    ∙ pair_and (has_state s.before c z) (λ carry zero. is_arc op p (record { c = c; z = z }) (record { c = carry; z = zero })
    && (w carry zero && is_in v (part_of k (digits_from op p.0 p.1 (record { c = c; z = z }) (record { c = carry; z = zero }))))))

-- ---- they ascend

trio_rising : (t : Trio) → AreRising (trio_value t)
trio_rising t = record { a = rises_values t.x.words; b = rises_values t.y.words; r = rises_values t.r.words }

edge_rising : (t : Turn) (z carry zero : Bool) → AreRising (edge_of t z carry zero)
edge_rising t true carry zero = trio_rising (trio_at t carry zero)
edge_rising t false carry true = record { a = tt; b = tt; r = tt }
edge_rising t false carry false = joined_rising (trio_value (trio_at t carry false)) (trio_value (trio_at t carry true)) (trio_rising (trio_at t carry false)) (trio_rising (trio_at t carry true))

if_rising : (b : Bool) (d e : Digits) → AreRising d → AreRising e → AreRising (cond b (join_digit d e) d)
if_rising true d e p q = joined_rising d e p q
if_rising false d e p q = p

with_rising : (s : Step) (after : States) (c z carry zero : Bool) (d : Digits) → AreRising d → AreRising (with_edge s after c z carry zero d)
unfolding with_edge
with_rising s after c z carry zero d p =
    if_rising (has_state after carry zero && leads_from s c z carry zero) d (edge_of (turn_under s c) z carry zero) p (edge_rising (turn_under s c) z carry zero)

edges_rising : (s : Step) (after : States) (c z : Bool) (d : Digits) → AreRising d → AreRising (with_edges s after c z d)
unfolding with_edges
edges_rising s after c z d p =
    let d1 = with_edge s after c z false false d in
    let d2 = with_edge s after c z false true (with_edge s after c z false false d) in
    let d3 = with_edge s after c z true false (with_edge s after c z false true (with_edge s after c z false false d)) in
    with_rising s after c z true true d3
    (with_rising s after c z true false d2 (with_rising s after c z false true d1 (with_rising s after c z false false d p)))

-- the digits that a step finds ascend
pub found_rising : (s : Step) (after : States) → AreRising (found_digits s after)
unfolding found_digits
found_rising s after =
    let d1 = with_edges s after false false no_digits in
    let d2 = with_edges s after false true (with_edges s after false false no_digits) in
    let d3 = with_edges s after true false (with_edges s after false true (with_edges s after false false no_digits)) in
    edges_rising s after true true d3
    (edges_rising s after true false d2 (edges_rising s after false true d1 (edges_rising s after false false no_digits (record { a = tt; b = tt; r = tt }))))
