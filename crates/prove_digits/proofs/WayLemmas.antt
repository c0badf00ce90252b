-- The ways of the definition from flags: whether one begins there, and what its digits have, by those of the next byte.
use Rattle.std.specs.Prelude.{◌≡◌, ℕ, zero, suc, Bool, true, false, cond, not, ◌&&◌, ◌||◌, List, [], ◌∷◌, ◌++◌, map, flat_map, Option, Some, None, refl}
use Rattle.std.proofs.Common.{arith, ap, sym, ◌∙◌}
use Rattle.prove_facts.specs.model_prove.specs.Sets.{Set, is_in, is_empty}
use Rattle.prove_facts.specs.model_prove.specs.Digits.{Operation, Flags, all_flags, same, same_flags, Digits, Arc, Way, digits_from, arc_if, arcs, join_digits, with_way, arc_before, ways_along, ways, way_from}
use Rattle.prove_facts.specs.model_prove.proofs.DigitLemmas.{flags_are}
use Rattle.prove_digits.specs.States.{any_pair}
use Rattle.prove_digits.proofs.ShapeLemmas.{Part, part_of, may_have, joined_at}

-- digits of one of two, or joined
abbrev pub either : Option (List Digits) → Option (List Digits) → Option (List Digits)
either None o = o
either (Some ds) None = Some ds
either (Some ds) (Some es) = Some (join_digits ds es)

-- a digit before some
abbrev pub before : Digits → Option (List Digits) → Option (List Digits)
before d None = None
before d (Some ds) = Some (d ∷ ds)

-- a test of digits that two pass together if one of them does
pub record IsJoint (q : Option (List Digits) → Bool) : Type 0 where
  pub none : q None ≡ false
  pub join : (ds es : List Digits) → q (Some (join_digits ds es)) ≡ (q (Some ds) || q (Some es))

same_turned : (b c : Bool) → same b c ≡ same c b
same_turned b c = grind arith

flags_turned : (f g : Flags) → same_flags f g ≡ same_flags g f
flags_turned f g = ap (λ (b : Bool). b && same f.z g.z) (same_turned f.c g.c) ∙ ap (λ (b : Bool). same g.c f.c && b) (same_turned f.z g.z)

or_false : (b : Bool) → b ≡ (b || false)
or_false true = refl
or_false false = refl

only_by : (b : Bool) (q : Option (List Digits) → Bool) (ds : List Digits) → IsJoint q → q (cond b (Some ds) None) ≡ ((b && q (Some ds)) || false)
only_by true q ds j = or_false (q (Some ds))
only_by false q ds j = j.none

joined_by : (b : Bool) (q : Option (List Digits) → Bool) (ds es : List Digits) (o : Option (List Digits)) → IsJoint q
    → q (cond b (Some (join_digits ds es)) o) ≡ ((b && q (Some ds)) || q (cond b (Some es) o))
joined_by true q ds es o j = j.join ds es
joined_by false q ds es o j = refl

next_by : (b c : Bool) (q : Option (List Digits) → Bool) (ds es : List Digits) (o p : Option (List Digits)) → (b ≡ true → c ≡ false)
    → q o ≡ ((c && q (Some ds)) || q p) → q (cond b (Some es) o) ≡ ((c && q (Some ds)) || q (cond b (Some es) p))
next_by true c q ds es o p h e = ap (λ (i : Bool). (i && q (Some ds)) || q (Some es)) (sym (h refl))
next_by false c q ds es o p h e = e

with_by : (b : Bool) (q : Option (List Digits) → Bool) (w v : Way) (vs : List Way) (f : Flags) → IsJoint q → same_flags v.from w.from ≡ b
    → q (way_from (with_way w vs) f) ≡ ((same_flags w.from f && q (Some w.digits)) || q (way_from vs f))
    → q (way_from (cond b (record { from = v.from; digits = join_digits w.digits v.digits } ∷ vs) (v ∷ with_way w vs)) f)
    ≡ ((same_flags w.from f && q (Some w.digits)) || q (cond (same_flags v.from f) (Some v.digits) (way_from vs f)))
with_by b q w v vs f j e h = grind (arith, joined_by, flags_are, next_by, flags_turned)

-- a way more
with_passes : (q : Option (List Digits) → Bool) (w : Way) (ws : List Way) (f : Flags) → IsJoint q
    → q (way_from (with_way w ws) f) ≡ ((same_flags w.from f && q (Some w.digits)) || q (way_from ws f))
with_passes q w [] f j =
    only_by (same_flags w.from f) q w.digits j ∙ ap (λ (b : Bool). (same_flags w.from f && q (Some w.digits)) || b) (sym j.none)
with_passes q w (v ∷ vs) f j = with_by (same_flags v.from w.from) q w v vs f j refl (with_passes q w vs f j)

none_and : (a b : Bool) → b ≡ false → (a && b) ≡ false
none_and true b h = h
none_and false b h = refl

before_passes : (q : Option (List Digits) → Bool) (a : Arc) (o : Option (List Digits)) (ws : List Way) (f : Flags) → IsJoint q
    → q (way_from (arc_before a o ws) f) ≡ ((same_flags a.from f && q (before a.digits o)) || q (way_from ws f))
before_passes q a None ws f j = sym (ap (λ (b : Bool). b || q (way_from ws f)) (none_and (same_flags a.from f) (q None) j.none))
before_passes q a (Some ds) ws f j = with_passes q (record { from = a.from; digits = a.digits ∷ ds }) ws f j

-- whether some arc passes a test
abbrev pub any_arc : (Arc → Bool) → List Arc → Bool
any_arc h [] = false
any_arc h (a ∷ more) = h a || any_arc h more

along_passes : (q : Option (List Digits) → Bool) (more : List Arc) (tails : List Way) (f : Flags) → IsJoint q
    → q (way_from (ways_along more tails) f) ≡ any_arc (λ a. same_flags a.from f && q (before a.digits (way_from tails a.to))) more
along_passes q [] tails f j = j.none
along_passes q (a ∷ more) tails f j =
    before_passes q a (way_from tails a.to) (ways_along more tails) f j
    ∙ ap (λ (b : Bool). (same_flags a.from f && q (before a.digits (way_from tails a.to))) || b) (along_passes q more tails f j)

-- ---- all arcs

grouped : (a b c : Bool) → (a || (b || c)) ≡ ((a || b) || c)
grouped true b c = refl
grouped false b c = refl

arc_append : (h : Arc → Bool) (cs bs : List Arc) → any_arc h (cs ++ bs) ≡ (any_arc h cs || any_arc h bs)
arc_append h [] bs = refl
arc_append h (a ∷ cs) bs = ap (λ (b : Bool). h a || b) (arc_append h cs bs) ∙ grouped (h a) (any_arc h cs) (any_arc h bs)

-- whether some of some flags pass a test
abbrev pub any_of : (Flags → Bool) → List Flags → Bool
any_of h [] = false
any_of h (f ∷ fs) = h f || any_of h fs

arc_flat : (h : Arc → Bool) (k : Flags → List Arc) (fs : List Flags) → any_arc h (flat_map k fs) ≡ any_of (λ f. any_arc h (k f)) fs
arc_flat h k [] = refl
arc_flat h k (f ∷ fs) = arc_append h (k f) (flat_map k fs) ∙ ap (λ (b : Bool). any_arc h (k f) || b) (arc_flat h k fs)

any_alike : (h k : Flags → Bool) (fs : List Flags) → ((f : Flags) → h f ≡ k f) → any_of h fs ≡ any_of k fs
any_alike h k [] e = refl
any_alike h k (f ∷ fs) e = ap (λ (b : Bool). b || any_of h fs) (e f) ∙ ap (λ (b : Bool). k f || b) (any_alike h k fs e)

one_arc : (b : Bool) (h : Arc → Bool) (f g : Flags) (d : Digits) → any_arc h (cond b [] (record { from = f; to = g; digits = d } ∷ []))
    ≡ (not b && h (record { from = f; to = g; digits = d }))
one_arc true h f g d = refl
one_arc false h f g d = sym (or_false (h (record { from = f; to = g; digits = d })))

common_test : (c : Bool) (n t : Flags → Bool) (fs : List Flags) → any_of (λ g. n g && (c && t g)) fs ≡ (c && any_of (λ g. n g && t g) fs)
common_test true n t fs = refl
common_test false n t [] = refl
common_test false n t (g ∷ fs) = ap (λ (b : Bool). b || any_of (λ g. n g && false) fs) (none_and (n g) false refl) ∙ common_test false n t fs

from_one : (c z : Bool) (h : Flags → Bool) → any_of (λ e. same_flags e (record { c = c; z = z }) && h e) all_flags ≡ h (record { c = c; z = z })
from_one c z h = grind (arith, or_false)

regroup : (a b c d : Bool) → (a || (b || (c || (d || false)))) ≡ (((a || b) || c) || d)
regroup a b c d = grind (arith, or_false)

pairwise : (h : Flags → Bool) → any_of h all_flags ≡ any_pair (λ c z. h (record { c = c; z = z }))
pairwise h = regroup (h (record { c = false; z = false })) (h (record { c = false; z = true })) (h (record { c = true; z = false })) (h (record { c = true; z = true }))

-- flags that some values of a pair of sets lead from and to
abbrev pub is_arc : Operation → Set × Set → Flags → Flags → Bool
is_arc op p f g = not (is_empty (digits_from op p.0 p.1 f g).a)

-- some arc passes a test if flags lead to flags whose digits pass it
pub arcs_pass : (op : Operation) (p : Set × Set) (c z : Bool) (t : Flags → Digits → Bool)
    → any_arc (λ a. same_flags a.from (record { c = c; z = z }) && t a.to a.digits) (arcs op p)
    ≡ any_pair (λ carry zero. is_arc op p (record { c = c; z = z }) (record { c = carry; z = zero })
    && t (record { c = carry; z = zero }) (digits_from op p.0 p.1 (record { c = c; z = z }) (record { c = carry; z = zero })))
arcs_pass op p c z t =
    let h = λ (a : Arc). same_flags a.from (record { c = c; z = z }) && t a.to a.digits in
    let d = λ (f g : Flags). digits_from op p.0 p.1 f g in
    arc_flat h (λ f. flat_map (λ g. arc_if f g (digits_from op p.0 p.1 f g)) all_flags) all_flags
    ∙ any_alike (λ f. any_arc h (flat_map (λ g. arc_if f g (digits_from op p.0 p.1 f g)) all_flags))
    (λ f. same_flags f (record { c = c; z = z }) && any_of (λ g. is_arc op p f g && t g (digits_from op p.0 p.1 f g)) all_flags) all_flags
    (λ f.
    arc_flat h (λ g. arc_if f g (digits_from op p.0 p.1 f g)) all_flags
    ∙ any_alike (λ g. any_arc h (arc_if f g (digits_from op p.0 p.1 f g)))
    (λ g. is_arc op p f g && (same_flags f (record { c = c; z = z }) && t g (digits_from op p.0 p.1 f g))) all_flags
    (λ g. one_arc (is_empty (digits_from op p.0 p.1 f g).a) h f g (digits_from op p.0 p.1 f g))
    ∙ common_test (same_flags f (record { c = c; z = z })) (λ g. is_arc op p f g) (λ g. t g (digits_from op p.0 p.1 f g)) all_flags)
    ∙ from_one c z (λ f. any_of (λ g. is_arc op p f g && t g (digits_from op p.0 p.1 f g)) all_flags)
    ∙ pairwise (λ g. is_arc op p (record { c = c; z = z }) g && t g (digits_from op p.0 p.1 (record { c = c; z = z }) g))

-- ---- ways through pairs of sets

-- the way to final flags from flags
abbrev pub way_by : Operation → Flags → List (Set × Set) → Bool → Bool → Option (List Digits)
way_by op final ps c z = way_from (ways final (map (arcs op) ps)) (record { c = c; z = z })

-- a way through one more pair passes a joint test if an arc and a way after it do
pub way_passes : (q : Option (List Digits) → Bool) (op : Operation) (final : Flags) (p : Set × Set) (ps : List (Set × Set)) (c z : Bool) → IsJoint q
    → q (way_by op final (p ∷ ps) c z)
    ≡ any_pair (λ carry zero. is_arc op p (record { c = c; z = z }) (record { c = carry; z = zero })
    && q (before (digits_from op p.0 p.1 (record { c = c; z = z }) (record { c = carry; z = zero })) (way_by op final ps carry zero)))
way_passes q op final p ps c z j =
    along_passes q (arcs op p) (ways final (map (arcs op) ps)) (record { c = c; z = z }) j
    ∙ arcs_pass op p c z (λ g d. q (before d (way_from (ways final (map (arcs op) ps)) g)))

-- whether there is a way
abbrev pub is_way : Option (List Digits) → Bool
is_way None = false
is_way (Some ds) = true

-- whether there is a way is a joint test
pub way_is_joint : IsJoint is_way
way_is_joint = record { none = refl; join = λ ds es. refl }

-- whether a part at a place has a value is a joint test
pub value_is_joint : (k : Part) (i v : ℕ) → IsJoint (may_have k i v)
value_is_joint k i v = record { none = refl; join = λ ds es. joined_at k i v ds es }

way_before : (d : Digits) (o : Option (List Digits)) → is_way (before d o) ≡ is_way o
way_before d None = refl
way_before d (Some ds) = refl

first_before : (k : Part) (v : ℕ) (d : Digits) (o : Option (List Digits)) → may_have k zero v (before d o) ≡ (is_way o && is_in v (part_of k d))
first_before k v d None = refl
first_before k v d (Some ds) = refl

later_before : (k : Part) (i v : ℕ) (d : Digits) (o : Option (List Digits)) → may_have k (suc i) v (before d o) ≡ may_have k i v o
later_before k i v d None = refl
later_before k i v d (Some ds) = refl

-- two tests that agree on all flags pass alike for some
pub pair_alike : (h k : Bool → Bool → Bool) → ((c z : Bool) → h c z ≡ k c z) → any_pair h ≡ any_pair k
pair_alike h k e = grind arith

-- whether a way begins at flags
pub way_begins : (op : Operation) (final : Flags) (p : Set × Set) (ps : List (Set × Set)) (c z : Bool)
    → is_way (way_by op final (p ∷ ps) c z)
    ≡ any_pair (λ carry zero. is_arc op p (record { c = c; z = z }) (record { c = carry; z = zero }) && is_way (way_by op final ps carry zero))
way_begins op final p ps c z =
    way_passes is_way op final p ps c z way_is_joint
    ∙ pair_alike
    (λ carry zero. is_arc op p (record { c = c; z = z }) (record { c = carry; z = zero })
    && is_way (before (digits_from op p.0 p.1 (record { c = c; z = z }) (record { c = carry; z = zero })) (way_by op final ps carry zero)))
    (λ carry zero. is_arc op p (record { c = c; z = z }) (record { c = carry; z = zero }) && is_way (way_by op final ps carry zero))
    (λ carry zero. ap (λ (b : Bool). is_arc op p (record { c = c; z = z }) (record { c = carry; z = zero }) && b)
    (way_before (digits_from op p.0 p.1 (record { c = c; z = z }) (record { c = carry; z = zero })) (way_by op final ps carry zero)))

-- the values of its first byte
pub first_values : (op : Operation) (final : Flags) (p : Set × Set) (ps : List (Set × Set)) (c z : Bool) (k : Part) (v : ℕ)
    → may_have k 0 v (way_by op final (p ∷ ps) c z)
    ≡ any_pair (λ carry zero. is_arc op p (record { c = c; z = z }) (record { c = carry; z = zero })
    && (is_way (way_by op final ps carry zero) && is_in v (part_of k (digits_from op p.0 p.1 (record { c = c; z = z }) (record { c = carry; z = zero })))))
first_values op final p ps c z k v =
    way_passes (may_have k 0 v) op final p ps c z (value_is_joint k 0 v)
    ∙ pair_alike
    (λ carry zero. is_arc op p (record { c = c; z = z }) (record { c = carry; z = zero })
    && may_have k 0 v (before (digits_from op p.0 p.1 (record { c = c; z = z }) (record { c = carry; z = zero })) (way_by op final ps carry zero)))
    (λ carry zero. is_arc op p (record { c = c; z = z }) (record { c = carry; z = zero })
    && (is_way (way_by op final ps carry zero) && is_in v (part_of k (digits_from op p.0 p.1 (record { c = c; z = z }) (record { c = carry; z = zero })))))
    (λ carry zero. ap (λ (b : Bool). is_arc op p (record { c = c; z = z }) (record { c = carry; z = zero }) && b)
    (first_before k v (digits_from op p.0 p.1 (record { c = c; z = z }) (record { c = carry; z = zero })) (way_by op final ps carry zero)))

-- the values of its later bytes
pub later_values : (op : Operation) (final : Flags) (p : Set × Set) (ps : List (Set × Set)) (c z : Bool) (k : Part) (i v : ℕ)
    → may_have k (suc i) v (way_by op final (p ∷ ps) c z)
    ≡ any_pair (λ carry zero. is_arc op p (record { c = c; z = z }) (record { c = carry; z = zero }) && may_have k i v (way_by op final ps carry zero))
later_values op final p ps c z k i v =
    way_passes (may_have k (suc i) v) op final p ps c z (value_is_joint k (suc i) v)
    ∙ pair_alike
    (λ carry zero. is_arc op p (record { c = c; z = z }) (record { c = carry; z = zero })
    && may_have k (suc i) v (before (digits_from op p.0 p.1 (record { c = c; z = z }) (record { c = carry; z = zero })) (way_by op final ps carry zero)))
    (λ carry zero. is_arc op p (record { c = c; z = z }) (record { c = carry; z = zero }) && may_have k i v (way_by op final ps carry zero))
    (λ carry zero. ap (λ (b : Bool). is_arc op p (record { c = c; z = z }) (record { c = carry; z = zero }) && b)
    (later_before k i v (digits_from op p.0 p.1 (record { c = c; z = z }) (record { c = carry; z = zero })) (way_by op final ps carry zero)))
