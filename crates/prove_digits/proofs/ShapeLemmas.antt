-- Lists of digits: what each part has at each place, and that lists of ascending digits that have the same are the
-- same.
use Rattle.std.specs.Prelude.{◌≡◌, ℕ, zero, suc, Bool, true, false, cond, ◌||◌, List, [], ◌∷◌, map, ◌++◌, length, flat_map, Option, Some, None, ⊤, refl}
use Rattle.std.proofs.Common.{arith, ap, ◌∙◌}
use Rattle.prove_facts.specs.model_prove.specs.Sets.{Set, is_in, is_empty}
use Rattle.prove_facts.specs.model_prove.specs.Digits.{Operation, Flags, all_flags, Digits, Arc, Way, digits_from, arc_if, arcs, join_digit, join_digits, with_way, arc_before, ways_along, ways, way_from, same_flags}
use Rattle.prove_facts.proofs.SetLemmas.{Rises, rises_union, in_union}
use Rattle.prove_digits.proofs.MemberLemmas.{AreRising, rising_from, same_digits}

-- a part of digits
pub data Part : Type 0 where
  First : Part
  Second : Part
  Result : Part

-- the set of a part of digits
abbrev pub part_of : Part → Digits → Set
part_of First d = d.a
part_of Second d = d.b
part_of Result d = d.r

-- whether a part at a place has a value
abbrev pub has_at : Part → ℕ → ℕ → List Digits → Bool
has_at k i v [] = false
has_at k zero v (d ∷ ds) = is_in v (part_of k d)
has_at k (suc i) v (d ∷ ds) = has_at k i v ds

-- whether a part at a place has a value, if there are digits
abbrev pub may_have : Part → ℕ → ℕ → Option (List Digits) → Bool
may_have k i v None = false
may_have k i v (Some ds) = has_at k i v ds

-- n digits, all ascending
abbrev pub AreShaped : ℕ → List Digits → Type 0
AreShaped zero [] = ⊤
AreShaped zero (d ∷ ds) = ⊥
AreShaped (suc n) [] = ⊥
AreShaped (suc n) (d ∷ ds) = AreRising d × AreShaped n ds

-- lists of ascending digits with the same values at each place are equal
pub same_lists : (n : ℕ) (ds es : List Digits) → AreShaped n ds → AreShaped n es → ((k : Part) (i v : ℕ) → has_at k i v ds ≡ has_at k i v es) → ds ≡ es
same_lists zero [] [] p q h = refl
same_lists zero [] (e ∷ es) p q h = absurd q
same_lists zero (d ∷ ds) es p q h = absurd p
same_lists (suc n) [] es p q h = absurd p
same_lists (suc n) (d ∷ ds) [] p q h = absurd q
same_lists (suc n) (d ∷ ds) (e ∷ es) p q h =
    ap (λ (c : Digits). c ∷ ds) (same_digits d e p.0 q.0 (λ v. h First zero v) (λ v. h Second zero v) (λ v. h Result zero v))
    ∙ ap (λ (cs : List Digits). e ∷ cs) (same_lists n ds es p.1 q.1 (λ k i v. h k (suc i) v))

-- ---- joined digits

-- a value is in a part of joined digits if it is in that of either
pub joined_part : (k : Part) (v : ℕ) (d e : Digits) → is_in v (part_of k (join_digit d e)) ≡ (is_in v (part_of k d) || is_in v (part_of k e))
joined_part k v d e = grind (arith, in_union)

or_false : (b : Bool) → b ≡ (b || false)
or_false true = refl
or_false false = refl

-- so it is at each place of joined lists of digits
pub joined_at : (k : Part) (i v : ℕ) (ds es : List Digits) → has_at k i v (join_digits ds es) ≡ (has_at k i v ds || has_at k i v es)
joined_at k i v [] es = refl
joined_at k zero v (d ∷ ds) [] = or_false (is_in v (part_of k d))
joined_at k (suc i) v (d ∷ ds) [] = or_false (has_at k i v ds)
joined_at k zero v (d ∷ ds) (e ∷ es) = joined_part k v d e
joined_at k (suc i) v (d ∷ ds) (e ∷ es) = joined_at k i v ds es

-- joined digits that ascend ascend
pub joined_rising : (d e : Digits) → AreRising d → AreRising e → AreRising (join_digit d e)
joined_rising d e p q = record { a = rises_union 0 d.a e.a p.a q.a; b = rises_union 0 d.b e.b p.b q.b; r = rises_union 0 d.r e.r p.r q.r }

joined_shaped : (n : ℕ) (ds es : List Digits) → AreShaped n ds → AreShaped n es → AreShaped n (join_digits ds es)
joined_shaped zero [] es p q = q
joined_shaped zero (d ∷ ds) es p q = absurd p
joined_shaped (suc n) [] es p q = absurd p
joined_shaped (suc n) (d ∷ ds) [] p q = absurd q
joined_shaped (suc n) (d ∷ ds) (e ∷ es) p q = (joined_rising d e p.0 q.0, joined_shaped n ds es p.1 q.1)

-- ---- the ways of the definition

-- all ways have n digits
abbrev pub WaysAreShaped : ℕ → List Way → Type 0
WaysAreShaped n [] = ⊤
WaysAreShaped n (w ∷ ws) = AreShaped n w.digits × WaysAreShaped n ws

-- the digits of all arcs ascend
abbrev pub ArcsAreRising : List Arc → Type 0
ArcsAreRising [] = ⊤
ArcsAreRising (a ∷ more) = AreRising a.digits × ArcsAreRising more

arcs_append : (cs bs : List Arc) → ArcsAreRising cs → ArcsAreRising bs → ArcsAreRising (cs ++ bs)
arcs_append [] bs p q = q
arcs_append (a ∷ cs) bs p q = (p.0, arcs_append cs bs p.1 q)

arcs_flat : (fs : List Flags) (h : Flags → List Arc) → ((f : Flags) → ArcsAreRising (h f)) → ArcsAreRising (flat_map h fs)
arcs_flat [] h p = tt
arcs_flat (f ∷ fs) h p = arcs_append (h f) (flat_map h fs) (p f) (arcs_flat fs h p)

arc_rising : (b : Bool) (f g : Flags) (d : Digits) → AreRising d → ArcsAreRising (cond b [] (record { from = f; to = g; digits = d } ∷ []))
arc_rising true f g d p = tt
arc_rising false f g d p = (p, tt)

-- the digits of all arcs of ascending sets ascend
pub arcs_rising : (op : Operation) (p : Set × Set) → Rises 0 p.0 → Rises 0 p.1 → ArcsAreRising (arcs op p)
arcs_rising op p h k =
    arcs_flat all_flags (λ f. flat_map (λ g. arc_if f g (digits_from op p.0 p.1 f g)) all_flags)
    (λ f. arcs_flat all_flags (λ g. arc_if f g (digits_from op p.0 p.1 f g))
    (λ g. arc_rising (is_empty (digits_from op p.0 p.1 f g).a) f g (digits_from op p.0 p.1 f g) (rising_from op p.0 p.1 f g h k)))

with_by : (b : Bool) (n : ℕ) (w v : Way) (vs rest : List Way) → AreShaped n w.digits → AreShaped n v.digits → WaysAreShaped n vs → WaysAreShaped n rest
    → WaysAreShaped n (cond b (record { from = v.from; digits = join_digits w.digits v.digits } ∷ vs) (v ∷ rest))
with_by true n w v vs rest p q r s = (joined_shaped n w.digits v.digits p q, r)
with_by false n w v vs rest p q r s = (q, s)

with_shaped : (n : ℕ) (w : Way) (ws : List Way) → AreShaped n w.digits → WaysAreShaped n ws → WaysAreShaped n (with_way w ws)
with_shaped n w [] p q = (p, tt)
with_shaped n w (v ∷ vs) p q = with_by (same_flags v.from w.from) n w v vs (with_way w vs) p q.0 q.1 (with_shaped n w vs p q.1)

-- digits that are there, if any, are n
abbrev pub MayBeShaped : ℕ → Option (List Digits) → Type 0
MayBeShaped n None = ⊤
MayBeShaped n (Some ds) = AreShaped n ds

from_by : (b : Bool) (n : ℕ) (ds : List Digits) (o : Option (List Digits)) → AreShaped n ds → MayBeShaped n o → MayBeShaped n (cond b (Some ds) o)
from_by true n ds o p q = p
from_by false n ds o p q = q

-- the way from some flags has as many digits as all ways
pub from_shaped : (n : ℕ) (ws : List Way) (f : Flags) → WaysAreShaped n ws → MayBeShaped n (way_from ws f)
from_shaped n [] f p = tt
from_shaped n (w ∷ ws) f p = from_by (same_flags w.from f) n w.digits (way_from ws f) p.0 (from_shaped n ws f p.1)

before_shaped : (n : ℕ) (a : Arc) (o : Option (List Digits)) (ws : List Way) → AreRising a.digits → MayBeShaped n o → WaysAreShaped (suc n) ws
    → WaysAreShaped (suc n) (arc_before a o ws)
before_shaped n a None ws p q r = r
before_shaped n a (Some ds) ws p q r = with_shaped (suc n) (record { from = a.from; digits = a.digits ∷ ds }) ws (p, q) r

along_shaped : (n : ℕ) (more : List Arc) (tails : List Way) → ArcsAreRising more → WaysAreShaped n tails → WaysAreShaped (suc n) (ways_along more tails)
along_shaped n [] tails p q = tt
along_shaped n (a ∷ more) tails p q =
    before_shaped n a (way_from tails a.to) (ways_along more tails) p.0 (from_shaped n tails a.to q) (along_shaped n more tails p.1 q)

-- the sets of pairs ascend
abbrev pub PairsRise : List (Set × Set) → Type 0
PairsRise [] = ⊤
PairsRise (p ∷ ps) = (Rises 0 p.0) × (Rises 0 p.1) × PairsRise ps

-- the ways through pairs of ascending sets have one digit for each pair
pub ways_shaped : (op : Operation) (final : Flags) (ps : List (Set × Set)) → PairsRise ps → WaysAreShaped (length ps) (ways final (map (arcs op) ps))
ways_shaped op final [] h = (tt, tt)
ways_shaped op final (p ∷ ps) h =
    along_shaped (length ps) (arcs op p) (ways final (map (arcs op) ps)) (arcs_rising op p h.0 h.1) (ways_shaped op final ps h.2)
