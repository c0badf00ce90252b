-- The digits rule: two numbers and their result lie on the digits that lead to their final flags.
use Rattle.std.specs.Prelude.{◌≡◌, ◌⊎◌, ℕ, ◌+◌, Bool, true, false, cond, not, ◌&&◌, ◌||◌, ◌==◌, List, [], ◌∷◌, ◌++◌, map, filter, flat_map, Option, Some, None, refl}
use Rattle.std.proofs.Common.{arith, ap, sym, subst, ◌∙◌, inl, inr}
use Rattle.std.proofs.lemmas.Bool.{or_left, or_right, or_cases, eqb-true, eq-eqb, and_parts, and_from}
use Rattle.model_prove.specs.Sets.{Set, is_in, is_empty, with_value, union}
use Rattle.model_prove.specs.Digits.{Operation, Flags, digit, flags_after, first_flags, all_flags, same, same_flags, Digits, Arc, some, results_with, results_of, digits_from, arc_if, arcs, Way, join_digit, join_digits, way_from, with_way, arc_before, ways_along, ways, digits_to, run, AreOf, LieOn, DigitsLaw}
use Rattle.model_prove.proofs.SetLemmas.{is_later, new_is_in, old_is_in, in_first, in_second, is_kept}

-- ---- flags

same_self : (b : Bool) → same b b ≡ true
same_self true = refl
same_self false = refl

same_bools : (b c : Bool) → same b c ≡ true → b ≡ c
same_bools true true h = refl
same_bools true false h = absurd (cc h)
same_bools false true h = absurd (cc h)
same_bools false false h = refl

-- flags are the same as themselves
pub flags_self : (f : Flags) → same_flags f f ≡ true
flags_self f = and_from (same f.c f.c) (same f.z f.z) (same_self f.c) (same_self f.z)

flags_with : Bool → Bool → Flags
flags_with c z = record { c = c; z = z }

flags_eq : (c d z y : Bool) → c ≡ d → z ≡ y → flags_with c z ≡ flags_with d y
flags_eq c d z y e h = ap (λ (b : Bool). flags_with b z) e ∙ ap (λ (b : Bool). flags_with d b) h

-- flags that the test finds the same are equal
pub flags_are : (f g : Flags) → same_flags f g ≡ true → f ≡ g
unfolding flags_with
flags_are f g h =
    let p = and_parts (same f.c g.c) (same f.z g.z) h in
    flags_eq f.c g.c f.z g.z (same_bools f.c g.c p.0) (same_bools f.z g.z p.1)

-- ---- one digit

some_passes : (test : ℕ → Bool) (v : ℕ) (s : List ℕ) → is_in v s ≡ true → test v ≡ true → some test s ≡ true
some_passes test v [] h e = absurd (cc h)
some_passes test v (x ∷ s) h e =
    elim (or_cases (x == v) (is_in v s) h) [
      | inl k ↦ or_left (test x) (some test s) (subst (λ (w : ℕ). test w ≡ true) (sym (eqb-true x v k)) e)
      | inr k ↦ or_right (test x) (some test s) (some_passes test v s k e)
    ]

put_result : (b : Bool) (r q : ℕ) (rest : Set) → is_in r rest ≡ true → is_in r (cond b (with_value q rest) rest) ≡ true
put_result true r q rest h = old_is_in r q rest h
put_result false r q rest h = h

new_result : (b : Bool) (r : ℕ) (rest : Set) → b ≡ true → is_in r (cond b (with_value r rest) rest) ≡ true
new_result true r rest h = new_is_in r rest
new_result false r rest h = absurd (cc h)

kept_results : (op : Operation) (x r : ℕ) (t : Set) (f g : Flags) (rs : Set) → is_in r rs ≡ true → is_in r (results_with op x t f g rs) ≡ true
kept_results op x r [] f g rs h = h
kept_results op x r (y ∷ t) f g rs h =
    put_result (same_flags (flags_after op x y f) g) r (digit op x y f.c).0 (results_with op x t f g rs) (kept_results op x r t f g rs h)

result_with : (op : Operation) (x y : ℕ) (t : Set) (f g : Flags) (rs : Set) → is_in y t ≡ true → same_flags (flags_after op x y f) g ≡ true
    → is_in (digit op x y f.c).0 (results_with op x t f g rs) ≡ true
result_with op x y [] f g rs h e = absurd (cc h)
result_with op x y (w ∷ t) f g rs h e =
    elim (or_cases (w == y) (is_in y t) h) [
      | inl k ↦
          subst (λ (u : ℕ). is_in (digit op x y f.c).0 (results_with op x (u ∷ t) f g rs) ≡ true) (sym (eqb-true w y k))
          (new_result (same_flags (flags_after op x y f) g) (digit op x y f.c).0 (results_with op x t f g rs) e)
      | inr k ↦
          put_result (same_flags (flags_after op x w f) g) (digit op x y f.c).0 (digit op x w f.c).0 (results_with op x t f g rs)
          (result_with op x y t f g rs k e)
    ]

result_of : (op : Operation) (x y : ℕ) (s t : Set) (f g : Flags) → is_in x s ≡ true → is_in y t ≡ true → same_flags (flags_after op x y f) g ≡ true
    → is_in (digit op x y f.c).0 (results_of op s t f g) ≡ true
result_of op x y [] t f g h k e = absurd (cc h)
result_of op x y (w ∷ s) t f g h k e =
    elim (or_cases (w == x) (is_in x s) h) [
      | inl i ↦
          subst (λ (u : ℕ). is_in (digit op x y f.c).0 (results_of op (u ∷ s) t f g) ≡ true) (sym (eqb-true w x i))
          (result_with op x y t f g (results_of op s t f g) k e)
      | inr i ↦ kept_results op w (digit op x y f.c).0 t f g (results_of op s t f g) (result_of op x y s t f g i k e)
    ]

-- values and their result lie on a digit
pub record LieOnOne (x y r : ℕ) (d : Digits) : Type 0 where
  pub first : is_in x d.a ≡ true
  pub second : is_in y d.b ≡ true
  pub result : is_in r d.r ≡ true

lie_on_one : (op : Operation) (x y : ℕ) (s t : Set) (f : Flags) → is_in x s ≡ true → is_in y t ≡ true
    → LieOnOne x y (digit op x y f.c).0 (digits_from op s t f (flags_after op x y f))
lie_on_one op x y s t f h k =
    let g = flags_after op x y f in
    let e = flags_self g in
    record {
      first = is_kept (λ u. some (λ v. same_flags (flags_after op u v f) g) t) x s h (some_passes (λ v. same_flags (flags_after op x v f) g) y t k e);
      second = is_kept (λ v. some (λ u. same_flags (flags_after op u v f) g) s) y t k (some_passes (λ u. same_flags (flags_after op u y f) g) x s h e);
      result = result_of op x y s t f g h k e;
    }

-- ---- arcs

-- a list has an arc from flags to flags on which values and their result lie
abbrev pub HasArc : List Arc → Flags → Flags → ℕ → ℕ → ℕ → Type 0
HasArc [] f g x y r = ⊥
HasArc (a ∷ more) f g x y r = ((a.from ≡ f) × ((a.to ≡ g) × LieOnOne x y r a.digits)) ⊎ HasArc more f g x y r

has_first : (more bs : List Arc) (f g : Flags) (x y r : ℕ) → HasArc more f g x y r → HasArc (more ++ bs) f g x y r
has_first [] bs f g x y r h = absurd h
has_first (a ∷ more) bs f g x y r h =
    elim h [
      | inl e ↦ inl e
      | inr e ↦ inr (has_first more bs f g x y r e)
    ]

has_second : (more bs : List Arc) (f g : Flags) (x y r : ℕ) → HasArc bs f g x y r → HasArc (more ++ bs) f g x y r
has_second [] bs f g x y r h = h
has_second (a ∷ more) bs f g x y r h = inr (has_second more bs f g x y r h)

-- flags are among some
abbrev pub FlagsIn : Flags → List Flags → Type 0
FlagsIn f [] = ⊥
FlagsIn f (e ∷ es) = (e ≡ f) ⊎ FlagsIn f es

all_in : (c z : Bool) → FlagsIn (record { c = c; z = z }) all_flags
all_in false false = inl refl
all_in false true = inr (inl refl)
all_in true false = inr (inr (inl refl))
all_in true true = inr (inr (inr (inl refl)))

has_in_flat : (fs : List Flags) (h : Flags → List Arc) (e f g : Flags) (x y r : ℕ) → FlagsIn e fs → HasArc (h e) f g x y r → HasArc (flat_map h fs) f g x y r
has_in_flat [] h e f g x y r i k = absurd i
has_in_flat (d ∷ fs) h e f g x y r i k =
    elim i [
      | inl j ↦ has_first (h d) (flat_map h fs) f g x y r (subst (λ (w : Flags). HasArc (h w) f g x y r) (sym j) k)
      | inr j ↦ has_second (h d) (flat_map h fs) f g x y r (has_in_flat fs h e f g x y r j k)
    ]

not_empty : (x : ℕ) (s : Set) → is_in x s ≡ true → is_empty s ≡ false
not_empty x [] h = absurd (cc h)
not_empty x (y ∷ s) h = refl

arc_there : (b : Bool) (f g : Flags) (d : Digits) (x y r : ℕ) → b ≡ false → LieOnOne x y r d
    → HasArc (cond b [] (record { from = f; to = g; digits = d } ∷ [])) f g x y r
arc_there true f g d x y r e h = absurd (cc e)
arc_there false f g d x y r e h = inl (refl, (refl, h))

has_arc : (op : Operation) (x y : ℕ) (s t : Set) (f : Flags) → is_in x s ≡ true → is_in y t ≡ true
    → HasArc (arcs op (s, t)) f (flags_after op x y f) x y (digit op x y f.c).0
has_arc op x y s t f h k =
    let g = flags_after op x y f in
    let d = digits_from op s t f g in
    let lie = lie_on_one op x y s t f h k in
    has_in_flat all_flags (λ e. flat_map (λ i. arc_if e i (digits_from op s t e i)) all_flags) f f g x y (digit op x y f.c).0 (all_in f.c f.z)
    (has_in_flat all_flags (λ i. arc_if f i (digits_from op s t f i)) g f g x y (digit op x y f.c).0 (all_in g.c g.z)
    (arc_there (is_empty d.a) f g d x y (digit op x y f.c).0 (not_empty x d.a lie.first) lie))

-- ---- ways

lie_left : (ps : List (ℕ × ℕ)) (rs : List ℕ) (ds es : List Digits) → LieOn ps rs ds → LieOn ps rs (join_digits ds es)
lie_left [] [] ds es h = tt
lie_left [] (r ∷ rs) ds es h = absurd h
lie_left (p ∷ ps) [] ds es h = absurd h
lie_left (p ∷ ps) (r ∷ rs) [] es h = absurd h
lie_left (p ∷ ps) (r ∷ rs) (d ∷ ds) [] h = h
lie_left (p ∷ ps) (r ∷ rs) (d ∷ ds) (e ∷ es) h =
    (in_first p.0 d.a e.a h.0, in_first p.1 d.b e.b h.1, in_first r d.r e.r h.2, lie_left ps rs ds es h.3)

lie_right : (ps : List (ℕ × ℕ)) (rs : List ℕ) (ds es : List Digits) → LieOn ps rs es → LieOn ps rs (join_digits ds es)
lie_right [] [] ds es h = tt
lie_right [] (r ∷ rs) ds es h = absurd h
lie_right (p ∷ ps) [] ds es h = absurd h
lie_right (p ∷ ps) (r ∷ rs) ds [] h = absurd h
lie_right (p ∷ ps) (r ∷ rs) [] (e ∷ es) h = h
lie_right (p ∷ ps) (r ∷ rs) (d ∷ ds) (e ∷ es) h =
    (in_second p.0 d.a e.a h.0, in_second p.1 d.b e.b h.1, in_second r d.r e.r h.2, lie_right ps rs ds es h.3)

-- some way begins with flags, and numbers lie on its digits
pub record Reaches (ws : List Way) (f : Flags) (ps : List (ℕ × ℕ)) (rs : List ℕ) : Type 0 where
  pub digits : List Digits
  pub is : way_from ws f ≡ Some digits
  pub lie : LieOn ps rs digits

new_by : (b : Bool) (w v : Way) (vs : List Way) (ps : List (ℕ × ℕ)) (rs : List ℕ) → same_flags v.from w.from ≡ b → LieOn ps rs w.digits
    → Reaches (with_way w vs) w.from ps rs
    → Reaches (cond b (record { from = v.from; digits = join_digits w.digits v.digits } ∷ vs) (v ∷ with_way w vs)) w.from ps rs
new_by true w v vs ps rs e h k =
    record {
      digits = join_digits w.digits v.digits;
      is = ap (λ (c : Bool). cond c (Some (join_digits w.digits v.digits)) (way_from vs w.from)) e;
      lie = lie_left ps rs w.digits v.digits h;
    }
new_by false w v vs ps rs e h k =
    record {
      digits = k.digits;
      is = ap (λ (c : Bool). cond c (Some v.digits) (way_from (with_way w vs) w.from)) e ∙ k.is;
      lie = k.lie;
    }

new_way : (w : Way) (ws : List Way) (ps : List (ℕ × ℕ)) (rs : List ℕ) → LieOn ps rs w.digits → Reaches (with_way w ws) w.from ps rs
new_way w [] ps rs h =
    record { digits = w.digits; is = ap (λ (c : Bool). cond c (Some w.digits) None) (flags_self w.from); lie = h }
new_way w (v ∷ vs) ps rs h = new_by (same_flags v.from w.from) w v vs ps rs refl h (new_way w vs ps rs h)

old_by : (b c : Bool) (w v : Way) (vs : List Way) (f : Flags) (ps : List (ℕ × ℕ)) (rs : List ℕ) (ds : List Digits) → same_flags v.from f ≡ c
    → cond c (Some v.digits) (way_from vs f) ≡ Some ds → LieOn ps rs ds → (Reaches vs f ps rs → Reaches (with_way w vs) f ps rs)
    → Reaches (cond b (record { from = v.from; digits = join_digits w.digits v.digits } ∷ vs) (v ∷ with_way w vs)) f ps rs
old_by true true w v vs f ps rs ds e h l k =
    record {
      digits = join_digits w.digits v.digits;
      is = ap (λ (c : Bool). cond c (Some (join_digits w.digits v.digits)) (way_from vs f)) e;
      lie = lie_right ps rs w.digits v.digits (subst (λ (es : List Digits). LieOn ps rs es) (sym (cc h)) l);
    }
old_by true false w v vs f ps rs ds e h l k =
    record {
      digits = ds;
      is = ap (λ (c : Bool). cond c (Some (join_digits w.digits v.digits)) (way_from vs f)) e ∙ h;
      lie = l;
    }
old_by false true w v vs f ps rs ds e h l k =
    record { digits = ds; is = ap (λ (c : Bool). cond c (Some v.digits) (way_from (with_way w vs) f)) e ∙ h; lie = l }
old_by false false w v vs f ps rs ds e h l k =
    let r = k (record { digits = ds; is = h; lie = l }) in
    record { digits = r.digits; is = ap (λ (c : Bool). cond c (Some v.digits) (way_from (with_way w vs) f)) e ∙ r.is; lie = r.lie }

old_way : (w : Way) (ws : List Way) (f : Flags) (ps : List (ℕ × ℕ)) (rs : List ℕ) → Reaches ws f ps rs → Reaches (with_way w ws) f ps rs
old_way w [] f ps rs r = absurd (cc r.is)
old_way w (v ∷ vs) f ps rs r =
    old_by (same_flags v.from w.from) (same_flags v.from f) w v vs f ps rs r.digits refl r.is r.lie (λ q. old_way w vs f ps rs q)

before_old : (a : Arc) (o : Option (List Digits)) (ws : List Way) (f : Flags) (ps : List (ℕ × ℕ)) (rs : List ℕ) → Reaches ws f ps rs
    → Reaches (arc_before a o ws) f ps rs
before_old a None ws f ps rs r = r
before_old a (Some ds) ws f ps rs r = old_way (record { from = a.from; digits = a.digits ∷ ds }) ws f ps rs r

before_new : (a : Arc) (o : Option (List Digits)) (ds : List Digits) (ws : List Way) (p : ℕ × ℕ) (ps : List (ℕ × ℕ)) (r : ℕ) (rs : List ℕ) → o ≡ Some ds
    → LieOnOne p.0 p.1 r a.digits → LieOn ps rs ds → Reaches (arc_before a o ws) a.from (p ∷ ps) (r ∷ rs)
before_new a None ds ws p ps r rs e h l = absurd (cc e)
before_new a (Some es) ds ws p ps r rs e h l =
    new_way (record { from = a.from; digits = a.digits ∷ es }) ws (p ∷ ps) (r ∷ rs)
    (h.first, h.second, h.result, subst (λ (ts : List Digits). LieOn ps rs ts) (sym (cc e)) l)

along : (more : List Arc) (tails : List Way) (f g : Flags) (p : ℕ × ℕ) (ps : List (ℕ × ℕ)) (r : ℕ) (rs : List ℕ) → HasArc more f g p.0 p.1 r
    → Reaches tails g ps rs → Reaches (ways_along more tails) f (p ∷ ps) (r ∷ rs)
along [] tails f g p ps r rs h k = absurd h
along (a ∷ more) tails f g p ps r rs h k =
    elim h [
      | inl e ↦
          subst (λ (w : Flags). Reaches (ways_along (a ∷ more) tails) w (p ∷ ps) (r ∷ rs)) e.0
          (before_new a (way_from tails a.to) k.digits (ways_along more tails) p ps r rs (ap (λ (w : Flags). way_from tails w) e.1.0 ∙ k.is) e.1.1 k.lie)
      | inr e ↦ before_old a (way_from tails a.to) (ways_along more tails) f (p ∷ ps) (r ∷ rs) (along more tails f g p ps r rs e k)
    ]

reaches : (op : Operation) (ps : List (ℕ × ℕ)) (ss : List (Set × Set)) (f : Flags) → AreOf ps ss
    → Reaches (ways (run op ps f).1 (map (arcs op) ss)) f ps (run op ps f).0
reaches op [] [] f h =
    record { digits = []; is = ap (λ (c : Bool). cond c (Some []) None) (flags_self f); lie = tt }
reaches op [] (s ∷ ss) f h = absurd h
reaches op (p ∷ ps) [] f h = absurd h
reaches op (p ∷ ps) (s ∷ ss) f h =
    let g = flags_after op p.0 p.1 f in
    along (arcs op s) (ways (run op ps g).1 (map (arcs op) ss)) f g p ps (digit op p.0 p.1 f.c).0 (run op ps g).0 (has_arc op p.0 p.1 s.0 s.1 f h.0 h.1)
    (reaches op ps ss g h.2)

-- The digits rule.
pub digits_law : DigitsLaw
digits_law op ps ss h =
    let r = reaches op ps ss first_flags h in
    (r.digits, r.is, r.lie)
