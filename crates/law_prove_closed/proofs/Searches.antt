-- The primitive that searches a table for a byte.
use Rattle.std.proofs.Common.{◌≡◌, inl, inr, ℕ, suc, ◌+◌, ◌-◌, ◌<◌, ◌≤◌, Bool, true, false, cond, List, [], ◌∷◌, ◌++◌, length, map, Option, Some, None, refl, sym, ap, subst, ◌∙◌, arith}
use Rattle.std.specs.Prelude.{not, ◌==◌, ◌||◌, nat_lt, nat_le, is_some, unwrap_or, position, flat_map}
use Rattle.std.specs.List.{position_or_len}
use Rattle.std.proofs.lemmas.Bool.{or_left, or_right, or_cases, eqb-true, eq-eqb, ltb-true, ltb-false, leb-true, and_parts, and_from, false_from_ne_true}
use Rattle.law_prove.specs.model_device.specs.Bytes.{num}
use Rattle.law_prove.specs.model_machine.specs.declared.instruction.Ins.{Ins}
use Rattle.law_prove.specs.model_machine.specs.declared.instruction.Ins.TheVariants as ins
use Rattle.law_prove.specs.model_machine.specs.declared.machine.Abend.{Abend}
use Rattle.law_prove.specs.model_machine.specs.declared.machine.Abend.TheVariants.{A03, A04, A06, A0A}
use Rattle.law_prove.specs.model_machine.specs.Frame.{Frame, dynamic_base, dynamic_end, is_under, is_outside, bytes_at, stack_bytes}
use Rattle.law_prove.specs.model_machine.specs.Primitives.{Goes, number_below_top, count_at, later_causes}
use Rattle.law_prove.specs.model_machine.specs.Row.{causes, row, first_cause}
use Rattle.law_prove.specs.model_machine.specs.Chain.{frame_at}
use Rattle.law_prove.specs.model_machine.specs.Shapes.{Pushes, Shape, act_effect, shape, prim_shape}
use Rattle.law_prove.specs.law_bytes.specs.OfBytes.{IsByteFrame}
use Rattle.law_prove.specs.law_bytes.proofs.ByteLists.{read_bytes, short_read, small_number, found_low}
use Rattle.law_prove.specs.model_rules.specs.Rules.{Target}
use Rattle.law_prove.specs.model_prove.specs.Sets.{Set, is_in}
use Rattle.law_prove.specs.model_prove.specs.Facts.{Memory, values_at, values_from}
use Rattle.law_prove.specs.model_prove.specs.Compares.{bytes_from}
use Rattle.law_prove.specs.model_prove.specs.Digits.{Flags}
use Rattle.law_prove.specs.model_prove.specs.Keys.{Tables}
use Rattle.law_prove.specs.model_prove.specs.Laws.{Among}
use Rattle.law_prove.specs.model_prove.specs.Splits.{Scene}
use Rattle.law_prove.specs.model_prove.specs.Reach as reach
use Rattle.law_prove.specs.model_prove.specs.Arrivals.{Setting, Arrival, fails, some_value}
use Rattle.law_prove.specs.model_prove.specs.Steps.{Spot, sets, any_bytes, lowered, pushed, flagged, final_flags, settled_spot, follows, is_only, may_pass, found_at, found, each_index, searched, coarse_done}
use Rattle.law_prove.specs.model_rules.specs.Loadable.{IsLoadable}
use Rattle.law_prove.specs.model_prove.specs.Tables.{includes_all}
use Rattle.law_prove.specs.Laws.{LeadsInto}
use Rattle.law_prove.specs.model_prove.proofs.FactLemmas.{value_holds}
use Rattle.law_prove.specs.model_prove.proofs.SetLemmas.{in_first, in_second, is_byte}
use Rattle.law_prove.proofs.Closed.{included_first, included_second}
use Rattle.law_prove.proofs.Seen.{FitSets, fit_sets, fit_values}
use Rattle.law_prove.proofs.Acts.{flags_led}
use Rattle.law_prove.proofs.Turns.{nobody, blank}
use Rattle.law_prove.proofs.Alike.{Sized}
use Rattle.law_prove.proofs.Single.{Turn, IsRowCovered, scene}
use Rattle.law_prove.proofs.Plain.{above}
use Rattle.law_prove.proofs.Blocks.{included_of, among_left, among_right, among_mapped}
use Rattle.law_prove_closed.specs.ReadLaws.{SearchLaw}
use Rattle.law_prove_closed.proofs.Scenes.{drawn, scene_of, scene_memory, drawn_outside}
use Rattle.law_prove_closed.proofs.Reading.{Alike, deeper_inside, read_any, read_alike, number_alike, top_alike, first_same}
use Rattle.law_prove_closed.proofs.Scenes.{stack_is}
use Rattle.law_prove_closed.proofs.Address.{neither}
use Rattle.law_prove_closed.proofs.Chosen.{Chosen, IsCoarse, real, memory, sized, before, after_fetch, knowing_spot, knowing_pushes, outcome_done, chosen_row, coarse_row, rough_is, law_of}

-- ---- what is found

in_left : (v : ℕ) (xs ys : Set) → is_in v xs ≡ true → is_in v (xs ++ ys) ≡ true
in_left v [] ys h = absurd (cc h)
in_left v (x ∷ xs) ys h =
    elim (or_cases (x == v) (is_in v xs) h) [
      | inl e ↦ or_left (x == v) (is_in v (xs ++ ys)) e
      | inr more ↦ or_right (x == v) (is_in v (xs ++ ys)) (in_left v xs ys more)
    ]

in_right : (v : ℕ) (xs ys : Set) → is_in v ys ≡ true → is_in v (xs ++ ys) ≡ true
in_right v [] ys h = h
in_right v (x ∷ xs) ys h = or_right (x == v) (is_in v (xs ++ ys)) (in_right v xs ys h)

among_in : {B : Type 0} (g : ℕ → B) (v : ℕ) (xs : Set) → is_in v xs ≡ true → Among (g v) (map g xs)
among_in g v [] h = absurd (cc h)
among_in g v (x ∷ xs) h =
    elim (or_cases (x == v) (is_in v xs) h) [
      | inl e ↦ inl (ap g (eqb-true x v e))
      | inr more ↦ inr (among_in g v xs more)
    ]

only_one : (v x : ℕ) (s : Set) → nat_le (length s) 1 ≡ true → is_in v s ≡ true → is_in x s ≡ true → x ≡ v
only_one v x [] few h k = absurd (cc h)
only_one v x (y ∷ []) few h k = grind (arith, or_cases, eqb-true)
only_one v x (y ∷ w ∷ s) few h k = let low = leb-true (length (y ∷ w ∷ s)) 1 few in absurd (omega (arith, low))

-- another value of a set is not its only one
not_only : (v x : ℕ) (s : Set) → is_in x s ≡ true → (x == v) ≡ false → is_only v s ≡ false
not_only v x s h other = grind (arith, false_from_ne_true, and_parts, only_one, eq-eqb)

-- the place at which a value is first, or the length
abbrev place_of : ℕ → List ℕ → ℕ
place_of v xs = position_or_len (λ b. b == v) xs

found_step : (b : Bool) (v k x : ℕ) (xs : List ℕ) (s : Set) (ss : List Set) → (x == v) ≡ b → is_in x s ≡ true → cond (not b) (1 + place_of v xs) 0 < suc (length xs)
    → (place_of v xs < length xs → is_in (suc k + place_of v xs) (found_at v (suc k) ss) ≡ true) → is_in (k + cond (not b) (1 + place_of v xs) 0) (found_at v k (s ∷ ss)) ≡ true
found_step b v k x xs s ss e h low rest = grind (arith, eqb-true, in_left, or_left, eq-eqb, in_right, not_only)

-- where a value is first, it may be found
found_there : (v k : ℕ) (xs : List ℕ) (ts : List Set) → FitSets xs ts → place_of v xs < length xs → is_in (k + place_of v xs) (found_at v k ts) ≡ true
found_there v k [] ts fit low = absurd (omega (arith, low))
found_there v k (x ∷ xs) [] fit low = absurd fit
found_there v k (x ∷ xs) (s ∷ ss) fit low = found_step (x == v) v k x xs s ss refl fit.0 low (λ less. found_there v (suc k) xs ss fit.1 less)

pass_step : (b : Bool) (v x : ℕ) (xs : List ℕ) (s : Set) (ss : List Set) → (x == v) ≡ b → is_in x s ≡ true → suc (length xs) ≤ cond (not b) (1 + place_of v xs) 0
    → (length xs ≤ place_of v xs → may_pass v ss ≡ true) → may_pass v (s ∷ ss) ≡ true
pass_step true v x xs s ss e h high rest = absurd (omega (arith, high))
pass_step false v x xs s ss e h high rest = and_from (not (is_only v s)) (may_pass v ss) (ap not (not_only v x s h e)) (rest (omega (arith, high)))

-- a value that is nowhere may be none of them
passes : (v : ℕ) (xs : List ℕ) (ts : List Set) → FitSets xs ts → length xs ≤ place_of v xs → may_pass v ts ≡ true
passes v [] [] fit high = refl
passes v [] (s ∷ ss) fit high = absurd fit
passes v (x ∷ xs) [] fit high = absurd fit
passes v (x ∷ xs) (s ∷ ss) fit high = pass_step (x == v) v x xs s ss refl fit.0 high (λ more. passes v xs ss fit.1 more)

each_there : (v i : ℕ) (vs : Set) (ts : List Set) → is_in v vs ≡ true → is_in i (found_at v 0 ts) ≡ true → is_in i (each_index vs ts) ≡ true
each_there v i [] ts h k = absurd (cc h)
each_there v i (w ∷ vs) ts h k =
    elim (or_cases (w == v) (is_in v vs) h) [
      | inl e ↦ in_first i (found_at w 0 ts) (each_index vs ts) (subst (λ (u : ℕ). is_in i (found_at u 0 ts) ≡ true) (sym (eqb-true w v e)) k)
      | inr more ↦ in_second i (found_at w 0 ts) (each_index vs ts) (each_there v i vs ts more k)
    ]

some_there : (test : ℕ → Bool) (v : ℕ) (vs : Set) → is_in v vs ≡ true → test v ≡ true → some_value test vs ≡ true
some_there test v [] h k = absurd (cc h)
some_there test v (w ∷ vs) h k =
    elim (or_cases (w == v) (is_in v vs) h) [
      | inl e ↦ or_left (test w) (some_value test vs) (ap test (eqb-true w v e) ∙ k)
      | inr more ↦ or_right (test w) (some_value test vs) (some_there test v vs more k)
    ]

searched_by : (b : Bool) (v : ℕ) (vs : Set) (xs : List ℕ) (ts : List Set) (p : Spot) → nat_lt (place_of v xs) (length xs) ≡ b → is_in v vs ≡ true → FitSets xs ts
    → let o : Option ℕ = cond b (Some (place_of v xs)) None in Among (found (is_some o) (unwrap_or o 0) p) (searched vs ts p)
searched_by true v vs xs ts p e h fit =
    let i = place_of v xs in
    let same : 0 + i ≡ i = omega arith in
    let there : is_in i (found_at v 0 ts) ≡ true = subst (λ (j : ℕ). is_in j (found_at v 0 ts) ≡ true) same (found_there v 0 xs ts fit (ltb-true i (length xs) e)) in
    among_left (found true i p) (map (λ i. found true i p) (each_index vs ts)) (cond (some_value (λ v. may_pass v ts) vs) (found false 0 p ∷ []) [])
    (among_in (λ i. found true i p) i (each_index vs ts) (each_there v i vs ts h there))
searched_by false v vs xs ts p e h fit = grind (arith, passes, ltb-false, among_right, some_there)

-- what is found is among what is followed
pub searched_there : (v : ℕ) (vs : Set) (xs : List ℕ) (ts : List Set) (p : Spot) → is_in v vs ≡ true → FitSets xs ts
    → Among (found (is_some (position (λ b. b == v) xs)) (unwrap_or (position (λ b. b == v) xs) 0) p) (searched vs ts p)
searched_there v vs xs ts p h fit = searched_by (nat_lt (place_of v xs) (length xs)) v vs xs ts p refl h fit

-- ---- the row

module _ (args : List ℕ) where
  abbrev lookup : Ins
  lookup = ins.Prim 0 4 args

  -- whether the table is not in a segment
  abbrev misses_at : Frame → List ℕ → ℕ → Bool
  misses_at g public a = is_outside g a 1 || is_outside g (a + 1) (count_at g public a)

  abbrev lookup_causes : Frame → Bool → List (Abend × Bool)
  lookup_causes f b = (A06, false) ∷ (A0A, false) ∷ (A04, is_under f 3) ∷ (A03, b) ∷ []

  module _ (s : Setting) (u t : Tables) (g : Target) (loadable : IsLoadable s.app) (leads : LeadsInto s u t) (turn : Turn s u lookup) where
    abbrev f : Frame
    f = real s u t g loadable leads lookup turn

    abbrev m : Memory
    m = memory s u t g loadable leads lookup turn

    -- DT and the frame without the bytes that are taken
    abbrev d : ℕ
    d = turn.frame.dt - 3

    abbrev low : Frame
    low = record f { dt = d }

    -- the address, the number of bytes of the table, the table, and the value that is searched
    abbrev a : ℕ
    a = number_below_top f 2

    abbrev n : ℕ
    n = count_at low turn.public a

    abbrev table : List ℕ
    table = bytes_at low turn.public (a + 1) n

    abbrev v : ℕ
    v = num (stack_bytes f 3 1)

    abbrev o : Option ℕ
    o = position (λ b. b == v) table

    low_sized : Sized low turn.public
    low_sized = grind (arith, sized)

    low_bytes : IsByteFrame low
    low_bytes = record { static = turn.place.frame.static; pieces = turn.place.frame.pieces; stack = turn.place.dynamic }

    table_is : is_outside low (a + 1) n ≡ false → table ≡ bytes_from m (a + 1) n
    table_is there = read_any low turn.public (a + 1) n low_sized there

    few_bytes : n < 256
    few_bytes = small_number (bytes_at low turn.public a 1) (short_read low turn.public a 1) (read_bytes low turn.public a 1 low_bytes turn.bytes)

    -- an index is a byte
    index_byte : unwrap_or o 0 < 256
    index_byte = grind (arith, short_read, few_bytes, found_low)

    value_is : is_under f 3 ≡ false → v ≡ m d
    value_is over =
        ap num (stack_is f turn.public 3 1 (sized s u t g loadable leads lookup turn) (omega (arith, (above f 3 over))) (omega arith)) ∙ omega arith

    bottom : is_under f 3 ≡ false → (dynamic_base + turn.frame.session ≤ d) × (d ≤ dynamic_end) × (d + 1 ≤ dynamic_end)
    bottom over = grind (arith, above)

    module _ (z : Chosen s u t g loadable leads lookup turn) where
      abbrev l : Frame
      l = drawn f z.fixed z.dyn

      abbrev zs : Scene
      zs = scene_of f z.fixed z.dyn z.public

      address_same : is_under f 3 ≡ false → number_below_top l 2 ≡ a
      address_same over =
          let enough = above f 3 over in
          number_alike f turn.public z.fixed z.dyn z.public (sized s u t g loadable leads lookup turn) z.size z.room z.whole 2 (omega (arith, enough)) (omega arith)
          (top_alike zs m f 2 (omega (arith, enough)) (λ b there h. z.agrees b there h))

      first_same_address : is_under f 3 ≡ false → number_below_top z.first.frame 2 ≡ a
      first_same_address over =
          let enough = above f 3 over in
          let e = z.first_is in
          let alike : Alike (scene_of f e.fixed e.dyn z.first.public) m (f.dt - 2) 2 =
          top_alike (scene_of f e.fixed e.dyn z.first.public) m f 2 (omega (arith, enough)) (λ b there h. ap (λ (w : Scene). scene_memory w b) (sym e.is) ∙ z.first_agrees b there h)
          in
          ap (λ (w : Scene). number_below_top w.frame 2) e.is
          ∙ number_alike f turn.public e.fixed e.dyn z.first.public (sized s u t g loadable leads lookup turn) e.size e.room e.whole 2 (omega (arith, enough)) (omega arith) alike

      -- the length byte was followed
      length_alike : is_under f 3 ≡ false → is_outside low a 1 ≡ false → Alike zs m a 1
      length_alike over there j less =
          let here : a + j ≡ a = omega (arith, less) in
          let lower : d ≤ f.dt = omega arith in
          ap (scene_memory zs) here ∙ (z.later a (deeper_inside f d a lower there) (inl (first_same_address over)) ∙ ap m (sym here))

      count_same : is_under f 3 ≡ false → is_outside low a 1 ≡ false → count_at (record l { dt = d }) z.public a ≡ n
      count_same over there = ap num (read_alike low turn.public z.fixed z.dyn z.public low_sized z.size z.room z.whole a 1 there (length_alike over there))

      -- the row's count is of the frame before the bytes are taken
      whole_count : is_under f 3 ≡ false → is_outside low a 1 ≡ false → count_at l z.public a ≡ n
      whole_count over there =
          let lower : d ≤ f.dt = omega arith in
          let here : is_outside f a 1 ≡ false = deeper_inside f d a lower there in
          ap num (read_alike f turn.public z.fixed z.dyn z.public (sized s u t g loadable leads lookup turn) z.size z.room z.whole a 1 here (length_alike over there)
          ∙ (read_any f turn.public a 1 (sized s u t g loadable leads lookup turn) here ∙ sym (read_any low turn.public a 1 low_sized there)))

      misses_by : (x : Bool) → is_under f 3 ≡ false → is_outside low a 1 ≡ x → misses_at (record l { dt = d }) z.public a ≡ misses_at low turn.public a
      misses_by x over e = grind (arith, drawn_outside, count_same)

      misses_same : is_under f 3 ≡ false → misses_at (record l { dt = d }) z.public (number_below_top l 2) ≡ misses_at low turn.public a
      misses_same over = ap (λ (b : ℕ). misses_at (record l { dt = d }) z.public b) (address_same over) ∙ misses_by (is_outside low a 1) over refl

      few_searched : IsRowCovered s u t g loadable leads lookup turn (row lookup (frame_at turn.frame turn.next) turn.public turn.around)
      unfolding causes shape later_causes prim_shape
      few_searched =
          chosen_row s u t g loadable leads lookup turn z
          (first_same A04 (is_under f 3) ((A03, misses_at (record l { dt = d }) z.public (number_below_top l 2)) ∷ []) ((A03, misses_at low turn.public a) ∷ [])
          (λ over. ap (λ (x : Bool). first_cause ((A03, x) ∷ [])) (misses_same over)))
          (λ none all.
          let over : is_under f 3 ≡ false = none.1.1.0 in
          let there = neither (is_outside low a 1) (is_outside low (a + 1) n) none.1.1.1.0 in
          let bounds = bottom over in
          let p : Spot = before s u t g loadable leads lookup turn in
          let q : Spot = knowing_spot s u t g loadable leads lookup turn z.facts in
          let each : Spot → List Arrival = λ r. follows s lookup false Goes p (settled_spot s r) in
          let vs : Set = values_at z.facts d in
          let ts : List Set = values_from z.facts (a + 1) n in
          let one : includes_all t (flat_map each (searched vs (values_from z.facts (a + 1) (count_at l z.public a)) (lowered d q))) ≡ true =
          subst (λ (b : ℕ). includes_all t (flat_map each (searched vs (values_from z.facts (b + 1) (count_at l z.public b)) (lowered d q))) ≡ true) (address_same over) all
          in
          let two : includes_all t (flat_map each (searched vs ts (lowered d q))) ≡ true =
          subst (λ (k : ℕ). includes_all t (flat_map each (searched vs (values_from z.facts (a + 1) k) (lowered d q))) ≡ true) (whole_count over there.0) one
          in
          let in_it : is_in v vs ≡ true = subst (λ (b : ℕ). is_in b vs ≡ true) (sym (value_is over)) (value_holds z.facts m d z.holds (turn.place.bytes d)) in
          let fit : FitSets table ts = subst (λ (b : List ℕ). FitSets b ts) (sym (table_is there.1)) (fit_values z.facts m (a + 1) n z.holds turn.place.bytes) in
          let spot : Spot = found (is_some o) (unwrap_or o 0) (lowered d q) in
          let b : List ℕ = unwrap_or o 0 ∷ [] in
          let st = turn.place.start in
          let al = turn.place.standing.allowances in
          outcome_done s u t g loadable leads lookup turn d (Pushes b) (Some (f.c, is_some o)) refl
          (record {
            spot = spot;
            led = flags_led s st al (pushed (sets b) (lowered d q)) false (act_effect (Pushes b) (record f { dt = d }) turn.public) (Some (f.c, is_some o))
                (knowing_pushes s u t g loadable leads lookup turn z.facts z.holds d bounds.0 bounds.1 b (sets b) (fit_sets b) bounds.2);
            included = included_of t each (searched vs ts (lowered d q)) spot (searched_there v vs table ts (lowered d q) in_it fit) two;
          }))

    flag_there : (z : Bool) → Among (record { c = false; z = z }) (final_flags false)
    flag_there false = inl refl
    flag_there true = inr (inl refl)

    many_searched : IsCoarse s u t g loadable leads lookup turn → IsRowCovered s u t g loadable leads lookup turn (row lookup (frame_at turn.frame turn.next) turn.public turn.around)
    unfolding causes shape later_causes prim_shape
    many_searched rough =
        let l : Frame = scene s u t g loadable leads lookup turn in
        let p : Spot = before s u t g loadable leads lookup turn in
        let q : Spot = after_fetch s u t g loadable leads lookup turn in
        let h : Shape = shape lookup l blank nobody in
        let cs : List (Abend × Bool) = lookup_causes f (misses_at low turn.public a) in
        let rest : List Arrival = coarse_done (first_cause ((A06, false) ∷ (A0A, false) ∷ (A04, is_under f 3) ∷ [])) s lookup (record l { dt = h.dt }) h reach.Searches p q in
        let includes : includes_all t _ ≡ true = rough_is s u t g loadable leads lookup turn true false h (causes lookup l blank nobody) reach.Searches refl refl refl refl refl rough in
        let misses : includes_all t (fails s p.key p.known A03) ≡ true = included_first t (fails s p.key p.known A03) [] (included_first t (fails s p.key p.known A03 ++ []) rest includes) in
        coarse_row s u t g loadable leads lookup turn false h reach.Searches (record l { dt = h.dt }) cs refl ((λ e. absurd (cc e)), ((λ e. absurd (cc e)), ((λ e. absurd (cc e)), ((λ e. misses), tt))))
        (included_second t (fails s p.key p.known A03 ++ []) rest includes)
        (λ none all.
        let bounds = bottom none.1.1.0 in
        let ss : List Set = any_bytes 1 in
        let each : Spot → List Arrival = λ r. follows s lookup false Goes p (settled_spot s r) in
        let x : Spot = pushed ss (lowered d q) in
        let b : List ℕ = unwrap_or o 0 ∷ [] in
        let fl : Flags = record { c = false; z = is_some o } in
        let st = turn.place.start in
        let al = turn.place.standing.allowances in
        outcome_done s u t g loadable leads lookup turn d (Pushes b) (Some (f.c, is_some o)) refl
        (record {
          spot = flagged false fl x;
          led = flags_led s st al x false (act_effect (Pushes b) (record f { dt = d }) turn.public) (Some (f.c, is_some o))
              (knowing_pushes s u t g loadable leads lookup turn turn.place.known.bytes turn.place.holds d bounds.0 bounds.1 b ss (is_byte (unwrap_or o 0) index_byte, tt) bounds.2);
          included = included_of t each (map (λ g. flagged false g x) (final_flags false)) (flagged false fl x) (among_mapped (λ g. flagged false g x) fl (final_flags false) (flag_there (is_some o))) all;
        }))

-- the search of a table is covered
pub search_laws : SearchLaw
search_laws args =
    law_of (ins.Prim 0 4 args) (λ s u t g loadable leads turn e. e)
    (record { asks = refl; few = few_searched args; many = λ s u t g loadable leads turn few rough. many_searched args s u t g loadable leads turn rough })
