-- LOADI, which pushes the bytes at an address from the memory, and INDEX, which pushes an address of a table.
use Rattle.std.proofs.Common.{◌≡◌, ℕ, ◌+◌, ◌-◌, ◌*◌, ◌≤◌, Bool, true, false, cond, List, [], ◌∷◌, ◌++◌, length, ℤ, Option, Some, None, refl, sym, ap, subst, ◌∙◌, arith}
use Rattle.std.specs.Prelude.{◌==◌, ◌&&◌, ◌||◌, is_none, option_and_then}
use Rattle.law_prove.specs.model_device.specs.Bytes.{AreBytes, bytes2, num}
use Rattle.law_prove.specs.model_device.proofs.ListLemmas.{pair_bytes}
use Rattle.law_prove.specs.model_machine.specs.declared.instruction.Ins.{Ins}
use Rattle.law_prove.specs.model_machine.specs.declared.instruction.Ins.TheVariants as ins
use Rattle.law_prove.specs.model_machine.specs.declared.machine.Abend.{Abend}
use Rattle.law_prove.specs.model_machine.specs.declared.machine.Abend.TheVariants.{A03, A04, A05, A06}
use Rattle.law_prove.specs.model_machine.specs.Frame.{Frame, Place, dynamic_base, dynamic_end, is_under, is_over, is_outside, no_access, bytes_at, address_at, stack_bytes, top, resolve, in_two_bytes, frame_after_pop}
use Rattle.law_prove.specs.model_machine.specs.Primitives.{Goes}
use Rattle.law_prove.specs.model_machine.specs.Row.{causes, row, first_cause, operand, address_or_zero, on_stack, indexed_address}
use Rattle.law_prove.specs.model_machine.specs.Chain.{frame_at}
use Rattle.law_prove.specs.model_machine.specs.Shapes.{Pushes, Shape, shape}
use Rattle.law_prove.specs.model_rules.specs.Rules.{Target}
use Rattle.law_prove.specs.model_prove.specs.Sets.{Set, numbers_from}
use Rattle.law_prove.specs.model_prove.specs.Facts.{Memory, values_from}
use Rattle.law_prove.specs.model_prove.specs.Compares.{bytes_from}
use Rattle.law_prove.specs.model_prove.specs.Keys.{Tables}
use Rattle.law_prove.specs.model_prove.specs.Laws.{Among}
use Rattle.law_prove.specs.model_prove.specs.Splits.{Scene, places_from, top_places}
use Rattle.law_prove.specs.model_prove.specs.Reach.{PushesAny}
use Rattle.law_prove.specs.model_prove.specs.Work.{AsShaped, Copies}
use Rattle.law_prove.specs.model_prove.specs.Arrivals.{Setting, Arrival, fails}
use Rattle.law_prove.specs.model_prove.specs.Steps.{Spot, sets, any_bytes, lowered, pushed, settled_spot, follows, row_arrivals, coarse_done}
use Rattle.law_prove.specs.model_rules.specs.Loadable.{IsLoadable}
use Rattle.law_prove.specs.model_prove.specs.Tables.{includes_all}
use Rattle.law_prove.specs.Laws.{LeadsInto, LeadLaw}
use Rattle.law_prove.proofs.Closed.{included_first, included_second}
use Rattle.law_prove.proofs.Seen.{FitSets, fit_sets, fit_values, fit_any}
use Rattle.law_prove.proofs.Turns.{nobody, blank}
use Rattle.law_prove.proofs.Alike.{from_length, read_is}
use Rattle.law_prove.proofs.Single.{going, Turn, IsRowCovered, one_shaped, one_copied, scene}
use Rattle.law_prove.proofs.Plain.{above, over_is}
use Rattle.law_prove.proofs.Arith.{memory_bytes_from}
use Rattle.law_prove_closed.specs.ReadLaws.{AddressLaw}
use Rattle.law_prove_closed.proofs.Scenes.{drawn, scene_of, among_numbers}
use Rattle.law_prove_closed.proofs.Reading.{Alike, lies_there, part_inside, drawn_resolve, drawn_operand, scene_sized, read_alike, stack_alike, top_alike, part_alike, first_same}
use Rattle.law_prove_closed.proofs.Scenes.{drawn_outside, drawn_where}
use Rattle.law_prove_closed.proofs.Chosen.{Chosen, IsCoarse, stand, stand_is, real, memory, sized, before, after_fetch, knowing_spot, knowing_pushes, outcome_done, chosen_row, coarse_row, rough_is, law_of}

-- if a disjunction fails, both of its parts do
pub neither : (x y : Bool) → (x || y) ≡ false → (x ≡ false) × (y ≡ false)
neither true y e = absurd (cc e)
neither false y e = (refl, e)

-- ---- LOADI

module _ (tag : ℕ) (off : ℤ) (n : ℕ) where
  abbrev loadi : Ins
  loadi = ins.Loadi tag off n

  -- whether an access fails: of the two bytes at a place, or of n bytes at the address that they are
  abbrev fails_at : Frame → List ℕ → Option ℕ → Bool
  fails_at f public o = no_access f o 2 || is_outside f (address_at f public (address_or_zero o)) n

  abbrev loadi_causes : Frame → Bool → List (Abend × Bool)
  loadi_causes f b = (A06, n == 0) ∷ (A04, tag == 0 && is_under f 2) ∷ (A03, b) ∷ (A05, is_over f n) ∷ []

  module _ (s : Setting) (u t : Tables) (g : Target) (loadable : IsLoadable s.app) (leads : LeadsInto s u t) (turn : Turn s u loadi) where
    abbrev f : Frame
    f = real s u t g loadable leads loadi turn

    abbrev m : Memory
    m = memory s u t g loadable leads loadi turn

    -- the place of the address, and the address
    abbrev o : Option ℕ
    o = operand f tag off 2

    abbrev to : ℕ
    to = address_at f turn.public (address_or_zero o)

    abbrev b : List ℕ
    b = bytes_at f turn.public to n

    bytes_are : (n == 0) ≡ false → is_outside f to n ≡ false → b ≡ bytes_from m to n
    bytes_are some there = read_is f turn.public to n (sized s u t g loadable leads loadi turn) some (lies_there f to n some there)

    long : (n == 0) ≡ false → is_outside f to n ≡ false → length b ≡ n
    long some there = ap (λ (l : List ℕ). length l) (bytes_are some there) ∙ from_length m to n

    are_bytes : (n == 0) ≡ false → is_outside f to n ≡ false → AreBytes b
    are_bytes some there = subst AreBytes (sym (bytes_are some there)) (memory_bytes_from m to n turn.place.bytes)

    module _ (z : Chosen s u t g loadable leads loadi turn) where
      abbrev l : Frame
      l = drawn f z.fixed z.dyn

      abbrev zs : Scene
      zs = scene_of f z.fixed z.dyn z.public

      same_place : operand l tag off 2 ≡ o
      same_place = drawn_operand f z.fixed z.dyn tag off 2 z.size

      stand_place : operand (stand s u t g loadable leads loadi turn).frame tag off 2 ≡ o
      stand_place = grind (arith, stand_is s u t g loadable leads loadi turn)

      -- the address of the scene
      address_same : (a : ℕ) → o ≡ Some a → is_outside f a 2 ≡ false → address_at l z.public a ≡ address_at f turn.public a
      address_same a is there =
          ap num (read_alike f turn.public z.fixed z.dyn z.public (sized s u t g loadable leads loadi turn) z.size z.room z.whole a 2 there
          (λ j less. z.agrees (a + j) (part_inside f a 2 j there less) (subst (λ (w : Option ℕ). Among (a + j) (places_from w 2)) (sym (stand_place ∙ is)) (among_numbers a 2 j less))))

      fails_by_outside : (x : Bool) (a : ℕ) → o ≡ Some a → is_outside f a 2 ≡ x → fails_at l z.public (Some a) ≡ fails_at f turn.public (Some a)
      fails_by_outside x a is e = grind (arith, drawn_outside, address_same)

      fails_by_place : (w : Option ℕ) → o ≡ w → fails_at l z.public w ≡ fails_at f turn.public w
      fails_by_place None is = refl
      fails_by_place (Some a) is = fails_by_outside (is_outside f a 2) a is refl

      fails_same : fails_at l z.public (operand l tag off 2) ≡ fails_at f turn.public o
      fails_same = ap (λ (w : Option ℕ). fails_at l z.public w) same_place ∙ fails_by_place o refl

      to_by : (w : Option ℕ) → o ≡ w → no_access f w 2 ≡ false → address_at l z.public (address_or_zero w) ≡ address_at f turn.public (address_or_zero w)
      to_by None is there = absurd (cc there)
      to_by (Some a) is there = address_same a is there

      to_same : no_access f o 2 ≡ false → address_at l z.public (address_or_zero (operand l tag off 2)) ≡ to
      to_same there = ap (λ (w : Option ℕ). address_at l z.public (address_or_zero w)) same_place ∙ to_by o refl there

      few_loads : IsRowCovered s u t g loadable leads loadi turn (row loadi (frame_at turn.frame turn.next) turn.public turn.around)
      unfolding causes shape
      few_loads =
          chosen_row s u t g loadable leads loadi turn z (ap (λ (x : Bool). first_cause (loadi_causes f x)) fails_same)
          (λ none all.
          let there = neither (no_access f o 2) (is_outside f to n) none.1.1.0 in
          let some : (n == 0) ≡ false = none.0 in
          let p : Spot = before s u t g loadable leads loadi turn in
          let q : Spot = knowing_spot s u t g loadable leads loadi turn z.facts in
          let b0 : List ℕ = bytes_at l z.public to n in
          let one : includes_all t (row_arrivals false s loadi (going f.dt (Pushes b0) None) (Copies to) p q) ≡ true =
          subst (λ (a : ℕ). includes_all t (row_arrivals false s loadi (going f.dt (Pushes (bytes_at l z.public a n)) None) (Copies a) p q) ≡ true) (to_same there.0) all
          in
          let whole = scene_sized f turn.public z.fixed z.dyn z.public (sized s u t g loadable leads loadi turn) z.size z.room z.whole in
          let inside : is_none _ ≡ false = ap (λ (x : Option Place). is_none x) (drawn_where f z.fixed z.dyn to n z.size) ∙ lies_there f to n some there.1 in
          let count : length b0 ≡ n = ap (λ (l : List ℕ). length l) (read_is l z.public to n whole some inside) ∙ from_length _ to n in
          let ss : List Set = values_from z.facts to n in
          let two : includes_all t (follows s loadi false Goes p (settled_spot s (pushed (values_from z.facts to (length b0)) (lowered f.dt q)))) ≡ true = one_copied s t loadi f.dt (Pushes b0) None to p q one in
          outcome_done s u t g loadable leads loadi turn f.dt (Pushes b) None refl
          (record {
            spot = pushed ss (lowered f.dt q);
            led = knowing_pushes s u t g loadable leads loadi turn z.facts z.holds f.dt turn.place.frame.low turn.place.frame.high b ss
                (subst (λ (l : List ℕ). FitSets l ss) (sym (bytes_are some there.1)) (fit_values z.facts m to n z.holds turn.place.bytes)) (over_is f.dt n (length b) none.1.1.1.0 (long some there.1));
            included = subst (λ (k : ℕ). includes_all t (follows s loadi false Goes p (settled_spot s (pushed (values_from z.facts to k) (lowered f.dt q)))) ≡ true) count two;
          }))

    many_loads : IsCoarse s u t g loadable leads loadi turn → IsRowCovered s u t g loadable leads loadi turn (row loadi (frame_at turn.frame turn.next) turn.public turn.around)
    unfolding causes shape
    many_loads rough =
        let l : Frame = scene s u t g loadable leads loadi turn in
        let p : Spot = before s u t g loadable leads loadi turn in
        let q : Spot = after_fetch s u t g loadable leads loadi turn in
        let h : Shape = shape loadi l blank nobody in
        let cs : List (Abend × Bool) = loadi_causes f (fails_at f turn.public o) in
        let rest : List Arrival = coarse_done (first_cause ((A06, n == 0) ∷ (A04, tag == 0 && is_under f 2) ∷ (A05, is_over f n) ∷ [])) s loadi (record l { dt = h.dt }) h (PushesAny n) p q in
        let includes : includes_all t _ ≡ true = rough_is s u t g loadable leads loadi turn true false h (causes loadi l blank nobody) (PushesAny n) refl refl refl refl refl rough in
        let misses : includes_all t (fails s p.key p.known A03) ≡ true = included_first t (fails s p.key p.known A03) [] (included_first t (fails s p.key p.known A03 ++ []) rest includes) in
        coarse_row s u t g loadable leads loadi turn false h (PushesAny n) (record l { dt = h.dt }) cs refl ((λ e. absurd (cc e)), ((λ e. absurd (cc e)), ((λ e. misses), ((λ e. absurd (cc e)), tt)))) (included_second t (fails s p.key p.known A03 ++ []) rest includes)
        (λ none all.
        let there = neither (no_access f o 2) (is_outside f to n) none.1.1.0 in
        let some : (n == 0) ≡ false = none.0 in
        let count : length b ≡ n = long some there.1 in
        let ss : List Set = any_bytes n in
        outcome_done s u t g loadable leads loadi turn f.dt (Pushes b) None refl
        (record {
          spot = pushed ss (lowered f.dt q);
          led = knowing_pushes s u t g loadable leads loadi turn turn.place.known.bytes turn.place.holds f.dt turn.place.frame.low turn.place.frame.high b ss
              (subst (λ (k : ℕ). FitSets b (any_bytes k)) count (fit_any b (are_bytes some there.1))) (over_is f.dt n (length b) none.1.1.1.0 count);
          included = included_first t (follows s loadi false Goes p (settled_spot s (pushed ss (lowered f.dt q)))) [] all;
        }))

loadi_law : (tag : ℕ) (off : ℤ) (n : ℕ) → LeadLaw (ins.Loadi tag off n)
loadi_law tag off n =
    law_of (ins.Loadi tag off n) (λ s u t g loadable leads turn e. e)
    (record { asks = refl; few = few_loads tag off n; many = λ s u t g loadable leads turn few rough. many_loads tag off n s u t g loadable leads turn rough })

-- ---- INDEX

module _ (tag : ℕ) (off : ℤ) (size : ℕ) where
  abbrev index : Ins
  index = ins.Index tag off size

  -- the bytes of the stack that it takes
  abbrev taken : ℕ
  taken = on_stack tag 3 1

  -- the address by its base and its index
  abbrev address : Frame → List ℕ → Option ℕ → Option ℕ
  address f v base = option_and_then (λ a. in_two_bytes (a + num v * size)) base

  abbrev base_by : Bool → Frame → Option ℕ
  base_by x f = cond x (Some (num (stack_bytes f 3 2))) (resolve f tag off)

  abbrev index_causes : Frame → Option ℕ → List (Abend × Bool)
  index_causes f a = (A04, is_under f taken) ∷ (A03, is_none a) ∷ (A05, is_over (frame_after_pop f taken) 2) ∷ []

  one_taken : (x : Bool) → 1 ≤ cond x 3 1
  one_taken true = omega arith
  one_taken false = omega arith

  taken_places : (x : Bool) (f : Frame) → numbers_from (f.dt - cond x 3 1) (cond x 3 1) ≡ cond x (top_places f 3) (top_places f 1)
  taken_places true f = refl
  taken_places false f = refl

  module _ (s : Setting) (u t : Tables) (g : Target) (loadable : IsLoadable s.app) (leads : LeadsInto s u t) (turn : Turn s u index) where
    abbrev j : Frame
    j = real s u t g loadable leads index turn

    abbrev v : List ℕ
    v = bytes2 (address_or_zero (indexed_address j tag off size))

    -- DT without the bytes that are taken
    bottom : is_under j taken ≡ false → (dynamic_base + turn.frame.session ≤ turn.frame.dt - taken) × (turn.frame.dt - taken ≤ dynamic_end)
    bottom over = grind (arith, above)

    module _ (z : Chosen s u t g loadable leads index turn) where
      abbrev k : Frame
      k = drawn j z.fixed z.dyn

      abbrev ks : Scene
      ks = scene_of j z.fixed z.dyn z.public

      taken_alike : is_under j taken ≡ false → Alike ks (memory s u t g loadable leads index turn) (turn.frame.dt - taken) taken
      taken_alike over =
          let enough = above j taken over in
          top_alike ks (memory s u t g loadable leads index turn) j taken (omega (arith, enough))
          (λ a there h. z.agrees a there (subst (λ (ps : List ℕ). Among a ps) (taken_places (tag == 0) (stand s u t g loadable leads index turn).frame) h))

      top_same : is_under j taken ≡ false → top k 1 ≡ top j 1
      top_same over =
          let enough = above j taken over in
          let one = one_taken (tag == 0) in
          stack_alike j turn.public z.fixed z.dyn z.public (sized s u t g loadable leads index turn) z.size z.room z.whole 1 1 (omega (arith, enough, one)) (omega arith)
          (part_alike ks (memory s u t g loadable leads index turn) turn.frame.dt taken 1 1 (omega (arith, enough)) (omega arith) one (taken_alike over))

      base_same : (x : Bool) → is_under j (cond x 3 1) ≡ false → Alike ks (memory s u t g loadable leads index turn) (turn.frame.dt - cond x 3 1) (cond x 3 1) → base_by x k ≡ base_by x j
      base_same true over alike =
          let enough = above j 3 over in
          ap (λ (u : List ℕ). Some (num u)) (stack_alike j turn.public z.fixed z.dyn z.public (sized s u t g loadable leads index turn) z.size z.room z.whole 3 2 (omega (arith, enough)) (omega arith)
          (part_alike ks (memory s u t g loadable leads index turn) turn.frame.dt 3 3 2 (omega (arith, enough)) (omega arith) (omega arith) alike))
      base_same false over alike = drawn_resolve j z.fixed z.dyn tag off z.size

      address_alike : is_under j taken ≡ false → indexed_address k tag off size ≡ indexed_address j tag off size
      address_alike over =
          ap (λ (u : List ℕ). address k u (base_by (tag == 0) k)) (top_same over) ∙ ap (λ (a : Option ℕ). address j (top j 1) a) (base_same (tag == 0) over (taken_alike over))

      few_indexed : IsRowCovered s u t g loadable leads index turn (row index (frame_at turn.frame turn.next) turn.public turn.around)
      unfolding causes shape
      few_indexed =
          chosen_row s u t g loadable leads index turn z
          (first_same A04 (is_under j taken) ((A03, is_none (indexed_address k tag off size)) ∷ (A05, is_over (frame_after_pop j taken) 2) ∷ []) ((A03, is_none (indexed_address j tag off size)) ∷ (A05, is_over (frame_after_pop j taken) 2) ∷ [])
          (λ over. ap (λ (a : Option ℕ). first_cause ((A03, is_none a) ∷ (A05, is_over (frame_after_pop j taken) 2) ∷ [])) (address_alike over)))
          (λ none all.
          let over : is_under j taken ≡ false = none.0 in
          let d = turn.frame.dt - taken in
          let low = bottom over in
          let p : Spot = before s u t g loadable leads index turn in
          let q : Spot = knowing_spot s u t g loadable leads index turn z.facts in
          let one : includes_all t (row_arrivals false s index (going d (Pushes v) None) AsShaped p q) ≡ true =
          subst (λ (a : Option ℕ). includes_all t (row_arrivals false s index (going d (Pushes (bytes2 (address_or_zero a))) None) AsShaped p q) ≡ true) (address_alike over) all
          in
          outcome_done s u t g loadable leads index turn d (Pushes v) None refl
          (record {
            spot = pushed (sets v) (lowered d q);
            led = knowing_pushes s u t g loadable leads index turn z.facts z.holds d low.0 low.1 v (sets v) (fit_sets v) (over_is d 2 (length v) none.1.1.0 refl);
            included = one_shaped s t index d (Pushes v) None p q one;
          }))

    many_indexed : IsCoarse s u t g loadable leads index turn → IsRowCovered s u t g loadable leads index turn (row index (frame_at turn.frame turn.next) turn.public turn.around)
    unfolding causes shape
    many_indexed rough =
        let l : Frame = scene s u t g loadable leads index turn in
        let p : Spot = before s u t g loadable leads index turn in
        let q : Spot = after_fetch s u t g loadable leads index turn in
        let h : Shape = shape index l blank nobody in
        let d = turn.frame.dt - taken in
        let cs : List (Abend × Bool) = index_causes j (indexed_address j tag off size) in
        let rest : List Arrival = coarse_done (first_cause ((A04, is_under j taken) ∷ (A05, is_over (frame_after_pop j taken) 2) ∷ [])) s index (record l { dt = h.dt }) h (PushesAny 2) p q in
        let includes : includes_all t _ ≡ true = rough_is s u t g loadable leads index turn true false h (causes index l blank nobody) (PushesAny 2) refl refl refl refl refl rough in
        let misses : includes_all t (fails s p.key p.known A03) ≡ true = included_first t (fails s p.key p.known A03) [] (included_first t (fails s p.key p.known A03 ++ []) rest includes) in
        coarse_row s u t g loadable leads index turn false h (PushesAny 2) (record l { dt = h.dt }) cs refl ((λ e. absurd (cc e)), ((λ e. misses), ((λ e. absurd (cc e)), tt))) (included_second t (fails s p.key p.known A03 ++ []) rest includes)
        (λ none all.
        let low = bottom none.0 in
        let ss : List Set = any_bytes 2 in
        outcome_done s u t g loadable leads index turn d (Pushes v) None refl
        (record {
          spot = pushed ss (lowered d q);
          led = knowing_pushes s u t g loadable leads index turn turn.place.known.bytes turn.place.holds d low.0 low.1 v ss (fit_any v (pair_bytes (address_or_zero (indexed_address j tag off size)))) (over_is d 2 (length v) none.1.1.0 refl);
          included = included_first t (follows s index false Goes p (settled_spot s (pushed ss (lowered d q)))) [] all;
        }))

index_law : (tag : ℕ) (off : ℤ) (size : ℕ) → LeadLaw (ins.Index tag off size)
index_law tag off size =
    law_of (ins.Index tag off size) (λ s u t g loadable leads turn e. e)
    (record { asks = refl; few = few_indexed tag off size; many = λ s u t g loadable leads turn few rough. many_indexed tag off size s u t g loadable leads turn rough })

-- LOADI and INDEX are covered
pub address_laws : AddressLaw
address_laws = (loadi_law, index_law)
