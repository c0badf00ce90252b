-- The primitives that compare the bytes at two addresses from the stack.
use Rattle.std.proofs.Common.{◌≡◌, inl, ℕ, ◌+◌, ◌-◌, ◌*◌, ◌^◌, ◌<◌, ◌≤◌, Bool, true, false, cond, List, [], ◌∷◌, ◌++◌, length, map, reverse, Option, Some, None, refl, sym, ap, subst, ◌∙◌, arith}
use Rattle.std.specs.Prelude.{not, ◌==◌, ◌&&◌, ◌||◌, flat_map, slice_index}
use Rattle.std.specs.List.{AllByRecursion}
use Rattle.std.proofs.lemmas.Bool.{eqb-true}
use Rattle.law_prove.specs.model_device.specs.Bytes.{AreBytes, num}
use Rattle.law_prove.specs.model_machine.specs.declared.instruction.Ins.{Ins}
use Rattle.law_prove.specs.model_machine.specs.declared.instruction.Ins.TheVariants as ins
use Rattle.law_prove.specs.model_machine.specs.declared.machine.Abend.{Abend}
use Rattle.law_prove.specs.model_machine.specs.declared.machine.Abend.TheVariants.{A03, A04, A06, A0A}
use Rattle.law_prove.specs.model_machine.specs.Blocks.{Worked, sub_blocks}
use Rattle.law_prove.specs.model_machine.specs.Frame.{Frame, dynamic_base, dynamic_end, is_under, is_outside, bytes_at, frame_after_pop}
use Rattle.law_prove.specs.model_machine.specs.Primitives.{Around, Goes, in_range, number_below_top, later_causes}
use Rattle.law_prove.specs.model_machine.specs.Row.{causes, row, first_cause}
use Rattle.law_prove.specs.model_machine.specs.Chain.{frame_at}
use Rattle.law_prove.specs.model_machine.specs.Shapes.{Stays, Shape, act_effect, shape, prim_shape}
use Rattle.law_prove.specs.law_rows.proofs.BlockLemmas.{num_below}
use Rattle.law_prove.specs.law_rows.proofs.ResultLemmas.{difference_is}
use Rattle.law_prove.specs.model_rules.specs.Rules.{Target}
use Rattle.law_prove.specs.model_prove.specs.Sets.{numbers_from}
use Rattle.law_prove.specs.model_prove.specs.Facts.{Facts, Memory, Holds, values_from, narrow_all}
use Rattle.law_prove.specs.model_prove.specs.Compares.{NoCompare, bytes_from, has_order, orders_of}
use Rattle.law_prove.specs.model_prove.specs.Digits.{Minus, Flags, Digits, arcs, digits_to, carried}
use Rattle.law_prove.specs.model_prove.specs.Keys.{Known, Tables, calls_below}
use Rattle.law_prove.specs.model_prove.specs.Laws.{Among}
use Rattle.law_prove.specs.model_prove.specs.Splits.{Scene, deciders}
use Rattle.law_prove.specs.model_prove.specs.Reach.{Compares, coarse, known_causes, is_known_cause, may_have_bad_length, may_miss}
use Rattle.law_prove.specs.model_prove.specs.Work.{AtAddress, Digitwise, Work, Works, work}
use Rattle.law_prove.specs.model_prove.specs.Arrivals.{Setting, Arrival, fails}
use Rattle.law_prove.specs.model_prove.specs.Steps.{Spot, lowered, flagged, final_flags, works_to, worked_at, narrowed_operands, operand_narrowed, pairs_of, allows, compare_after, uncompared, order_flags, settled_spot, follows, row_arrivals, primitive_of, is_return, no_calls, coarse_for, coarse_done}
use Rattle.law_prove.specs.model_prove.specs.Steps as steps
use Rattle.law_prove.specs.model_rules.specs.Loadable.{IsLoadable}
use Rattle.law_prove.specs.model_prove.specs.Tables.{includes_all}
use Rattle.law_prove.specs.Laws.{LeadsInto, LeadLaw}
use Rattle.law_prove.proofs.Closed.{included_first, included_second}
use Rattle.law_prove.proofs.Seen.{fit_values, Seen}
use Rattle.law_prove.proofs.Acts.{spot_of, Led, stays_led, flags_led, lowered_seen}
use Rattle.law_prove.proofs.Turns.{NoCause, nobody, blank}
use Rattle.law_prove.proofs.Alike.{Sized, from_length}
use Rattle.law_prove.proofs.Single.{going, Turn, IsRowCovered, scene, low_framed}
use Rattle.law_prove.proofs.Plain.{above}
use Rattle.law_prove.proofs.Worked.{worked, worked_length, worked_zero, worked_bytes, worked_difference, OnDigits, on_digits}
use Rattle.law_prove.proofs.Narrowed.{Narrowed, narrow_holds, fit_are, operand_holds, order_is}
use Rattle.law_prove.proofs.Arith.{RunsAs, with_bytes, bytes_allowed, memory_bytes_from}
use Rattle.law_prove.proofs.Blocks.{Outcome, included_of, among_mapped, among_each}
use Rattle.law_prove_closed.specs.ReadLaws.{BlockLaw}
use Rattle.law_prove_closed.proofs.Scenes.{drawn, scene_of, drawn_outside}
use Rattle.law_prove_closed.proofs.Reading.{read_any, number_alike, top_alike, part_alike, first_same}
use Rattle.law_prove_closed.proofs.Shifts.{flags_there}
use Rattle.law_prove_closed.proofs.Address.{neither}
use Rattle.law_prove_closed.proofs.Chosen.{Chosen, IsCoarse, coarse_list, stand, real, memory, sized, before, after_fetch, knowing_spot, outcome_done, chosen_row, coarse_row, rough_is, law_of}
use Rattle.law_prove.proofs.Numbers.{carry_same}

-- ---- numbers

-- the flags of a result
abbrev pub both_flags : Worked → Bool × Bool
both_flags w = (w.c, w.z)

-- those of a subtraction are the digits'
difference_left : (xs ys : List ℕ) → length xs ≡ length ys → AreBytes xs → AreBytes ys → both_flags (sub_blocks xs ys) ≡ (((worked Minus xs ys).1).c, ((worked Minus xs ys).1).z)
difference_left xs ys l h k =
    let r = worked Minus xs ys in
    let is : record { value = r.0; c = (r.1).c; z = (r.1).z } ≡ sub_blocks xs ys =
    difference_is xs ys r.0 (r.1).c (r.1).z (worked_length Minus xs ys l) (worked_bytes Minus xs ys l h k)
    (worked_difference xs ys l h k ∙ ap (λ (n : ℕ). num xs + n * 256 ^ length xs) (sym (carry_same (r.1).c))) (worked_zero Minus xs ys l)
    in
    sym (ap both_flags is)

-- a difference with a borrow is not zero
borrow_by : (c z : Bool) (r x y p : ℕ) → r + y ≡ x + carried c * p → y < p → z ≡ (r == 0) → c ≡ true → z ≡ false
borrow_by c z r x y p h low is e = grind (arith, eqb-true)

no_zero_borrow : (xs ys : List ℕ) → length xs ≡ length ys → AreBytes xs → AreBytes ys → ((worked Minus xs ys).1).c ≡ true → ((worked Minus xs ys).1).z ≡ false
no_zero_borrow xs ys l h k e = grind (arith, worked, borrow_by, worked_difference, num_below, worked_zero)

order_there : (c z : Bool) → (c ≡ true → z ≡ false) → Among (record { c = c; z = z }) order_flags
order_there c z h = grind arith

-- ---- lists of outcomes

module _ (at n other : ℕ) where
  -- the subtraction of the bytes at two addresses
  abbrev taken : Digitwise
  taken = with_bytes Minus at n other false

  among_taken : (q x : Spot) (f : Flags) (ds : List Digits) → allows q.known.compare taken (AtAddress other) f ≡ true → digits_to f (map (arcs Minus) (reverse (pairs_of (values_from q.known.bytes at n) (values_from q.known.bytes other n)))) ≡ Some ds
      → Among x (steps.worked taken f (Some ds) q) → Among (flagged true f x) (works_to taken q)
  among_taken q x f ds allowed is there =
      let lists = map (arcs Minus) (reverse (pairs_of (values_from q.known.bytes at n) (values_from q.known.bytes other n))) in
      let g : Flags → List Spot = λ f. cond (allows q.known.compare taken (AtAddress other) f) (map (flagged true f) (steps.worked taken f (digits_to f lists) q)) [] in
      among_each g f (flagged true f x) (final_flags true) (flags_there f.c f.z)
      (subst (λ (b : Bool). Among (flagged true f x) (cond b (map (flagged true f) (steps.worked taken f (digits_to f lists) q)) [])) (sym allowed)
      (subst (λ (o : Option (List Digits)). Among (flagged true f x) (map (flagged true f) (steps.worked taken f o q))) (sym is)
      (among_mapped (flagged true f) x (steps.worked taken f (Some ds) q) there)))

  module _ (s : Setting) (u t : Tables) (g : Target) (loadable : IsLoadable s.app) (leads : LeadsInto s u t) (i : Ins) (turn : Turn s u i) where
    abbrev m : Memory
    m = memory s u t g loadable leads i turn

    abbrev xs : List ℕ
    xs = bytes_from m at n

    abbrev ys : List ℕ
    ys = bytes_from m other n

    abbrev fl : Flags
    fl = (worked Minus xs ys).1

    first_bytes : AreBytes xs
    first_bytes = memory_bytes_from m at n turn.place.bytes

    second_bytes : AreBytes ys
    second_bytes = memory_bytes_from m other n turn.place.bytes

    same_length : length xs ≡ length ys
    same_length = from_length m at n ∙ sym (from_length m other n)

    runs : RunsAs Minus true n xs ys
    runs e = subst (λ (k : ℕ). num (worked Minus xs ys).0 + num ys ≡ num xs + carried ((worked Minus xs ys).1).c * 256 ^ k) (from_length m at n) (worked_difference xs ys same_length first_bytes second_bytes)

    below : (l : List ℕ) → AreBytes l → length l ≡ n → num l < 256 ^ n
    below l h is = subst (λ (k : ℕ). num l < 256 ^ k) is (num_below l h)

    ordered : has_order (orders_of fl.c fl.z) (num xs) (num ys) ≡ true
    ordered = grind (arith, order_is, worked, below, first_bytes, from_length, second_bytes, worked_bytes, same_length, worked_length, runs, worked_zero)

    -- a row that leaves the frame but for its stack and its flags
    stays_with : (k : Known) (c z : Bool) (d : ℕ) → Seen turn.place.calls k (real s u t g loadable leads i turn) turn.public → dynamic_base + turn.frame.session ≤ d → d ≤ dynamic_end
        → Led s turn.place.start turn.place.standing.allowances (flagged true (record { c = c; z = z }) (lowered d (spot_of turn.place.start turn.place.standing.allowances (real s u t g loadable leads i turn) turn.place.calls k))) false
        (record { frame = record (real s u t g loadable leads i turn) { dt = d; c = c; z = z }; public = turn.public; changes = None })
    stays_with k c z d seen low high =
        let st = turn.place.start in
        let al = turn.place.standing.allowances in
        let f = real s u t g loadable leads i turn in
        let x : Spot = lowered d (spot_of st al f turn.place.calls k) in
        flags_led s st al x false (act_effect Stays (record f { dt = d }) turn.public) (Some (c, z))
        (stays_led s loadable.static st al (record f { dt = d }) turn.public (calls_below d turn.place.calls) x.known [] (low_framed s u t g loadable leads i turn d low high) (lowered_seen d st al f turn.public turn.place.calls k seen))

    -- the machine's comparison is one of those that are followed
    compared_outcome : (facts : Facts) → Holds facts m → (f0 : Option (Bool × Bool)) (d : ℕ) → dynamic_base + turn.frame.session ≤ d → d ≤ dynamic_end
        → includes_all t (row_arrivals false s i (going d Stays f0) (Works taken) (before s u t g loadable leads i turn) (knowing_spot s u t g loadable leads i turn facts)) ≡ true → Outcome s u t g loadable leads i turn (going d Stays (Some (fl.c, fl.z)))
    compared_outcome facts holds f0 d low high includes =
        let st = turn.place.start in
        let al = turn.place.standing.allowances in
        let f = real s u t g loadable leads i turn in
        let p : Spot = before s u t g loadable leads i turn in
        let q : Spot = knowing_spot s u t g loadable leads i turn facts in
        let digits : OnDigits Minus xs ys (values_from facts at n) (values_from facts other n) = grind (arith, on_digits, same_length, fit_values) in
        let rds = reverse digits.digits in
        let second : Narrowed (operand_narrowed (AtAddress other) (map (λ d. d.b) rds) (Some facts)) m = operand_holds facts m n (AtAddress other) ys (map (λ d. d.b) rds) holds turn.place.bytes refl digits.second in
        let both : Narrowed (narrow_all at (map (λ d. d.a) rds) (Some second.facts)) m = narrow_holds at (map (λ d. d.a) rds) second.facts m second.holds turn.place.bytes (fit_are m at n (map (λ d. d.a) rds) digits.first) in
        let facts_are : narrowed_operands taken rds facts ≡ Some both.facts = ap (λ (o : Option Facts). narrow_all at (map (λ d. d.a) rds) o) second.is ∙ both.is in
        let k : Known = record { bytes = both.facts; kept = turn.place.known.kept; compare = compare_after taken fl turn.place.known.compare } in
        let x : Spot = spot_of st al f turn.place.calls k in
        let there : Among x (steps.worked taken fl (Some digits.digits) q) = subst (λ (o : Option Facts). Among x (worked_at taken fl rds o q)) (sym facts_are) (inl refl) in
        let seen : Seen turn.place.calls k f turn.public = record { open_calls = turn.place.open_calls; holds = both.holds; compares = ordered; keeps = λ on session d. turn.place.keeps session d } in
        let allowed : allows turn.place.known.compare taken (AtAddress other) fl ≡ true = bytes_allowed Minus false at n other turn.place.known.compare m turn.place.compares first_bytes second_bytes runs in
        let each : Spot → List Arrival = λ r. follows s i false Goes p (settled_spot s r) in
        record {
          spot = lowered d (flagged true fl x);
          led = stays_with k fl.c fl.z d seen low high;
          included = included_of t each (map (lowered d) (works_to taken q)) (lowered d (flagged true fl x)) (among_mapped (lowered d) (flagged true fl x) (works_to taken q) (among_taken q x fl digits.digits allowed digits.is there)) includes;
        }

    -- so it is if nothing is known of the two
    coarse_outcome : (d : ℕ) → dynamic_base + turn.frame.session ≤ d → d ≤ dynamic_end
        → includes_all t (flat_map (λ r. follows s i false Goes (before s u t g loadable leads i turn) (settled_spot s r)) (map (λ f. uncompared (flagged true f (lowered d (after_fetch s u t g loadable leads i turn)))) order_flags)) ≡ true
        → Outcome s u t g loadable leads i turn (going d Stays (Some (fl.c, fl.z)))
    coarse_outcome d low high includes =
        let f = real s u t g loadable leads i turn in
        let p : Spot = before s u t g loadable leads i turn in
        let q : Spot = lowered d (after_fetch s u t g loadable leads i turn) in
        let k : Known = record turn.place.known { compare = NoCompare } in
        let seen : Seen turn.place.calls k f turn.public = record { open_calls = turn.place.open_calls; holds = turn.place.holds; compares = tt; keeps = λ on session d. turn.place.keeps session d } in
        let each : Spot → List Arrival = λ r. follows s i false Goes p (settled_spot s r) in
        record {
          spot = uncompared (flagged true fl q);
          led = stays_with k fl.c fl.z d seen low high;
          included = included_of t each (map (λ g. uncompared (flagged true g q)) order_flags) (uncompared (flagged true fl q)) (among_mapped (λ g. uncompared (flagged true g q)) fl order_flags (order_there fl.c fl.z (no_zero_borrow xs ys same_length first_bytes second_bytes))) includes;
        }

-- ---- the rows

module _ (i : Ins) (k : ℕ) (enough_bytes : 4 ≤ k) (own bad : Bool) (count : Frame → ℕ) (later : ℕ → Bool → List (Abend × Bool)) where
  abbrev compare_causes : Bool → ℕ → Bool → List (Abend × Bool)
  compare_causes u n x = (A06, own) ∷ (A0A, false) ∷ (A04, u) ∷ later n x

  -- whether one of two accesses of n bytes fails
  abbrev either_outside : Frame → ℕ → ℕ → ℕ → Bool
  either_outside g n a c = is_outside g a n || is_outside g c n

  -- the row takes k bytes, and compares the bytes at the two addresses on top of them
  pub record IsComparison : Type 0 where
    pub cause : (f : Frame) (public : List ℕ) (x : Around) → causes i f public x ≡ compare_causes (is_under f k) (count f) (either_outside (frame_after_pop f k) (count f) (number_below_top f 4) (number_below_top f 2))
    pub form : (f : Frame) (public : List ℕ) (x : Around)
        → shape i f public x ≡ going (f.dt - k) Stays (Some (both_flags (sub_blocks (bytes_at (frame_after_pop f k) public (number_below_top f 4) (count f)) (bytes_at (frame_after_pop f k) public (number_below_top f 2) (count f)))))
    pub task : (f : Frame) (public : List ℕ) → work i f public ≡ Works (taken (number_below_top f 4) (count f) (number_below_top f 2))
    pub decided : (f : Frame) → deciders i f ≡ numbers_from (f.dt - k) k
    pub rough : (f : Frame) (known : Facts) → coarse i f known ≡ Compares
    pub length_bad : may_have_bad_length (primitive_of i) ≡ bad
    pub misses : may_miss (primitive_of i) Compares ≡ true
    pub counts : (l f : Frame) → ((j : ℕ) → 2 ≤ j → j ≤ k → number_below_top l j ≡ number_below_top f j) → count l ≡ count f
    pub clear : (f : Frame) (x : Bool) → own ≡ false → NoCause (later (count f) x) → x ≡ false
    pub knows : (u x y : Bool) (n p : ℕ) → known_causes bad (compare_causes u n x) ≡ known_causes bad (compare_causes u p y)
    pub unknown : (q : Abend → Bool) (u x : Bool) (n : ℕ) → q A03 ≡ true → (bad ≡ true → q A06 ≡ true) → AllByRecursion (λ c. is_known_cause bad c.0 ≡ false → q c.0 ≡ true) (compare_causes u n x)

  module _ (is : IsComparison) (s : Setting) (u t : Tables) (g : Target) (loadable : IsLoadable s.app) (leads : LeadsInto s u t) (turn : Turn s u i) where
    abbrev f : Frame
    f = real s u t g loadable leads i turn

    abbrev low : Frame
    low = frame_after_pop f k

    abbrev a : ℕ
    a = number_below_top f 4

    abbrev c : ℕ
    c = number_below_top f 2

    abbrev n : ℕ
    n = count f

    abbrev mem : Memory
    mem = memory s u t g loadable leads i turn

    low_sized : Sized low turn.public
    low_sized = grind (arith, sized)

    bottom : is_under f k ≡ false → (dynamic_base + turn.frame.session ≤ f.dt - k) × (f.dt - k ≤ dynamic_end)
    bottom over = grind (arith, above)

    -- the machine's flags
    flags_are : either_outside low n a c ≡ false → let fl : Flags = (worked Minus (bytes_from mem a n) (bytes_from mem c n)).1 in shape i f turn.public turn.around ≡ going (f.dt - k) Stays (Some (fl.c, fl.z))
    flags_are out = grind (arith, neither, going, read_any, low_sized, difference_left, from_length, memory_bytes_from)

    module _ (z : Chosen s u t g loadable leads i turn) where
      abbrev l : Frame
      l = drawn f z.fixed z.dyn

      abbrev zs : Scene
      zs = scene_of f z.fixed z.dyn z.public

      numbers : is_under f k ≡ false → (j : ℕ) → 2 ≤ j → j ≤ k → number_below_top l j ≡ number_below_top f j
      numbers over j two few =
          let enough = above f k over in
          number_alike f turn.public z.fixed z.dyn z.public (sized s u t g loadable leads i turn) z.size z.room z.whole j (omega (arith, enough, few)) two
          (part_alike zs mem turn.frame.dt k j 2 (omega (arith, enough)) two few
          (top_alike zs mem f k (omega (arith, enough)) (λ b there h. z.agrees b there (subst (λ (ps : List ℕ). Among b ps) (sym (is.decided (stand s u t g loadable leads i turn).frame)) h))))

      first_number : is_under f k ≡ false → number_below_top l 4 ≡ a
      first_number over = numbers over 4 (omega arith) enough_bytes

      second_number : is_under f k ≡ false → number_below_top l 2 ≡ c
      second_number over = numbers over 2 (omega arith) (omega (arith, enough_bytes))

      count_same : is_under f k ≡ false → count l ≡ n
      count_same over = is.counts l f (numbers over)

      outside_same : is_under f k ≡ false → either_outside (frame_after_pop l k) (count l) (number_below_top l 4) (number_below_top l 2) ≡ either_outside low n a c
      outside_same over = grind (arith, count_same, first_number, second_number, drawn_outside)

      later_same : is_under f k ≡ false → later (count l) (either_outside (frame_after_pop l k) (count l) (number_below_top l 4) (number_below_top l 2)) ≡ later n (either_outside low n a c)
      later_same over =
          ap (λ (x : Bool). later (count l) x) (outside_same over) ∙ ap (λ (v : ℕ). later v (either_outside low n a c)) (count_same over)

      cause_same : first_cause (causes i l z.public nobody) ≡ first_cause (causes i f turn.public turn.around)
      cause_same = grind (arith, nobody, first_same, later_same)

      few_compared : IsRowCovered s u t g loadable leads i turn (row i (frame_at turn.frame turn.next) turn.public turn.around)
      few_compared =
          chosen_row s u t g loadable leads i turn z cause_same
          (λ none all.
          let no : NoCause (compare_causes (is_under f k) n (either_outside low n a c)) = subst (λ (cs : List (Abend × Bool)). NoCause cs) (is.cause f turn.public turn.around) none in
          let over : is_under f k ≡ false = no.1.1.0 in
          let out : either_outside low n a c ≡ false = is.clear f (either_outside low n a c) no.0 no.1.1.1 in
          let bounds = bottom over in
          let p : Spot = before s u t g loadable leads i turn in
          let q : Spot = knowing_spot s u t g loadable leads i turn z.facts in
          let d = f.dt - k in
          let fl0 = both_flags (sub_blocks (bytes_at (frame_after_pop l k) z.public (number_below_top l 4) (count l)) (bytes_at (frame_after_pop l k) z.public (number_below_top l 2) (count l))) in
          let h : Shape = going d Stays (Some fl0) in
          let one : includes_all t (row_arrivals false s i h (work i l z.public) p q) ≡ true = grind (arith, nobody) in
          let works : work i l z.public ≡ Works (taken a n c) = grind (arith, first_number, count_same, second_number) in
          let fl : Flags = (worked Minus (bytes_from mem a n) (bytes_from mem c n)).1 in
          outcome_done s u t g loadable leads i turn d Stays (Some (fl.c, fl.z)) (flags_are out)
          (compared_outcome a n c s u t g loadable leads i turn z.facts z.holds (Some fl0) d bounds.0 bounds.1 (subst (λ (w : Work). includes_all t (row_arrivals false s i h w p q) ≡ true) works one)))

    many_compared : IsCoarse s u t g loadable leads i turn → IsRowCovered s u t g loadable leads i turn (row i (frame_at turn.frame turn.next) turn.public turn.around)
    many_compared rough =
        let l : Frame = scene s u t g loadable leads i turn in
        let p : Spot = before s u t g loadable leads i turn in
        let q : Spot = after_fetch s u t g loadable leads i turn in
        let d = f.dt - k in
        let fl0 = both_flags (sub_blocks (bytes_at (frame_after_pop l k) blank (number_below_top l 4) (count l)) (bytes_at (frame_after_pop l k) blank (number_below_top l 2) (count l))) in
        let h : Shape = going d Stays (Some fl0) in
        let x = either_outside (frame_after_pop l k) (count l) (number_below_top l 4) (number_below_top l 2) in
        let y = either_outside low n a c in
        let ds : List (Abend × Bool) = compare_causes (is_under f k) (count l) x in
        let cs : List (Abend × Bool) = compare_causes (is_under f k) n y in
        let done : List Arrival = coarse_done (first_cause (known_causes bad ds)) s i (record l { dt = d }) h Compares p q in
        let includes : includes_all t (coarse_list s i true bad h ds Compares l p q) ≡ true = grind (arith, rough_is, blank, rough) in
        let three : List Arrival = fails s p.key p.known A03 in
        let six : List Arrival = cond bad (fails s p.key p.known A06) [] in
        let both : includes_all t (three ++ six) ≡ true = included_first t (three ++ six) done includes in
        let misses : includes_all t three ≡ true = included_first t three six both in
        let length_fails : bad ≡ true → includes_all t (fails s p.key p.known A06) ≡ true = grind (arith, included_second) in
        coarse_row s u t g loadable leads i turn bad h Compares (record l { dt = d }) cs (is.cause f turn.public turn.around)
        (is.unknown (λ c. includes_all t (fails s p.key p.known c)) (is_under f k) y n misses length_fails)
        (subst (λ (cs : List (Abend × Bool)). includes_all t (coarse_done (first_cause cs) s i (record l { dt = d }) h Compares p q) ≡ true) (is.knows (is_under f k) x y (count l) n) (included_second t (three ++ six) done includes))
        (λ none all.
        let bounds = bottom none.1.1.0 in
        let fl : Flags = (worked Minus (bytes_from mem a n) (bytes_from mem c n)).1 in
        outcome_done s u t g loadable leads i turn d Stays (Some (fl.c, fl.z)) (flags_are (is.clear f y none.0 none.1.1.1)) (coarse_outcome a n c s u t g loadable leads i turn d bounds.0 bounds.1 all))

-- ---- the laws

in_by : (r x : Bool) → (r && x) ≡ false → (not r) ≡ false → x ≡ false
in_by true x e h = e
in_by false x e h = absurd (cc h)

memory_is : (args : List ℕ) → IsComparison (ins.Prim 0 5 args) 6 (omega arith) false true (λ f. number_below_top f 6) (λ n x. (A03, in_range 1 255 n && x) ∷ (A06, not (in_range 1 255 n)) ∷ [])
unfolding causes shape later_causes prim_shape
memory_is args =
    record {
      cause = λ f public x. refl;
      form = λ f public x. refl;
      task = λ f public. refl;
      decided = λ f. refl;
      rough = λ f known. refl;
      length_bad = refl;
      misses = refl;
      counts = λ l f same. same 6 (omega arith) (omega arith);
      clear = λ f x fine none. in_by (in_range 1 255 (number_below_top f 6)) x none.0 none.1.0;
      knows = λ u x y n p. refl;
      unknown = λ q u x n three six. ((λ e. six refl), ((λ e. absurd (cc e)), ((λ e. absurd (cc e)), ((λ e. three), ((λ e. six refl), tt)))));
    }

fixed_is : (args : List ℕ) → IsComparison (ins.Prim 1 1 args) 4 (omega arith) (slice_index args 0 == 0) false (λ f. slice_index args 0) (λ n x. (A03, x) ∷ [])
unfolding causes shape later_causes prim_shape
fixed_is args =
    record {
      cause = λ f public x. refl;
      form = λ f public x. refl;
      task = λ f public. refl;
      decided = λ f. refl;
      rough = λ f known. refl;
      length_bad = refl;
      misses = refl;
      counts = λ l f same. refl;
      clear = λ f x fine none. none.0;
      knows = λ u x y n p. refl;
      unknown = λ q u x n three six. ((λ e. absurd (cc e)), ((λ e. absurd (cc e)), ((λ e. absurd (cc e)), ((λ e. three), tt))));
    }

memory_law : (args : List ℕ) → LeadLaw (ins.Prim 0 5 args)
memory_law args =
    law_of (ins.Prim 0 5 args) (λ s u t g loadable leads turn e. e)
    (record {
      asks = refl;
      few = few_compared (ins.Prim 0 5 args) 6 (omega arith) false true (λ f. number_below_top f 6) (λ n x. (A03, in_range 1 255 n && x) ∷ (A06, not (in_range 1 255 n)) ∷ []) (memory_is args);
      many = λ s u t g loadable leads turn few rough.
          many_compared (ins.Prim 0 5 args) 6 (omega arith) false true (λ f. number_below_top f 6) (λ n x. (A03, in_range 1 255 n && x) ∷ (A06, not (in_range 1 255 n)) ∷ []) (memory_is args) s u t g loadable leads turn rough;
    })

fixed_law : (args : List ℕ) → LeadLaw (ins.Prim 1 1 args)
fixed_law args =
    law_of (ins.Prim 1 1 args) (λ s u t g loadable leads turn e. e)
    (record {
      asks = refl;
      few = few_compared (ins.Prim 1 1 args) 4 (omega arith) (slice_index args 0 == 0) false (λ f. slice_index args 0) (λ n x. (A03, x) ∷ []) (fixed_is args);
      many = λ s u t g loadable leads turn few rough. many_compared (ins.Prim 1 1 args) 4 (omega arith) (slice_index args 0 == 0) false (λ f. slice_index args 0) (λ n x. (A03, x) ∷ []) (fixed_is args) s u t g loadable leads turn rough;
    })

-- the primitives that compare the bytes at two addresses are covered
pub block_laws : BlockLaw
block_laws = (memory_law, fixed_law)
