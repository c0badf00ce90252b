-- Rows whose address bytes of the memory decide: LOADI, STOREI and INDEX; and numbers of the stack.
use Rattle.std.proofs.Common.{◌≡◌, inl, inr, ℕ, suc, ◌+◌, ◌-◌, ◌*◌, ◌/◌, ◌%◌, ◌<◌, ◌≤◌, Bool, true, false, cond, List, [], ◌∷◌, length, ℤ, Option, None, refl, sym, ap, subst, ◌∙◌, arith}
use Rattle.std.specs.Prelude.{◌==◌, is_none}
use Rattle.std.proofs.lemmas.Bool.{or_parts}
use Rattle.law_sums.specs.model_device.specs.Bytes.{bytes2, zeros}
use Rattle.law_sums.specs.model_machine.specs.declared.instruction.Ins.{Ins}
use Rattle.law_sums.specs.model_machine.specs.declared.instruction.Ins.TheVariants as ins
use Rattle.law_sums.specs.model_machine.specs.Frame.{Frame, where_is, is_outside, no_access, bytes_at, address_at, top, is_under, dynamic_base, dynamic_end, frame_after_pop}
use Rattle.law_sums.specs.model_machine.specs.Primitives.{Around, Goes, number_below_top}
use Rattle.law_sums.specs.model_machine.specs.Row.{causes, operand, address_or_zero, on_stack, indexed_address}
use Rattle.law_sums.specs.model_machine.specs.Shapes.{Act, Pushes, Writes, shape}
use Rattle.law_sums.specs.model_prove.specs.Sets.{is_in}
use Rattle.law_sums.specs.model_prove.specs.Facts.{Memory, values_at}
use Rattle.law_sums.specs.model_prove.specs.Compares.{bytes_from}
use Rattle.law_sums.specs.model_prove.specs.Keys.{Tables}
use Rattle.law_sums.specs.model_prove.specs.Laws.{Among}
use Rattle.law_sums.specs.model_prove.specs.Splits.{stand_in_stack, places_from, top_places, deciders}
use Rattle.law_sums.specs.model_prove.specs.Reach.{reach_at}
use Rattle.law_sums.specs.model_prove.specs.Arrivals.{Setting}
use Rattle.law_sums.specs.model_prove.proofs.FactLemmas.{value_holds}
use Rattle.law_sums.specs.model_prove.proofs.SetLemmas.{is_first}
use Rattle.law_prove_closed.specs.law_prove.specs.Coverings.{frame_memory}
use Rattle.law_prove_closed.specs.law_prove.proofs.Alike.{from_length, read_is, top_is}
use Rattle.law_prove_closed.specs.law_prove.proofs.Plain.{above, over_is}
use Rattle.law_prove_closed.specs.law_prove.proofs.Turns.{nobody}
use Rattle.law_prove_closed.specs.law_prove.proofs.ReachScenes.{with_bytes, fits_sized, same_operand, same_outside, pair_is, same_pair, address_is, below_is, part_inside, stack_inside}
use Rattle.law_prove_closed.specs.law_prove.proofs.Reached.{IsWithin, is_within}
use Rattle.law_prove_closed.specs.law_prove.proofs.Accesses.{inside_of}
use Rattle.law_prove_closed.specs.law_prove.proofs.Tops.{Agree, among_numbers}
use Rattle.law_sums.specs.model_sums.specs.Sums.{SumsTable}
use Rattle.law_sum_plays.proofs.Scenes.{Step, fetched, memory, base, sized, base_fits, Found, few_or_many, nobody_among}
use Rattle.law_sum_plays.proofs.Rows.{unprotected, row_done, few_compared, coarse_compared, StepCase}
use Rattle.law_sum_plays.proofs.Plain.{dt_low, dt_high, pop_low, pop_high}
use Rattle.law_sum_plays.proofs.Copied.{loads, stores}
use Rattle.law_prove_closed.specs.law_prove.proofs.Stores.{access_of}

module _ (i : Ins) (s : Setting) (t : Tables) (u : SumsTable) (step : Step s t u i) where
  abbrev f : Frame
  f = fetched s t u i step

  abbrev m : Memory
  m = memory s t u i step

  -- ---- bytes of a scene

  -- deciding bytes of a scene are those of the memory
  agreed : (places : List ℕ) (x : Around) (o : Found s t u i step places x) (b : ℕ) → Among b places → is_outside f b 1 ≡ false → frame_memory (with_bytes f o.fixed o.dyn) o.public b ≡ m b
  agreed places x o b among low = grind arith

  -- the address that an operand has is the same in the scene
  pub address_same : (tag : ℕ) (off : ℤ) (k : ℕ) (x : Around) (o : Found s t u i step (places_from (operand (base s t u i step).frame tag off k) 2) x) → no_access f (operand f tag off k) 2 ≡ false
      → address_at (with_bytes f o.fixed o.dyn) o.public (address_or_zero (operand (with_bytes f o.fixed o.dyn) tag off k)) ≡ address_at f step.public (address_or_zero (operand f tag off k))
  address_same tag off k x o access =
      let e : Frame = with_bytes f o.fixed o.dyn in
      let w : Option ℕ = operand f tag off k in
      let at = address_or_zero w in
      let inside : is_outside f at 2 ≡ false = (access_of f w access).1 in
      let places : places_from (operand (base s t u i step).frame tag off k) 2 ≡ at ∷ suc at ∷ [] =
      ap (λ (z : Option ℕ). places_from z 2) (same_operand f (zeros (length step.frame.fixed)) (stand_in_stack step.place.calls) tag off k (base_fits s t u i step).size ∙ (access_of f w access).0)
      in
      let one : (b : ℕ) → Among b (at ∷ suc at ∷ []) → is_outside f b 1 ≡ false → frame_memory e o.public b ≡ m b = grind (arith, agreed, base) in
      let first : frame_memory e o.public at ≡ m at = one at (inl refl) (part_inside f at 2 at 1 inside (omega arith) (omega arith)) in
      let second : frame_memory e o.public (suc at) ≡ m (suc at) = one (suc at) (inr (inl refl)) (part_inside f at 2 (suc at) 1 inside (omega arith) (omega arith)) in
      ap (λ (z : Option ℕ). address_at e o.public (address_or_zero z)) (same_operand f o.fixed o.dyn tag off k o.fits.size)
      ∙ (address_is e o.public at (fits_sized f o.fixed o.dyn o.public o.fits) (same_outside f o.fixed o.dyn at 2 o.fits.size ∙ inside)
      ∙ (same_pair (frame_memory e o.public) m at first second ∙ sym (address_is f step.public at (sized s t u i step) inside)))

  -- numbers on the stack are the same in a scene that has their bytes
  pub numbers_agree : (pops : ℕ) (x : Around) (o : Found s t u i step (top_places (base s t u i step).frame pops) x) → dynamic_base + pops ≤ step.frame.dt → Agree pops (number_below_top (with_bytes f o.fixed o.dyn)) (number_below_top f)
  numbers_agree pops x o over k some most =
      let e : Frame = with_bytes f o.fixed o.dyn in
      let a = step.frame.dt - k in
      let one : (b : ℕ) → step.frame.dt - pops ≤ b → b < step.frame.dt → frame_memory e o.public b ≡ m b =
      λ b low less. agreed (top_places (base s t u i step).frame pops) x o b (among_numbers b (step.frame.dt - pops) pops low (omega (arith, less, over))) (stack_inside f b (omega (arith, low, over)) less)
      in
      let first : frame_memory e o.public a ≡ m a = one a (omega (arith, most)) (omega (arith, some, most, over)) in
      let second : frame_memory e o.public (suc a) ≡ m (suc a) = one (suc a) (omega (arith, most)) (omega (arith, some, most, over)) in
      below_is e o.public k (fits_sized f o.fixed o.dyn o.public o.fits) (omega (arith, most, over)) some
      ∙ (same_pair (frame_memory e o.public) m a first second ∙ sym (below_is f step.public k (sized s t u i step) (omega (arith, most, over)) some))

  -- ---- a reach

  -- an access at the address that two bytes are is within the reach of their values
  pub pair_within : (at a n d : ℕ) (lengths : List ℕ) → at ≡ m a * 256 + m (suc a) → is_in n lengths ≡ true → is_outside (record f { dt = d }) at n ≡ false
      → IsWithin (record (base s t u i step).frame { dt = d }) (reach_at step.place.known.bytes a lengths) at n
  pair_within at a n d lengths is some inside =
      let first : m a < 256 = step.place.bytes a in
      let second : m (suc a) < 256 = step.place.bytes (suc a) in
      let high : m a ≡ at / 256 = high_of is first second in
      let low : m (suc a) ≡ at % 256 = low_of is first second in
      is_within (record (base s t u i step).frame { dt = d }) (reach_at step.place.known.bytes a lengths) at n some
      (subst (λ (v : ℕ). is_in v (values_at step.place.known.bytes a) ≡ true) high (value_holds step.place.known.bytes m a step.place.holds first))
      (subst (λ (v : ℕ). is_in v (values_at step.place.known.bytes (suc a)) ≡ true) low (value_holds step.place.known.bytes m (suc a) step.place.holds second))
      (same_outside (record f { dt = d }) (zeros (length step.frame.fixed)) (stand_in_stack step.place.calls) at n (base_fits s t u i step).size ∙ inside)
    where
      high_of : at ≡ m a * 256 + m (suc a) → m a < 256 → m (suc a) < 256 → m a ≡ at / 256
      high_of is first second = omega (arith, is, first, second)

      low_of : at ≡ m a * 256 + m (suc a) → m a < 256 → m (suc a) < 256 → m (suc a) ≡ at % 256
      low_of is first second = omega (arith, is, first, second)

-- as many bytes are read as are asked for
read_count : (i : Ins) (s : Setting) (t : Tables) (u : SumsTable) (step : Step s t u i) (a n : ℕ) → (n == 0) ≡ false → is_none (where_is (fetched s t u i step) a n) ≡ false → length (bytes_at (fetched s t u i step) step.public a n) ≡ n
read_count i s t u step a n some within =
    ap (λ (l : List ℕ). length l) (read_is (fetched s t u i step) step.public a n (sized s t u i step) some within) ∙ from_length (memory s t u i step) a n

-- ---- LOADI

-- what is known for sums holds after LOADI
pub loadi_case : (tag : ℕ) (off : ℤ) (n : ℕ) → StepCase (ins.Loadi tag off n)
unfolding causes shape
loadi_case tag off n s t u step static =
    let i : Ins = ins.Loadi tag off n in
    let f : Frame = fetched s t u i step in
    let o = operand f tag off 2 in
    let from = address_at f step.public (address_or_zero o) in
    let d = step.frame.dt in
    row_done s t u i step static d (Pushes (bytes_at f step.public from n)) None Goes refl (sym (unprotected step.frame.protected step.place.standing)) (λ free.
    let both = or_parts (no_access f o 2) (is_outside f from n) free.1.1.0 in
    let within : is_none (where_is f from n) ≡ false = inside_of (n == 0) (is_none (where_is f from n)) free.0 both.1 in
    elim (few_or_many s t u i step nobody (nobody_among step.place.start) refl) [
      | inl z ↦
          few_compared s t u i step static (places_from (operand (base s t u i step).frame tag off 2) 2) nobody z d (Pushes (bytes_at f step.public from n)) None Goes
          (loads i s t u step static z.fixed z.dyn z.public (address_at (with_bytes f z.fixed z.dyn) z.public (address_or_zero (operand (with_bytes f z.fixed z.dyn) tag off 2))) from n z.fits (address_same i s t u step tag off 2 nobody z both.0) refl free.0 within free.1.1.1.0 refl refl)
      | inr coarse ↦
          let long : length (bytes_at f step.public from n) ≡ n = read_count i s t u step from n free.0 within in
          coarse_compared s t u i step static coarse d (Pushes (bytes_at f step.public from n)) None Goes
          (record {
            dt = refl;
            low = dt_low s t u step;
            high = dt_high s t u step;
            fits = record { bytes = bytes_at f step.public from n; is = refl; long = long; over = over_is d n (length (bytes_at f step.public from n)) free.1.1.1.0 long };
            next = refl;
          })
    ])

-- ---- STOREI

under_both : (f : Frame) (b : Bool) (n : ℕ) → is_under f (cond b (n + 2) n) ≡ false → dynamic_base + n ≤ f.dt
under_both f true n e = let h = above f (n + 2) e in omega (arith, h)
under_both f false n e = let h = above f n e in omega (arith, h)

-- what is known for sums holds after STOREI
pub storei_case : (tag : ℕ) (off : ℤ) (n : ℕ) → StepCase (ins.Storei tag off n)
unfolding causes shape
storei_case tag off n s t u step static =
    let i : Ins = ins.Storei tag off n in
    let f : Frame = fetched s t u i step in
    let m : Memory = memory s t u i step in
    let o = operand f tag off (n + 2) in
    let at = address_or_zero o in
    let to = address_at f step.public at in
    let d = step.frame.dt - n in
    let a : Act = Writes to n (top f n) in
    row_done s t u i step static d a None Goes refl (sym (unprotected step.frame.protected step.place.standing)) (λ free.
    let both = or_parts (no_access f o 2) (is_outside (frame_after_pop f n) to n) free.1.1.0 in
    let within : is_none (where_is (frame_after_pop f n) to n) ≡ false = inside_of (n == 0) (is_none (where_is (frame_after_pop f n) to n)) free.0 both.1 in
    let over : dynamic_base + n ≤ step.frame.dt = under_both f (tag == 0) n free.1.0 in
    let high : step.frame.dt ≤ dynamic_end = dt_high s t u step in
    let read : top f n ≡ bytes_from m d n = top_is f step.public n (sized s t u i step) over in
    elim (few_or_many s t u i step nobody (nobody_among step.place.start) refl) [
      | inl z ↦
          let e : Frame = with_bytes f z.fixed z.dyn in
          let long0 : length (top e n) ≡ n = ap (λ (l : List ℕ). length l) (top_is e z.public n (fits_sized f z.fixed z.dyn z.public z.fits) over) ∙ from_length (frame_memory e z.public) d n in
          few_compared s t u i step static (places_from (operand (base s t u i step).frame tag off (n + 2)) 2) nobody z d a None Goes
          (stores i s t u step static z.fixed z.dyn z.public nobody d (address_at e z.public (address_or_zero (operand e tag off (n + 2)))) to n d d (top e n) (top f n) (address_same i s t u step tag off (n + 2) nobody z both.0) refl long0 read within
          (omega (arith, over)) (omega (arith, high)) refl refl)
      | inr coarse ↦
          let long : length (top f n) ≡ n = ap (λ (l : List ℕ). length l) read ∙ from_length m d n in
          let is : to ≡ m at * 256 + m (suc at) = address_is f step.public at (sized s t u i step) (access_of f o both.0).1 ∙ pair_is m at in
          let reached : IsWithin (record (base s t u i step).frame { dt = d }) (reach_at step.place.known.bytes at (n ∷ [])) to n = pair_within i s t u step to at n d (n ∷ []) is (is_first n []) both.1 in
          let place : address_or_zero (operand (base s t u i step).frame tag off (n + 2)) ≡ at =
          ap address_or_zero (same_operand f (zeros (length step.frame.fixed)) (stand_in_stack step.place.calls) tag off (n + 2) (base_fits s t u i step).size)
          in
          coarse_compared s t u i step static coarse d a None Goes
          (record {
            dt = refl;
            low = omega (arith, over);
            high = omega (arith, high);
            fits = record {
              at = to;
              n = n;
              bytes = top f n;
              is = refl;
              inside = subst (λ (k : ℕ). is_none (where_is (frame_after_pop f n) to k) ≡ false) (sym long) within;
              within = subst (λ (b : ℕ). IsWithin (record (base s t u i step).frame { dt = d }) (reach_at step.place.known.bytes b (n ∷ [])) to (length (top f n))) (sym place)
                  (subst (λ (k : ℕ). IsWithin (record (base s t u i step).frame { dt = d }) (reach_at step.place.known.bytes at (n ∷ [])) to k) (sym long) reached);
            };
            next = refl;
          })
    ])

-- ---- INDEX

-- what is known for sums holds after INDEX
pub index_case : (tag : ℕ) (off : ℤ) (size : ℕ) → StepCase (ins.Index tag off size)
unfolding causes shape
index_case tag off size s t u step static =
    let i : Ins = ins.Index tag off size in
    let f : Frame = fetched s t u i step in
    let k = on_stack tag 3 1 in
    let d = step.frame.dt - k in
    let b = bytes2 (address_or_zero (indexed_address f tag off size)) in
    row_done s t u i step static d (Pushes b) None Goes refl (sym (unprotected step.frame.protected step.place.standing)) (λ free.
    let over : d + 2 ≤ dynamic_end = over_is d 2 2 free.1.1.0 refl in
    elim (few_or_many s t u i step nobody (nobody_among step.place.start) refl) [
      | inl z ↦
          few_compared s t u i step static (deciders i (base s t u i step).frame) nobody z d (Pushes b) None Goes
          (record {
            bytes = bytes2 (address_or_zero (indexed_address (with_bytes f z.fixed z.dyn) tag off size));
            to = 0;
            flags = None;
            later = Goes;
            stands = refl;
            same = (refl, λ number. absurd (cc number));
            low = pop_low step.frame k free.0;
            high = pop_high step.frame.dt k (dt_high s t u step);
            fits = (over, tt);
            next = refl;
          })
      | inr coarse ↦
          coarse_compared s t u i step static coarse d (Pushes b) None Goes
          (record {
            dt = refl;
            low = pop_low step.frame k free.0;
            high = pop_high step.frame.dt k (dt_high s t u step);
            fits = record { bytes = b; is = refl; long = refl; over = over };
            next = refl;
          })
    ])
