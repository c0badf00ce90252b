-- STOREI: the two bytes of the operand are the address to which the top bytes of the stack go.
use Rattle.std.proofs.Common.{◌≡◌, ◌⊎◌, inl, inr, ℕ, suc, ◌+◌, ◌-◌, ◌*◌, ◌/◌, ◌%◌, ◌<◌, ◌≤◌, Bool, true, false, cond, List, [], ◌∷◌, length, ℤ, Option, Some, None, refl, sym, ap, subst, ◌∙◌, arith}
use Rattle.std.specs.Prelude.{◌==◌, ◌||◌, is_none}
use Rattle.std.proofs.lemmas.Bool.{or_parts}
use Rattle.law_prove.specs.model_device.specs.Bytes.{zeros}
use Rattle.law_prove.specs.model_machine.specs.declared.instruction.Ins.{Ins}
use Rattle.law_prove.specs.model_machine.specs.declared.instruction.Ins.TheVariants as ins
use Rattle.law_prove.specs.model_machine.specs.declared.machine.Abend.{Abend}
use Rattle.law_prove.specs.model_machine.specs.declared.machine.Abend.TheVariants.{A03, A04, A06, A08}
use Rattle.law_prove.specs.model_machine.specs.Frame.{Frame, where_is, is_outside, no_access, too_many, is_under, address_at, top, dynamic_base, dynamic_end, frame_after_pop}
use Rattle.law_prove.specs.model_machine.specs.Row.{causes, operand, address_or_zero, on_stack, first_cause, row}
use Rattle.law_prove.specs.model_machine.specs.Shapes.{Writes, shape}
use Rattle.law_prove.specs.model_rules.specs.Rules.{Target}
use Rattle.law_prove.specs.model_prove.specs.Facts.{Memory}
use Rattle.law_prove.specs.model_prove.specs.Compares.{bytes_from}
use Rattle.law_prove.specs.model_prove.specs.Keys.{Start, Delegated, OfClass, Tables}
use Rattle.law_prove.specs.model_prove.specs.Laws.{Among}
use Rattle.law_prove.specs.model_prove.specs.Splits.{places_from, stand_in_stack}
use Rattle.law_prove.specs.model_prove.specs.Work.{Copies}
use Rattle.law_prove.specs.model_prove.specs.Reach.{Reach, reach_at}
use Rattle.law_prove.specs.model_prove.specs.Arrivals.{Setting}
use Rattle.law_prove.specs.model_prove.specs.Steps.{Spot, arounds, caused}
use Rattle.law_prove.specs.model_rules.specs.Loadable.{IsLoadable}
use Rattle.law_prove.specs.model_prove.specs.Tables.{includes_all}
use Rattle.law_prove.specs.model_prove.proofs.FactLemmas.{value_holds}
use Rattle.law_prove.specs.model_prove.proofs.SetLemmas.{is_first}
use Rattle.law_prove.specs.Coverings.{parts_memory, frame_memory}
use Rattle.law_prove.specs.Laws.{LeadsInto}
use Rattle.law_prove.proofs.Alike.{Sized, from_length, top_is}
use Rattle.law_prove.proofs.Moves.{positive, turn_sized}
use Rattle.law_prove.proofs.Plain.{above}
use Rattle.law_prove.proofs.Turns.{NoCause, nobody, blank}
use Rattle.law_prove.proofs.Single.{going, Turn, here, IsRowCovered}
use Rattle.law_prove.specs.ReachLaws.{StoreLaw}
use Rattle.law_prove.proofs.ReachScenes.{with_bytes, fits_sized, same_operand, same_outside, same_access, few_wait, pair_in, pair_is, same_pair, address_is, part_inside}
use Rattle.law_prove.proofs.Reached.{is_within}
use Rattle.law_prove.proofs.Choices.{fetched_frame, memory, base, base_fits, Followed, IsCoarse, few_or_many, ChoiceCase, law_by}
use Rattle.law_prove.proofs.Accesses.{inside_of, bytes_of}
use Rattle.law_prove.proofs.Rows.{chosen_there, copied_row, IsCopied, IsReached, coarse_row}

-- one of two bools, if the first is false
or_same : (b x y : Bool) → (b ≡ false → x ≡ y) → (b || x) ≡ (b || y)
or_same true x y same = refl
or_same false x y same = same refl

above_by : (f : Frame) (b : Bool) (n : ℕ) → is_under f (cond b (n + 2) n) ≡ false → dynamic_base + f.session + n ≤ f.dt
above_by f true n e = let h = above f (n + 2) e in omega (arith, h)
above_by f false n e = above f n e

-- an access of two bytes has an address
pub access_of : (f : Frame) (o : Option ℕ) → no_access f o 2 ≡ false → (o ≡ Some (address_or_zero o)) × (is_outside f (address_or_zero o) 2 ≡ false)
access_of f None e = absurd (cc e)
access_of f (Some a) e = (refl, e)

alone : (st : Start) → Among nobody (arounds st None)
alone Delegated = inl refl
alone (OfClass class) = inl refl

module _ (tag : ℕ) (off : ℤ) (n : ℕ) (s : Setting) (u t : Tables) (g : Target) (loadable : IsLoadable s.app) (leads : LeadsInto s u t) (turn : Turn s u (ins.Storei tag off n)) where
  abbrev i : Ins
  i = ins.Storei tag off n

  abbrev f : Frame
  f = fetched_frame s u t g loadable leads i turn

  abbrev m : Memory
  m = memory s u t g loadable leads i turn

  -- the place of the address, the address, and DT after the row
  abbrev o : Option ℕ
  o = operand f tag off (n + 2)

  abbrev at : ℕ
  at = address_or_zero o

  abbrev to : ℕ
  to = address_at f turn.public at

  abbrev d : ℕ
  d = turn.frame.dt - n

  sized : Sized f turn.public
  sized = turn_sized s u loadable i turn

  byte : n < 256
  byte = turn.shaped.1

  -- the address is the number of its two bytes
  to_is : no_access f o 2 ≡ false → to ≡ pair_in m at
  to_is access = address_is f turn.public at sized (access_of f o access).1

  -- what is stored
  stored_is : dynamic_base + turn.frame.session + n ≤ turn.frame.dt → top f n ≡ bytes_from m d n
  stored_is over = top_is f turn.public n sized (omega (arith, over))

  -- ---- few choices

  module _ (w : Followed s u t g loadable leads i turn (places_from (operand (base s u t g loadable leads i turn).frame tag off (n + 2)) 2) nobody) where
    abbrev e : Frame
    e = with_bytes f w.fixed w.dyn

    abbrev to0 : ℕ
    to0 = address_at e w.public at

    stood : Sized e w.public
    stood = fits_sized f w.fixed w.dyn w.public w.fits

    operand_is : operand e tag off (n + 2) ≡ o
    operand_is = same_operand f w.fixed w.dyn tag off (n + 2) w.fits.size

    -- both bytes of the address are those of the memory
    places_are : no_access f o 2 ≡ false → places_from (operand (base s u t g loadable leads i turn).frame tag off (n + 2)) 2 ≡ at ∷ suc at ∷ []
    places_are access =
        ap (λ (z : Option ℕ). places_from z 2) (same_operand f (zeros (length turn.frame.fixed)) (stand_in_stack turn.place.calls) tag off (n + 2) (base_fits s u t g loadable leads i turn).size ∙ (access_of f o access).0)

    both_agree : no_access f o 2 ≡ false → to0 ≡ to
    both_agree access =
        let inside : is_outside f at 2 ≡ false = (access_of f o access).1 in
        let k : Memory = frame_memory e w.public in
        let size : length w.fixed ≡ length turn.frame.fixed = w.fits.size in
        let same : (b : ℕ) → Among b (at ∷ suc at ∷ []) → is_outside f b 1 ≡ false → k b ≡ m b = λ b among low.
        ap (λ (j : ℕ). parts_memory j w.fixed w.dyn w.public b) size ∙ w.agrees b (subst (λ (l : List ℕ). Among b l) (sym (places_are access)) among) low
        in
        let first : k at ≡ m at = same at (inl refl) (part_inside f at 2 at 1 inside (omega arith) (omega arith)) in
        let second : k (suc at) ≡ m (suc at) = same (suc at) (inr (inl refl)) (part_inside f at 2 (suc at) 1 inside (omega arith) (omega arith)) in
        address_is e w.public at stood (same_outside f w.fixed w.dyn at 2 size ∙ inside) ∙ (same_pair k m at first second ∙ sym (to_is access))

    -- the causes but 08
    abbrev cs : List (Abend × Bool)
    cs = (A06, n == 0) ∷ (A04, is_under f (on_stack tag (n + 2) n)) ∷ (A03, no_access f o 2 || is_outside (frame_after_pop f n) to n) ∷ []

    missed_same : (no_access e o 2 || is_outside (frame_after_pop e n) to0 n) ≡ (no_access f o 2 || is_outside (frame_after_pop f n) to n)
    missed_same =
        ap (λ (b : Bool). b || is_outside (frame_after_pop e n) to0 n) (same_access f w.fixed w.dyn o 2 w.fits.size)
        ∙ or_same (no_access f o 2) (is_outside (frame_after_pop e n) to0 n) (is_outside (frame_after_pop f n) to n) (λ access.
        ap (λ (a : ℕ). is_outside (frame_after_pop e n) a n) (both_agree access) ∙ same_outside (frame_after_pop f n) w.fixed w.dyn to n w.fits.size)

    copied : NoCause cs → IsCopied s u t g loadable leads i turn w.known w.seen (too_many (frame_after_pop e n) to0 n) d to0 to n d d (top e n) (top f n)
    copied none =
        let over : dynamic_base + turn.frame.session + n ≤ turn.frame.dt = above_by f (tag == 0) n none.1.0 in
        let high : turn.frame.dt ≤ dynamic_end = turn.place.frame.high in
        let p = or_parts (no_access f o 2) (is_outside (frame_after_pop f n) to n) none.1.1.0 in
        record {
          free = few_wait (frame_after_pop f n) w.fixed w.dyn to0 n (omega (arith, byte));
          same = both_agree p.0;
          source = refl;
          count = ap (λ (z : List ℕ). length z) (top_is e w.public n stood (omega (arith, over))) ∙ from_length (frame_memory e w.public) d n;
          read = stored_is over;
          some = positive n none.0;
          inside = inside_of (n == 0) (is_none (where_is (frame_after_pop f n) to n)) none.0 p.1;
          low = omega (arith, over);
          high = omega (arith, high);
        }

    few_case : IsRowCovered s u t g loadable leads i turn (row i f turn.public turn.around)
    unfolding causes shape
    few_case =
        let under = is_under f (on_stack tag (n + 2) n) in
        let low0 : Frame = frame_after_pop e n in
        let p : Spot = here s u t g loadable leads i turn in
        let q : Spot = chosen_there s u t g loadable leads i turn w.known w.seen in
        let one : includes_all t (caused (first_cause ((A06, n == 0) ∷ (A04, under) ∷ (A03, no_access e o 2 || is_outside low0 to0 n) ∷ (A08, too_many low0 to0 n) ∷ [])) s i (going d (Writes to0 n (top e n)) None) (Copies d) p q) ≡ true =
        subst (λ (z : Option ℕ). let a = address_at e w.public (address_or_zero z) in
        includes_all t (caused (first_cause ((A06, n == 0) ∷ (A04, under) ∷ (A03, no_access e z 2 || is_outside low0 a n) ∷ (A08, too_many low0 a n) ∷ [])) s i (going d (Writes a n (top e n)) None) (Copies d) p q) ≡ true) operand_is w.is
        in
        copied_row s u t g loadable leads i turn w.known w.seen cs (too_many low0 to0 n) d to0 n to n d d (top e n) (top f n)
        (subst (λ (x : Bool). includes_all t (caused (first_cause ((A06, n == 0) ∷ (A04, under) ∷ (A03, x) ∷ (A08, too_many low0 to0 n) ∷ [])) s i (going d (Writes to0 n (top e n)) None) (Copies d) p q) ≡ true) missed_same one)
        refl refl copied

  -- ---- too many choices

  -- the reach of the row
  abbrev r : Reach
  r = reach_at turn.place.known.bytes at (n ∷ [])

  abbrev l : Frame
  l = (base s u t g loadable leads i turn).frame

  base_operand : operand l tag off (n + 2) ≡ o
  base_operand = same_operand f (zeros (length turn.frame.fixed)) (stand_in_stack turn.place.calls) tag off (n + 2) (base_fits s u t g loadable leads i turn).size

  abbrev was : Bool
  was = too_many (frame_after_pop l n) (address_at l blank at) n

  reached : (n == 0) ≡ false → is_under f (on_stack tag (n + 2) n) ≡ false → (no_access f o 2 || is_outside (frame_after_pop f n) to n) ≡ false → IsReached s u t g loadable leads i turn r was d to n (top f n)
  reached some under missed =
      let over : dynamic_base + turn.frame.session + n ≤ turn.frame.dt = above_by f (tag == 0) n under in
      let high : turn.frame.dt ≤ dynamic_end = turn.place.frame.high in
      let p = or_parts (no_access f o 2) (is_outside (frame_after_pop f n) to n) missed in
      let fixed = zeros (length turn.frame.fixed) in
      let dyn = stand_in_stack turn.place.calls in
      let size : length fixed ≡ length turn.frame.fixed = (base_fits s u t g loadable leads i turn).size in
      let first : m at < 256 = turn.place.bytes at in
      let second : m (suc at) < 256 = turn.place.bytes (suc at) in
      let is : to ≡ m at * 256 + m (suc at) = to_is p.0 ∙ pair_is m at in
      record {
        free = few_wait (frame_after_pop f n) fixed dyn (address_at l blank at) n (omega (arith, byte));
        long = ap (λ (z : List ℕ). length z) (stored_is over) ∙ from_length m d n;
        bytes = rw (stored_is over) (bytes_of m d n turn.place.bytes);
        some = positive n some;
        inside = inside_of (n == 0) (is_none (where_is (frame_after_pop f n) to n)) some p.1;
        within = is_within (record l { dt = d }) r to n (is_first n [])
            (rw (← high_of is first second) (value_holds turn.place.known.bytes m at turn.place.holds first))
            (rw (← low_of is first second) (value_holds turn.place.known.bytes m (suc at) turn.place.holds second))
            (same_outside (frame_after_pop f n) fixed dyn to n size ∙ p.1);
        low = omega (arith, over);
        high = omega (arith, high);
      }
    where
      high_of : to ≡ m at * 256 + m (suc at) → m at < 256 → m (suc at) < 256 → m at ≡ to / 256
      high_of is first second = omega (arith, is, first, second)

      low_of : to ≡ m at * 256 + m (suc at) → m at < 256 → m (suc at) < 256 → m (suc at) ≡ to % 256
      low_of is first second = omega (arith, is, first, second)

  coarse_case : IsCoarse s u t g loadable leads i turn → IsRowCovered s u t g loadable leads i turn (row i f turn.public turn.around)
  unfolding causes shape
  coarse_case includes =
      let under = is_under f (on_stack tag (n + 2) n) in
      let low0 : Frame = frame_after_pop l n in
      coarse_row s u t g loadable leads i turn false (n == 0) false under (no_access f o 2 || is_outside (frame_after_pop f n) to n) false r was d to n (Writes (address_at l blank at) n (top l n)) (top f n) None
      (rw (← base_operand) includes)
      refl refl (λ e. absurd (cc e)) (λ some allowed under missed range. reached some under missed)

  -- both ways to follow it
  pub storei_covered : Followed s u t g loadable leads i turn (places_from (operand (base s u t g loadable leads i turn).frame tag off (n + 2)) 2) nobody ⊎ IsCoarse s u t g loadable leads i turn
      → IsRowCovered s u t g loadable leads i turn (row i f turn.public turn.around)
  storei_covered o =
      elim o [
        | inl w ↦ few_case w
        | inr includes ↦ coarse_case includes
      ]

storei_case : (tag : ℕ) (off : ℤ) (n : ℕ) → ChoiceCase (ins.Storei tag off n)
storei_case tag off n s u t g loadable leads turn includes =
    storei_covered tag off n s u t g loadable leads turn (few_or_many s u t g loadable leads (ins.Storei tag off n) turn nobody (λ f. refl) (alone turn.place.start) includes)

-- the law of the row
pub store_law : StoreLaw
store_law tag off n = law_by (ins.Storei tag off n) (storei_case tag off n)
