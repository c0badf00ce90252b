-- Rows that write at an address that the stack has: numbers of two bytes of its top decide what is read, how much is
-- written, and where.
use Rattle.std.proofs.Common.{◌≡◌, inl, inr, ℕ, zero, suc, ◌+◌, ◌-◌, ◌*◌, ◌/◌, ◌%◌, ◌<◌, ◌≤◌, Bool, true, false, cond, List, [], ◌∷◌, ◌++◌, length, Option, Some, refl, sym, ap, subst, ◌∙◌, arith}
use Rattle.std.specs.Prelude.{◌&&◌, ◌==◌, not, is_none, nat_lt}
use Rattle.std.proofs.lemmas.Bool.{ltb-true, ltb-false}
use Rattle.law_prove.specs.model_device.specs.Bytes.{AreBytes, zeros}
use Rattle.law_prove.specs.model_machine.specs.declared.instruction.Ins.{Ins}
use Rattle.law_prove.specs.model_machine.specs.declared.machine.Abend.{Abend}
use Rattle.law_prove.specs.model_machine.specs.declared.machine.Abend.TheVariants.{A03, A04, A06, A08, A0A}
use Rattle.law_prove.specs.model_machine.specs.Frame.{Frame, where_is, too_many, is_under, dynamic_base, dynamic_end, frame_after_pop}
use Rattle.law_prove.specs.model_machine.specs.Primitives.{Around, number_below_top}
use Rattle.law_prove.specs.model_machine.specs.Row.{causes, first_cause, row}
use Rattle.law_prove.specs.model_machine.specs.Shapes.{Act, Writes, Shape, shape}
use Rattle.law_prove.specs.model_rules.specs.Rules.{Target}
use Rattle.law_prove.specs.model_prove.specs.Sets.{Set, is_in, numbers_from}
use Rattle.law_prove.specs.model_prove.specs.Facts.{Facts, Memory, values_from}
use Rattle.law_prove.specs.model_prove.specs.Compares.{bytes_from}
use Rattle.law_prove.specs.model_prove.specs.Keys.{Tables}
use Rattle.law_prove.specs.model_prove.specs.Laws.{Among}
use Rattle.law_prove.specs.model_prove.specs.Splits.{top_places, stand_in_stack}
use Rattle.law_prove.specs.model_prove.specs.Work.{Work, Copies, Counted, NoFact, work}
use Rattle.law_prove.specs.model_prove.specs.Reach.{Reach, Coarse, WritesWithin, reach_at, coarse, may_have_bad_length, may_miss, known_causes}
use Rattle.law_prove.specs.model_prove.specs.Arrivals.{Setting, Arrival, fails}
use Rattle.law_prove.specs.model_prove.specs.Steps.{Spot, lowered, any_bytes, counted_sets, acted, with_flags, spots, caused, primitive_of, coarse_for, coarse_done, coarse_around}
use Rattle.law_prove.specs.model_rules.specs.Loadable.{IsLoadable}
use Rattle.law_prove.specs.model_prove.specs.Tables.{includes_all}
use Rattle.law_prove.specs.model_prove.proofs.FactLemmas.{value_holds}
use Rattle.law_prove.specs.Coverings.{parts_memory, frame_memory}
use Rattle.law_prove.specs.Laws.{LeadsInto}
use Rattle.law_prove.proofs.Alike.{Sized}
use Rattle.law_prove.proofs.Moves.{turn_sized, copied_fit}
use Rattle.law_prove.proofs.Plain.{above}
use Rattle.law_prove.proofs.Seen.{FitSets, fit_any, fit_values}
use Rattle.law_prove.proofs.Turns.{NoCause, blank}
use Rattle.law_prove.proofs.Single.{going, Turn, here, there, IsRowCovered}
use Rattle.law_prove.proofs.ReachScenes.{with_bytes, fits_sized, same_outside, few_wait, pair_in, pair_is, same_pair, below_is, stack_inside}
use Rattle.law_prove.proofs.Reached.{is_within}
use Rattle.law_prove.proofs.Choices.{fetched_frame, memory, base, base_fits, Followed, IsCoarse}
use Rattle.law_prove.proofs.Rows.{known_of, causes_but, causes_of, one_led, chosen_there, IsWritten, chosen_row, IsReached, coarse_row}

-- ---- what such a row is

-- numbers on the stack, by how many bytes below its top they begin
abbrev pub Numbers : Type 0
Numbers = ℕ → ℕ

-- two frames have the same ones
abbrev pub Agree : ℕ → Numbers → Numbers → Type 0
Agree most v w = (k : ℕ) → 2 ≤ k → k ≤ most → v k ≡ w k

-- A row that pops bytes, among them the address that it writes to: its causes, what it writes, the flags that it sets,
-- and the lengths that it may have.
pub record Top : Type 0 where
  pub pops : ℕ
  pub to : ℕ
  pub bad : Bool
  pub arg : Bool
  pub denied : ℕ → Bool
  pub missed : Frame → Around → Numbers → Bool
  pub range : Numbers → Bool
  pub count : Around → Numbers → ℕ
  pub bytes : Frame → List ℕ → Around → List ℕ
  pub flags : Bool → Option (Bool × Bool)
  pub task : Numbers → Work
  pub lengths : Facts → ℕ → List ℕ

-- an instruction is one, for those who may have delegated to its frame
pub record IsTop (i : Ins) (o : Top) (fits : Around → Type 0) : Type 0 where
  pub cause : (f : Frame) (public : List ℕ) (x : Around) → fits x → first_cause (causes i f public x)
      ≡ first_cause (causes_of o.arg (o.denied f.deny) (is_under f o.pops) (o.missed (frame_after_pop f o.pops) x (number_below_top f)) (o.range (number_below_top f)) (too_many (frame_after_pop f o.pops) (number_below_top f o.to) (o.count x (number_below_top f))))
  pub known : (f : Frame) (public : List ℕ) (x : Around) → fits x → first_cause (known_causes o.bad (causes i f public x))
      ≡ first_cause (known_of o.arg (o.denied f.deny) (is_under f o.pops) (too_many (frame_after_pop f o.pops) (number_below_top f o.to) (o.count x (number_below_top f))))
  pub shaped : (f : Frame) (public : List ℕ) (x : Around) → fits x → shape i f public x ≡ going (f.dt - o.pops) (Writes (number_below_top f o.to) (o.count x (number_below_top f)) (o.bytes f public x)) (o.flags f.c)
  pub works : (f : Frame) (public : List ℕ) → work i f public ≡ o.task (number_below_top f)
  pub lasts : may_have_bad_length (primitive_of i) ≡ o.bad
  pub reaches : (f : Frame) (k : Facts) → coarse i f k ≡ WritesWithin (reach_at k (f.dt - o.to) (o.lengths k f.dt))
  pub low : 2 ≤ o.to
  pub high : o.to ≤ o.pops
  pub same_missed : (h : Frame) (fixed dyn : List ℕ) (x : Around) (v w : Numbers) → length fixed ≡ length h.fixed → Agree o.pops v w → o.missed (with_bytes h fixed dyn) x v ≡ o.missed h x w
  pub same_range : (v w : Numbers) → Agree o.pops v w → o.range v ≡ o.range w
  pub same_count : (x : Around) (v w : Numbers) → Agree o.pops v w → o.count x v ≡ o.count x w
  pub ranges : (v : Numbers) → o.range v ≡ true → o.bad ≡ true

among_by : (x : Bool) (b k n : ℕ) → nat_lt k b ≡ x → k ≤ b → (suc k ≤ b → Among b (numbers_from (suc k) n)) → Among b (numbers_from k (suc n))
among_by true b k n e low rest = let less = ltb-true k b e in inr (rest (omega (arith, less)))
among_by false b k n e low rest = let more = ltb-false k b e in inl (omega (arith, low, more))

-- a number between two is among those from one to the other
pub among_numbers : (b k n : ℕ) → k ≤ b → b < k + n → Among b (numbers_from k n)
among_numbers b k zero low high = absurd (omega (arith, low, high))
among_numbers b k (suc n) low high = among_by (nat_lt k b) b k n refl low (λ more. among_numbers b (suc k) n more (omega (arith, high)))

under_by : (b : Bool) (xs ys : List (Abend × Bool)) → (b ≡ false → xs ≡ ys) → first_cause ((A04, b) ∷ xs) ≡ first_cause ((A04, b) ∷ ys)
under_by true xs ys same = refl
under_by false xs ys same = ap first_cause (same refl)

module _ (s : Setting) (u t : Tables) (g : Target) (loadable : IsLoadable s.app) (leads : LeadsInto s u t) (i : Ins) (turn : Turn s u i) (o : Top) (fits : Around → Type 0) (top : IsTop i o fits) (real : fits turn.around) where
  abbrev f : Frame
  f = fetched_frame s u t g loadable leads i turn

  abbrev m : Memory
  m = memory s u t g loadable leads i turn

  abbrev d : ℕ
  d = turn.frame.dt - o.pops

  -- the frame without what is popped
  abbrev pub popped : Frame
  popped = frame_after_pop f o.pops

  -- the numbers of the machine
  abbrev pub numbers : Numbers
  numbers = number_below_top f

  -- where it writes, and how much
  abbrev pub to : ℕ
  to = numbers o.to

  -- how much it writes
  abbrev pub count : ℕ
  count = o.count turn.around numbers

  -- its causes, but that too many words wait
  abbrev pub cs : List (Abend × Bool)
  cs = causes_but o.arg (o.denied f.deny) (is_under f o.pops) (o.missed popped turn.around numbers) (o.range numbers)

  sized : Sized f turn.public
  sized = turn_sized s u loadable i turn

  over : is_under f o.pops ≡ false → dynamic_base + turn.frame.session + o.pops ≤ turn.frame.dt
  over none = above f o.pops none

  top_high : turn.frame.dt ≤ dynamic_end
  top_high = turn.place.frame.high

  number_is : (k : ℕ) → is_under f o.pops ≡ false → 2 ≤ k → k ≤ o.pops → numbers k ≡ pair_in m (turn.frame.dt - k)
  number_is k none some most = let enough = over none in below_is f turn.public k sized (omega (arith, enough, most)) some

  -- What a row that has none of these causes writes: bytes, at most 256, whole in a segment, as many as a length that is
  -- reached.
  pub record Ready : Type 0 where
    pub few : count ≤ 256
    pub some : 0 < count
    pub inside : is_none (where_is popped to count) ≡ false
    pub long : length (o.bytes f turn.public turn.around) ≡ count
    pub bytes : AreBytes (o.bytes f turn.public turn.around)
    pub length_in : is_in count (o.lengths turn.place.known.bytes turn.frame.dt) ≡ true
    pub stands : o.count (coarse_around turn.place.start) (number_below_top (base s u t g loadable leads i turn).frame) ≤ 256

  -- ---- few choices

  module _ (x : Around) (good : fits x) (alike : (h : Frame) (v : Numbers) → o.missed h x v ≡ o.missed h turn.around v) (counted : (v : Numbers) → o.count x v ≡ o.count turn.around v)
      (w : Followed s u t g loadable leads i turn (top_places (base s u t g loadable leads i turn).frame o.pops) x) where
    abbrev e : Frame
    e = with_bytes f w.fixed w.dyn

    -- the numbers of the scene
    abbrev pub stood_numbers : Numbers
    stood_numbers = number_below_top e

    -- its numbers are those of the scene
    pub agree : is_under f o.pops ≡ false → Agree o.pops stood_numbers numbers
    agree none k some most =
        let enough : dynamic_base + turn.frame.session + o.pops ≤ turn.frame.dt = over none in
        let highest : turn.frame.dt ≤ dynamic_end = top_high in
        let l : Memory = frame_memory e w.public in
        let a = turn.frame.dt - k in
        let size : length w.fixed ≡ length turn.frame.fixed = w.fits.size in
        let same : (b : ℕ) → turn.frame.dt - o.pops ≤ b → b < turn.frame.dt → l b ≡ m b = λ b low high.
        ap (λ (j : ℕ). parts_memory j w.fixed w.dyn w.public b) size
        ∙ w.agrees b (among_numbers b (turn.frame.dt - o.pops) o.pops low (omega (arith, enough, high))) (stack_inside f b (omega (arith, enough, low)) high)
        in
        let first : l a ≡ m a = same a (omega (arith, most)) (omega (arith, some, enough, most)) in
        let second : l (suc a) ≡ m (suc a) = same (suc a) (omega (arith, most, enough)) (omega (arith, some, enough, most)) in
        below_is e w.public k (fits_sized f w.fixed w.dyn w.public w.fits) (omega (arith, enough, most)) some ∙ (same_pair l m a first second ∙ sym (number_is k none some most))

    -- how many bytes it writes in the scene
    abbrev count0 : ℕ
    count0 = o.count x stood_numbers

    abbrev bytes0 : List ℕ
    bytes0 = o.bytes e w.public x

    abbrev was : Bool
    was = too_many (frame_after_pop e o.pops) to count

    first_same : first_cause (causes i e w.public x) ≡ first_cause (cs ++ (A08, was) ∷ [])
    first_same =
        let low0 : Frame = frame_after_pop e o.pops in
        let size : length w.fixed ≡ length turn.frame.fixed = w.fits.size in
        let rest : Bool → Bool → ℕ → ℕ → List (Abend × Bool) = λ p q a n. (A03, p) ∷ (A06, q) ∷ (A08, too_many low0 a n) ∷ [] in
        top.cause e w.public x good
        ∙ ap (λ (c : Option Abend). cond o.arg (Some A06) (cond (o.denied f.deny) (Some A0A) c))
        (under_by (is_under f o.pops) (rest (o.missed low0 x stood_numbers) (o.range stood_numbers) (stood_numbers o.to) count0) (rest (o.missed popped turn.around numbers) (o.range numbers) to count) (λ none.
        let a : Agree o.pops stood_numbers numbers = agree none in
        ap (λ (p : Bool). rest p (o.range stood_numbers) (stood_numbers o.to) count0) (alike low0 stood_numbers ∙ top.same_missed popped w.fixed w.dyn turn.around stood_numbers numbers size a)
        ∙ (ap (λ (q : Bool). rest (o.missed popped turn.around numbers) q (stood_numbers o.to) count0) (top.same_range stood_numbers numbers a)
        ∙ (ap (λ (j : ℕ). rest (o.missed popped turn.around numbers) (o.range numbers) j count0) (a o.to top.low top.high)
        ∙ ap (λ (n : ℕ). rest (o.missed popped turn.around numbers) (o.range numbers) to n) (counted stood_numbers ∙ top.same_count turn.around stood_numbers numbers a)))))

    -- the causes and the shape of the scene are followed
    followed_is : includes_all t (caused (first_cause (cs ++ (A08, was) ∷ [])) s i (going d (Writes (stood_numbers o.to) count0 bytes0) (o.flags f.c)) (o.task stood_numbers) (here s u t g loadable leads i turn) (chosen_there s u t g loadable leads i turn w.known w.seen)) ≡ true
    followed_is =
        let p : Spot = here s u t g loadable leads i turn in
        let q : Spot = chosen_there s u t g loadable leads i turn w.known w.seen in
        subst (λ (c : Option Abend). includes_all t (caused c s i (going d (Writes (stood_numbers o.to) count0 bytes0) (o.flags f.c)) (o.task stood_numbers) p q) ≡ true) first_same
        (subst (λ (h : Shape). includes_all t (caused (first_cause (causes i e w.public x)) s i h (o.task stood_numbers) p q) ≡ true) (top.shaped e w.public x good)
        (subst (λ (z : Work). includes_all t (caused (first_cause (causes i e w.public x)) s i (shape i e w.public x) z p q) ≡ true) (top.works e w.public) w.is))

    written : (ss : List Set) → (NoCause cs → Ready) → (NoCause cs → FitSets (o.bytes f turn.public turn.around) ss) → NoCause cs
        → IsWritten s u t g loadable leads i turn was d (stood_numbers o.to) to count (o.bytes f turn.public turn.around) ss
    written ss ready fit none =
        let is : Ready = ready none in
        let enough = over none.1.1.0 in
        let highest : turn.frame.dt ≤ dynamic_end = top_high in
        record {
          free = few_wait popped w.fixed w.dyn to count is.few;
          same = agree none.1.1.0 o.to top.low top.high;
          long = is.long;
          fit = fit none;
          some = is.some;
          inside = is.inside;
          low = omega (arith, enough);
          high = omega (arith, highest);
        }

    -- what it does in the scene
    abbrev pub act0 : Act
    act0 = Writes (stood_numbers o.to) count0 bytes0

    -- a work leads to one place, with values of these sets of the bytes that are written
    abbrev pub LeadsTo : Work → List Set → Type 0
    LeadsTo z ss =
        let q : Spot = chosen_there s u t g loadable leads i turn w.known w.seen in
        spots s (going d act0 (o.flags f.c)) z q ≡ with_flags (o.flags f.c) (acted s act0 ss (lowered d q)) ∷ []

    -- a row whose work leads to one place, if what it writes is of these sets
    pub one_row : (ss : List Set) → (NoCause cs → Ready) → LeadsTo (o.task stood_numbers) ss → (NoCause cs → FitSets (o.bytes f turn.public turn.around) ss) → IsRowCovered s u t g loadable leads i turn (row i f turn.public turn.around)
    one_row ss ready one fit =
        let p : Spot = here s u t g loadable leads i turn in
        let q : Spot = chosen_there s u t g loadable leads i turn w.known w.seen in
        chosen_row s u t g loadable leads i turn w.known w.seen cs was d (stood_numbers o.to) count0 to count bytes0 (o.bytes f turn.public turn.around) (o.flags f.c) (o.task stood_numbers) ss followed_is
        (top.cause f turn.public turn.around real) (top.shaped f turn.public turn.around real)
        (λ all. one_led s t i d act0 (o.flags f.c) (o.task stood_numbers) ss p q one all) (written ss ready fit)

    -- a row whose result has no fact
    pub result_row : (NoCause cs → Ready) → o.task stood_numbers ≡ NoFact → (NoCause cs → length bytes0 ≡ count) → IsRowCovered s u t g loadable leads i turn (row i f turn.public turn.around)
    result_row ready task size =
        let b = o.bytes f turn.public turn.around in
        let ss : List Set = any_bytes (length bytes0) in
        one_row ss ready (subst (λ (z : Work). LeadsTo z ss) (sym task) refl) (λ none.
        let is : Ready = ready none in
        subst (λ (n : ℕ). FitSets b (any_bytes n)) (is.long ∙ sym (size none)) (fit_any b is.bytes))

    -- a row whose result stands behind its number
    pub counted_row : (NoCause cs → Ready) → o.task stood_numbers ≡ Counted → (NoCause cs → FitSets (o.bytes f turn.public turn.around) (counted_sets bytes0)) → IsRowCovered s u t g loadable leads i turn (row i f turn.public turn.around)
    counted_row ready task fit = one_row (counted_sets bytes0) ready (subst (λ (z : Work). LeadsTo z (counted_sets bytes0)) (sym task) refl) fit

    -- a row that copies bytes from an address that the stack has
    pub copy_row : (from : ℕ) → 2 ≤ from → from ≤ o.pops → (NoCause cs → Ready) → o.task stood_numbers ≡ Copies (stood_numbers from) → (NoCause cs → o.bytes f turn.public turn.around ≡ bytes_from m (numbers from) count)
        → (NoCause cs → length bytes0 ≡ count) → IsRowCovered s u t g loadable leads i turn (row i f turn.public turn.around)
    copy_row from low high ready task read size =
        let a = stood_numbers from in
        let b = o.bytes f turn.public turn.around in
        let k : Facts = w.known.bytes in
        let ss : List Set = values_from k a (length bytes0) in
        one_row ss ready (subst (λ (z : Work). LeadsTo z ss) (sym task) refl) (λ none.
        subst (λ (j : ℕ). FitSets b (values_from k j (length bytes0))) (sym (agree none.1.1.0 from low high))
        (copied_fit k m (numbers from) count (length bytes0) b (read none) (size none) (fit_values k m (numbers from) count w.seen.holds turn.place.bytes)))

  -- ---- too many choices

  abbrev l : Frame
  l = (base s u t g loadable leads i turn).frame

  abbrev r : Reach
  r = reach_at turn.place.known.bytes (turn.frame.dt - o.to) (o.lengths turn.place.known.bytes turn.frame.dt)

  abbrev far : Around
  far = coarse_around turn.place.start

  abbrev stands : Bool
  stands = too_many (frame_after_pop l o.pops) (number_below_top l o.to) (o.count far (number_below_top l))

  reached : is_under f o.pops ≡ false → Ready → IsReached s u t g loadable leads i turn r stands d to count (o.bytes f turn.public turn.around)
  reached none is =
      let enough = over none in
      let highest : turn.frame.dt ≤ dynamic_end = top_high in
      let fixed = zeros (length turn.frame.fixed) in
      let dyn = stand_in_stack turn.place.calls in
      let size : length fixed ≡ length turn.frame.fixed = (base_fits s u t g loadable leads i turn).size in
      let a = turn.frame.dt - o.to in
      let first : m a < 256 = turn.place.bytes a in
      let second : m (suc a) < 256 = turn.place.bytes (suc a) in
      let number : to ≡ m a * 256 + m (suc a) = number_is o.to none top.low top.high ∙ pair_is m a in
      let some : 0 < count = is.some in
      record {
        free = few_wait popped fixed dyn (number_below_top l o.to) (o.count far (number_below_top l)) is.stands;
        long = is.long;
        bytes = is.bytes;
        some = is.some;
        inside = is.inside;
        within = is_within (record l { dt = d }) r to count is.length_in
            (rw (← high_of (m a) (m (suc a)) number first second) (value_holds turn.place.known.bytes m a turn.place.holds first))
            (rw (← low_of (m a) (m (suc a)) number first second) (value_holds turn.place.known.bytes m (suc a) turn.place.holds second))
            (same_outside popped fixed dyn to count size ∙ outside_by (count == 0) (is_none (where_is popped to count)) is.inside);
        low = omega (arith, enough);
        high = omega (arith, highest);
      }
    where
      high_of : (x y : ℕ) → to ≡ x * 256 + y → x < 256 → y < 256 → x ≡ to / 256
      high_of x y is first second = omega (arith, is, first, second)

      low_of : (x y : ℕ) → to ≡ x * 256 + y → x < 256 → y < 256 → y ≡ to % 256
      low_of x y is first second = omega (arith, is, first, second)

      outside_by : (b c : Bool) → c ≡ false → (not b && c) ≡ false
      outside_by true c e = refl
      outside_by false c e = e

  -- a row of too many choices is covered, if what it writes is ready
  pub coarse_top : IsCoarse s u t g loadable leads i turn → fits far → (NoCause cs → Ready) → IsRowCovered s u t g loadable leads i turn (row i f turn.public turn.around)
  coarse_top includes good ready =
      let p : Spot = here s u t g loadable leads i turn in
      let q : Spot = there s u t g loadable leads i turn in
      let a0 : Act = Writes (number_below_top l o.to) (o.count far (number_below_top l)) (o.bytes l blank far) in
      let arrivals : Shape → Coarse → Bool → Option Abend → List Arrival = λ h c bad first.
      (cond (may_miss (primitive_of i) (coarse_for h.act c)) (fails s p.key p.known A03) []) ++ (cond bad (fails s p.key p.known A06) []) ++ coarse_done first s i (record l { dt = h.dt }) h (coarse_for h.act c) p q
      in
      let shaped : Shape = going d a0 (o.flags f.c) in
      let one = rw top.lasts at includes in
      let two = rw (top.known l blank far good) at one in
      let first = first_cause (known_of o.arg (o.denied f.deny) (is_under f o.pops) stands) in
      let three = subst (λ (h : Shape). includes_all t (arrivals h (coarse i l turn.place.known.bytes) o.bad first) ≡ true) (top.shaped l blank far good) two in
      let four : includes_all t (arrivals shaped (WritesWithin r) o.bad first) ≡ true = subst (λ (c : Coarse). includes_all t (arrivals shaped c o.bad first) ≡ true) (top.reaches l turn.place.known.bytes) three in
      coarse_row s u t g loadable leads i turn o.bad o.arg (o.denied f.deny) (is_under f o.pops) (o.missed popped turn.around numbers) (o.range numbers) r stands d to count a0 (o.bytes f turn.public turn.around) (o.flags f.c) four
      (top.cause f turn.public turn.around real) (top.shaped f turn.public turn.around real) (top.ranges numbers)
      (λ arg allowed under missed range. reached under (ready (arg, (allowed, (under, (missed, (range, tt)))))))
