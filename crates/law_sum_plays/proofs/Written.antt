-- Rows that pop numbers, among them the address that they write to.
use Rattle.std.proofs.Common.{◌≡◌, inl, inr, ℕ, suc, ◌+◌, ◌-◌, ◌*◌, ◌≤◌, true, false, List, length, Option, None, refl, sym, ap, subst, ◌∙◌, arith}
use Rattle.std.specs.Prelude.{◌==◌, is_none}
use Rattle.law_sums.specs.model_machine.specs.declared.instruction.Ins.{Ins}
use Rattle.law_sums.specs.model_machine.specs.Frame.{Frame, where_is, is_outside, dynamic_base, dynamic_end, frame_after_pop}
use Rattle.law_sums.specs.model_machine.specs.Primitives.{Around, Goes, number_below_top}
use Rattle.law_sums.specs.model_machine.specs.Row.{causes}
use Rattle.law_sums.specs.model_machine.specs.Shapes.{Act, Writes, Shape, shape}
use Rattle.law_sums.specs.model_rules.specs.Keeping.{mode_of}
use Rattle.law_sums.specs.model_prove.specs.Sets.{is_in}
use Rattle.law_sums.specs.model_prove.specs.Facts.{Facts, Memory}
use Rattle.law_sums.specs.model_prove.specs.Keys.{Start, Tables}
use Rattle.law_sums.specs.model_prove.specs.Laws.{Among}
use Rattle.law_sums.specs.model_prove.specs.Splits.{top_places, deciders}
use Rattle.law_sums.specs.model_prove.specs.Reach.{Coarse, WritesWithin, reach_at, coarse, takes_target}
use Rattle.law_sums.specs.model_prove.specs.Work.{Work, work}
use Rattle.law_sums.specs.model_prove.specs.Arrivals.{Setting}
use Rattle.law_sums.specs.model_prove.specs.Steps.{arounds, primitive_of, coarse_for, coarse_around}
use Rattle.law_prove_closed.specs.law_prove.proofs.Alike.{Sized}
use Rattle.law_prove_closed.specs.law_prove.proofs.Turns.{NoCause, nobody}
use Rattle.law_prove_closed.specs.law_prove.proofs.ReachScenes.{with_bytes, Fits, pair_is, below_is}
use Rattle.law_prove_closed.specs.law_prove.proofs.Reached.{IsWithin}
use Rattle.law_prove_closed.specs.law_prove.proofs.Accesses.{inside_of}
use Rattle.law_prove_closed.specs.law_prove.proofs.Tops.{Agree}
use Rattle.law_sums.specs.model_sums.specs.Sums.{SumsTable}
use Rattle.law_sums.specs.TurnLaws.{row_sums}
use Rattle.law_sum_plays.specs.Rows.{AreStatic}
use Rattle.law_sum_plays.proofs.Moved.{shape_of, SameIf}
use Rattle.law_sum_plays.proofs.Scenes.{Step, fetched, memory, base, sized, Found, IsCoarse, few_or_many}
use Rattle.law_sum_plays.proofs.Rows.{unprotected, IsWork, IsCoarsely, Compared, row_done, few_compared, stood, stood_shape, coarse_compared, StepCase}
use Rattle.law_sum_plays.proofs.Plain.{dt_high}
use Rattle.law_sum_plays.proofs.Addresses.{numbers_agree, pair_within}

-- A row that pops bytes and writes others at the address `to` bytes below the top of the stack.
pub record IsWriting (i : Ins) (pops to : ℕ) (count : Frame → ℕ) (bytes : Frame → List ℕ → List ℕ) (lengths : Facts → ℕ → List ℕ) (task : Frame → Work) : Type 0 where
  pub form : (f : Frame) (public : List ℕ) (x : Around) → shape i f public x ≡ shape_of (f.dt - pops) (Writes (number_below_top f to) (count f) (bytes f public)) None Goes
  pub works : (f : Frame) (public : List ℕ) → work i f public ≡ task f
  pub places : (f : Frame) → deciders i f ≡ top_places f pops
  pub rough : (f : Frame) (k : Facts) → coarse i f k ≡ WritesWithin (reach_at k (f.dt - to) (lengths k f.dt))
  pub alone : (st : Start) → Among nobody (arounds st (primitive_of i))
  pub takes : takes_target i ≡ false
  pub mode : mode_of i ≡ None
  pub least : 2 ≤ to
  pub most : to ≤ pops

module _ (i : Ins) (pops to : ℕ) (count : Frame → ℕ) (bytes : Frame → List ℕ → List ℕ) (lengths : Facts → ℕ → List ℕ) (task : Frame → Work) (is : IsWriting i pops to count bytes lengths task) where
  -- What such a row writes in a turn: bytes in a segment, as many as one of the lengths, as many in each scene that has
  -- its numbers.
  pub record Ready (s : Setting) (t : Tables) (u : SumsTable) (step : Step s t u i) (static : AreStatic s s.rules.totals) : Type 0 where
    pub over : dynamic_base + pops ≤ step.frame.dt
    pub some : (count (fetched s t u i step) == 0) ≡ false
    pub inside : is_outside (frame_after_pop (fetched s t u i step) pops) (number_below_top (fetched s t u i step) to) (count (fetched s t u i step)) ≡ false
    pub long : length (bytes (fetched s t u i step) step.public) ≡ count (fetched s t u i step)
    pub length_in : is_in (count (fetched s t u i step)) (lengths step.place.known.bytes step.frame.dt) ≡ true
    pub counts : (fixed dyn : List ℕ) → Agree pops (number_below_top (with_bytes (fetched s t u i step) fixed dyn)) (number_below_top (fetched s t u i step)) → count (with_bytes (fetched s t u i step) fixed dyn) ≡ count (fetched s t u i step)
    pub tasks : (fixed dyn : List ℕ) → Agree pops (number_below_top (with_bytes (fetched s t u i step) fixed dyn)) (number_below_top (fetched s t u i step)) → task (with_bytes (fetched s t u i step) fixed dyn) ≡ task (fetched s t u i step)
    pub stands : (fixed dyn public : List ℕ) → Fits (fetched s t u i step) fixed dyn public → Agree pops (number_below_top (with_bytes (fetched s t u i step) fixed dyn)) (number_below_top (fetched s t u i step))
        → length (bytes (with_bytes (fetched s t u i step) fixed dyn) public) ≡ count (fetched s t u i step)
    pub same : (b : List ℕ) → length b ≡ length (bytes (fetched s t u i step) step.public)
        → SameIf (task (fetched s t u i step)) i (Writes (number_below_top (fetched s t u i step) to) (count (fetched s t u i step)) (bytes (fetched s t u i step) step.public)) b
    pub fits : IsWork s t u i step static (step.frame.dt - pops) (task (fetched s t u i step)) (Writes (number_below_top (fetched s t u i step) to) (count (fetched s t u i step)) (bytes (fetched s t u i step) step.public))

  module _ (s : Setting) (t : Tables) (u : SumsTable) (step : Step s t u i) (static : AreStatic s s.rules.totals) where
    abbrev f : Frame
    f = fetched s t u i step

    abbrev d : ℕ
    d = step.frame.dt - pops

    abbrev at : ℕ
    at = number_below_top f to

    abbrev n : ℕ
    n = count f

    abbrev b : List ℕ
    b = bytes f step.public

    abbrev a : Act
    a = Writes at n b

    few_writes : (z : Found s t u i step (top_places (base s t u i step).frame pops) nobody) → Ready s t u step static → Compared s t u i step static d a None Goes
    few_writes z r =
        let e : Frame = with_bytes f z.fixed z.dyn in
        let over : dynamic_base + pops ≤ step.frame.dt = r.over in
        let high : step.frame.dt ≤ dynamic_end = dt_high s t u step in
        let agree : Agree pops (number_below_top e) (number_below_top f) = numbers_agree i s t u step pops nobody z over in
        let b0 = bytes e z.public in
        let stands : shape i e z.public nobody ≡ shape_of d (Writes at n b0) None Goes = grind (arith, nobody, shape_of) in
        let works : work i e z.public ≡ task f = is.works e z.public ∙ r.tasks z.fixed z.dyn agree in
        let long0 : length b0 ≡ length b = r.stands z.fixed z.dyn z.public z.fits agree ∙ sym r.long in
        few_compared s t u i step static (top_places (base s t u i step).frame pops) nobody z d a None Goes
        (record {
          bytes = b0;
          to = 0;
          flags = None;
          later = Goes;
          stands = stands;
          same = subst (λ (w : Work). SameIf w i a b0) (sym works) (r.same b0 long0);
          low = omega (arith, over);
          high = omega (arith, high);
          fits = subst (λ (w : Work). IsWork s t u i step static d w a) (sym works) r.fits;
          next = ap (λ (h : Shape). h.next) stands;
        })

    many_writes : IsCoarse s t u i step → Ready s t u step static → Compared s t u i step static d a None Goes
    many_writes coarse_so r =
        let e : Frame = stood s t u i step static in
        let z : Sized f step.public = sized s t u i step in
        let over : dynamic_base + pops ≤ step.frame.dt = r.over in
        let high : step.frame.dt ≤ dynamic_end = dt_high s t u step in
        let most : to ≤ pops = is.most in
        let m : Memory = memory s t u i step in
        let p = step.frame.dt - to in
        let k : Facts = step.place.known.bytes in
        let address : at ≡ m p * 256 + m (suc p) = below_is f step.public to z (omega (arith, over, most)) is.least ∙ pair_is m p in
        let reached : IsWithin (record e { dt = d }) (reach_at k p (lengths k step.frame.dt)) at n = pair_within i s t u step at p n d (lengths k step.frame.dt) address r.length_in r.inside in
        let within : is_none (where_is (record f { dt = d }) at n) ≡ false = inside_of (n == 0) (is_none (where_is (record f { dt = d }) at n)) r.some r.inside in
        let shaped : stood_shape s t u i step static ≡ shape_of d (Writes (number_below_top e to) (count e) (bytes e (base s t u i step).public)) None Goes = is.form e (base s t u i step).public (coarse_around step.place.start) in
        let c : coarse_for (stood_shape s t u i step static).act (coarse i e k) ≡ WritesWithin (reach_at k p (lengths k step.frame.dt)) = grind arith in
        coarse_compared s t u i step static coarse_so d a None Goes
        (record {
          dt = ap (λ (h : Shape). h.dt) shaped;
          low = omega (arith, over);
          high = omega (arith, high);
          fits = subst (λ (c : Coarse). IsCoarsely s t u i step static d e c a) (sym c) (record {
            at = at;
            n = n;
            bytes = b;
            is = refl;
            inside = subst (λ (j : ℕ). is_none (where_is (record f { dt = d }) at j) ≡ false) (sym r.long) within;
            within = subst (λ (j : ℕ). IsWithin (record e { dt = d }) (reach_at k p (lengths k step.frame.dt)) at j) (sym r.long) reached;
          });
          next = ap (λ (h : Shape). h.next) shaped;
        })

  -- the row, if what it writes is ready
  pub writing_case : ((s : Setting) (t : Tables) (u : SumsTable) (step : Step s t u i) (static : AreStatic s s.rules.totals) → NoCause (causes i (fetched s t u i step) step.public step.around) → Ready s t u step static) → StepCase i
  writing_case ready s t u step static =
      row_done s t u i step static (d s t u step static) (a s t u step static) None Goes (is.form (fetched s t u i step) step.public step.around)
      (sym (ap (λ (m : Option ℕ). row_sums step.frame.protected m step.place.standing) is.mode ∙ unprotected step.frame.protected step.place.standing)) (λ free.
      elim (few_or_many s t u i step nobody (is.alone step.place.start) is.takes) [
        | inl z ↦ few_writes s t u step static (subst (λ (l : List ℕ). Found s t u i step l nobody) (is.places (base s t u i step).frame) z) (ready s t u step static free)
        | inr coarse_so ↦ many_writes s t u step static coarse_so (ready s t u step static free)
      ])
