-- The name of the delegator: of a frame that a delegation began it is written after its length; of another there is none.
use Rattle.std.proofs.Common.{◌≡◌, ◌⊎◌, inl, inr, ℕ, ◌+◌, ◌-◌, ◌≤◌, Bool, true, false, List, [], ◌∷◌, length, Option, Some, None, refl, sym, ap, subst, ◌∙◌, arith}
use Rattle.std.specs.Prelude.{is_some, ⊤}
use Rattle.std.proofs.lemmas.List.{length-replicate}
use Rattle.law_prove.specs.model_device.specs.Bytes.{AreBytes, zeros}
use Rattle.law_prove.specs.model_machine.specs.declared.instruction.Ins.{Ins}
use Rattle.law_prove.specs.model_machine.specs.declared.instruction.Ins.TheVariants as ins
use Rattle.law_prove.specs.model_machine.specs.declared.machine.Abend.{Abend}
use Rattle.law_prove.specs.model_machine.specs.declared.machine.Abend.TheVariants.{A03, A04, A06, A08, A0A}
use Rattle.law_prove.specs.model_machine.specs.Frame.{Frame, is_outside, is_under, too_many, dynamic_end, frame_after_pop}
use Rattle.law_prove.specs.model_machine.specs.Primitives.{Around, Goes, DelegatorAid, has_bit, number_below_top, reported_causes, later_causes}
use Rattle.law_prove.specs.model_machine.specs.Row.{causes, first_cause, row}
use Rattle.law_prove.specs.model_machine.specs.Shapes.{Stays, Writes, Shape, act_effect, delegator_shape, meaning, shape, prim_shape}
use Rattle.law_prove.specs.law_promise.specs.Outline.{Entry, FitsEntry}
use Rattle.law_prove.specs.law_promise.specs.Domain.{IsDelegator}
use Rattle.law_prove.specs.model_rules.specs.Rules.{Target, AppRules}
use Rattle.law_prove.specs.model_rules.specs.Happenings.{Event}
use Rattle.law_prove.specs.model_prove.specs.Sets.{numbers_from}
use Rattle.law_prove.specs.model_prove.specs.Keys.{Start, Delegated, OfClass, Known, Tables, calls_below}
use Rattle.law_prove.specs.model_prove.specs.Laws.{Among}
use Rattle.law_prove.specs.model_prove.specs.Splits.{Scene, top_places}
use Rattle.law_prove.specs.model_prove.specs.Work.{Counted}
use Rattle.law_prove.specs.model_prove.specs.Reach.{Leads, known_causes}
use Rattle.law_prove.specs.model_prove.specs.Arrivals.{Setting, Arrival}
use Rattle.law_prove.specs.model_prove.specs.Steps.{Spot, lowered, counted_sets, acted, with_flags, settled_spot, follows, caused, arounds, coarse_done, coarse_arrivals, coarse_around}
use Rattle.law_prove.specs.model_rules.specs.Loadable.{IsLoadable}
use Rattle.law_prove.specs.model_prove.specs.Tables.{includes_all}
use Rattle.law_prove.specs.model_prove.proofs.SetLemmas.{is_first, is_between}
use Rattle.law_prove.specs.Coverings.{StartsAs}
use Rattle.law_prove.specs.Laws.{LeadsInto}
use Rattle.law_prove.proofs.Closed.{included_first}
use Rattle.law_prove.proofs.Plain.{above}
use Rattle.law_prove.proofs.Seen.{FitSets, Seen, fit_any}
use Rattle.law_prove.proofs.Acts.{spot_of, Led, stays_led, lowered_seen}
use Rattle.law_prove.proofs.Turns.{NoCause, nobody, walked}
use Rattle.law_prove.proofs.Single.{going, Turn, here, there, IsRowCovered, row_is, low_frame, low_framed}
use Rattle.law_prove.specs.ReachLaws.{DelegatorLaw}
use Rattle.law_prove.proofs.ReachScenes.{with_bytes, same_outside}
use Rattle.law_prove.proofs.Choices.{fetched_frame, base, Followed, IsCoarse, IsBy, few_or_many, law_with}
use Rattle.law_prove.proofs.Rows.{chosen_there, led_row}
use Rattle.law_prove.proofs.Tops.{Top, IsTop, Ready, cs, among_numbers, counted_row, coarse_top}
use Rattle.law_prove.proofs.Accesses.{inside_of, not_zero}
use Rattle.law_prove.proofs.Blocks.{among_mapped}

-- ---- names

-- there is a name
abbrev IsNamed : Option (List ℕ) → Type 0
IsNamed None = ⊥
IsNamed (Some name) = ⊤

abbrev size_of : Option (List ℕ) → ℕ
size_of None = 0
size_of (Some name) = length name

-- its length, and the name
abbrev report : Option (List ℕ) → List ℕ
report None = []
report (Some name) = length name ∷ name

abbrev HasName : Around → Type 0
HasName x = IsNamed x.delegator

report_length : (o : Option (List ℕ)) → IsNamed o → length (report o) ≡ 1 + size_of o
report_length None h = absurd h
report_length (Some name) h = omega arith

report_bytes : (o : Option (List ℕ)) → IsNamed o → IsDelegator o → AreBytes (report o)
report_bytes None h names = absurd h
report_bytes (Some name) h names = let most : length name ≤ 16 = names.most in (omega (arith, most), names.bytes)

-- It is of the sets that a name of as many zeros leaves: its length is the same, and its bytes have no fact.
report_fits : (o : Option (List ℕ)) → IsNamed o → IsDelegator o → FitSets (report o) (counted_sets (report (Some (zeros (size_of o)))))
report_fits o h names = grind (arith, length-replicate, is_first, fit_any)

size_least : (o : Option (List ℕ)) → IsNamed o → IsDelegator o → 5 ≤ size_of o
size_least None h names = absurd h
size_least (Some name) h names = names.least

size_most : (o : Option (List ℕ)) → IsDelegator o → size_of o ≤ 16
size_most None names = omega arith
size_most (Some name) names = names.most

-- ---- the row with a name

abbrev reporting : Top
reporting =
    record {
      pops = 2;
      to = 2;
      bad = false;
      arg = false;
      denied = λ deny. has_bit deny 4;
      missed = λ h x v. is_outside h (v 2) (1 + size_of x.delegator);
      range = λ v. false;
      count = λ x v. 1 + size_of x.delegator;
      bytes = λ f public x. report x.delegator;
      flags = λ c. Some (c, false);
      task = λ v. Counted;
      lengths = λ k dt. numbers_from 6 12;
    }

first_reported : (den under : Bool) (g : Frame) (a : ℕ) (o : Option (List ℕ)) → IsNamed o → first_cause ((A06, false) ∷ (A0A, den) ∷ (A04, under) ∷ reported_causes g a o)
    ≡ first_cause ((A06, false) ∷ (A0A, den) ∷ (A04, under) ∷ (A03, is_outside g a (1 + size_of o)) ∷ (A06, false) ∷ (A08, too_many g a (1 + size_of o)) ∷ [])
first_reported den under g a None h = absurd h
first_reported den under g a (Some name) h = refl

known_reported : (den under : Bool) (g : Frame) (a : ℕ) (o : Option (List ℕ)) → IsNamed o → first_cause (known_causes false ((A06, false) ∷ (A0A, den) ∷ (A04, under) ∷ reported_causes g a o))
    ≡ first_cause ((A06, false) ∷ (A0A, den) ∷ (A04, under) ∷ (A08, too_many g a (1 + size_of o)) ∷ [])
known_reported den under g a None h = absurd h
known_reported den under g a (Some name) h = refl

reported_shape : (f : Frame) (o : Option (List ℕ)) → IsNamed o → delegator_shape f o ≡ going (f.dt - 2) (Writes (number_below_top f 2) (1 + size_of o) (report o)) (Some (f.c, false))
reported_shape f None h = absurd h
reported_shape f (Some name) h = refl

reporting_top : (args : List ℕ) → IsTop (ins.Prim 0 8 args) reporting HasName
unfolding causes shape later_causes prim_shape
reporting_top args =
    record {
      cause = λ f public x good. first_reported (has_bit f.deny 4) (is_under f 2) (frame_after_pop f 2) (number_below_top f 2) x.delegator good;
      known = λ f public x good. known_reported (has_bit f.deny 4) (is_under f 2) (frame_after_pop f 2) (number_below_top f 2) x.delegator good;
      shaped = λ f public x good. reported_shape f x.delegator good;
      works = λ f public. refl;
      lasts = refl;
      reaches = λ f k. refl;
      low = omega arith;
      high = omega arith;
      same_missed = λ h fixed dyn x v w size a.
          ap (λ (y : ℕ). is_outside (with_bytes h fixed dyn) y (1 + size_of x.delegator)) (a 2 (omega arith) (omega arith)) ∙ same_outside h fixed dyn (w 2) (1 + size_of x.delegator) size;
      same_range = λ v w a. refl;
      same_count = λ x v w a. refl;
      ranges = λ v e. absurd (cc e);
    }

-- who stands for a delegator with a name of n bytes
abbrev named : ℕ → Around
named n = record { case = 1; delegator = Some (zeros n) }

named_among : (n : ℕ) → 5 ≤ n → n ≤ 16 → Among (named n) (arounds Delegated (Some DelegatorAid))
named_among n least most = among_mapped named n (numbers_from 5 12) (among_numbers n 5 12 least (omega (arith, most)))

-- ---- who delegated

-- a frame that a delegation began has a delegator, and another has none
abbrev Delegates : Start → Option (List ℕ) → Type 0
Delegates Delegated o = IsNamed o
Delegates (OfClass class) o = o ≡ None

some_named : (o : Option (List ℕ)) → is_some o ≡ true → IsNamed o
some_named None e = absurd (cc e)
some_named (Some name) e = tt

delegates : (r : AppRules) (e : Entry Event) (start : Start) (x : Around) → StartsAs r e start → FitsEntry e x → Delegates start x.delegator
delegates r e start x starts fits = grind (arith, some_named)

module _ (args : List ℕ) (s : Setting) (u t : Tables) (g : Target) (loadable : IsLoadable s.app) (leads : LeadsInto s u t) (turn : Turn s u (ins.Prim 0 8 args)) (names : IsDelegator turn.around.delegator) where
  abbrev i : Ins
  i = ins.Prim 0 8 args

  abbrev f : Frame
  f = fetched_frame s u t g loadable leads i turn

  abbrev places : List ℕ
  places = top_places (base s u t g loadable leads i turn).frame 2

  abbrev Covered : Type 0
  Covered = IsRowCovered s u t g loadable leads i turn (row i f turn.public turn.around)

  -- ---- with a name

  module _ (has : HasName turn.around) where
    abbrev n : ℕ
    n = size_of turn.around.delegator

    abbrev named_causes : List (Abend × Bool)
    named_causes = cs s u t g loadable leads i turn reporting HasName (reporting_top args) has

    stood_size : length (zeros n) ≡ n
    stood_size = length-replicate {A = ℕ} n 0

    stands_few : (start : Start) → 1 + size_of (coarse_around start).delegator ≤ 256
    stands_few Delegated = omega arith
    stands_few (OfClass class) = omega arith

    named_ready : NoCause named_causes → Ready s u t g loadable leads i turn reporting HasName (reporting_top args) has
    named_ready none = grind (arith, size_least, size_most, report_length, report_bytes, is_between, stands_few, inside_of, not_zero)

    named_few : Followed s u t g loadable leads i turn places (named n) → Covered
    named_few w =
        counted_row s u t g loadable leads i turn reporting HasName (reporting_top args) has (named n) tt
        (λ h v. ap (λ (k : ℕ). is_outside h (v 2) (1 + k)) stood_size) (λ v. ap (λ (k : ℕ). 1 + k) stood_size) w named_ready refl
        (λ none. report_fits turn.around.delegator has names)

    named_covered : Followed s u t g loadable leads i turn places (named n) ⊎ IsCoarse s u t g loadable leads i turn → turn.place.start ≡ Delegated → Covered
    named_covered o start =
        elim o [
          | inl w ↦ named_few w
          | inr includes ↦ coarse_top s u t g loadable leads i turn reporting HasName (reporting_top args) has includes (subst (λ (z : Start). HasName (coarse_around z)) (sym start) tt) named_ready
        ]

  -- ---- without one

  abbrev d : ℕ
  d = turn.frame.dt - 2

  abbrev unnamed : List (Abend × Bool)
  unnamed = (A06, false) ∷ (A0A, has_bit f.deny 4) ∷ (A04, is_under f 2) ∷ []

  abbrev quiet : Shape
  quiet = going d Stays (Some (f.c, true))

  module _ (none_named : turn.around.delegator ≡ None) where
    real_causes : causes i f turn.public turn.around ≡ unnamed
    unfolding causes later_causes
    real_causes = ap (λ (o : Option (List ℕ)). (A06, false) ∷ (A0A, has_bit f.deny 4) ∷ (A04, is_under f 2) ∷ reported_causes (frame_after_pop f 2) (number_below_top f 2) o) none_named

    real_shape : shape i f turn.public turn.around ≡ quiet
    unfolding shape prim_shape
    real_shape = ap (λ (o : Option (List ℕ)). delegator_shape f o) none_named

    -- DT without the address, at a place that is known
    quiet_led : (k : Known) → Seen turn.place.calls k f turn.public → is_under f 2 ≡ false
        → Led s turn.place.start turn.place.standing.allowances (acted s Stays [] (lowered d (spot_of turn.place.start turn.place.standing.allowances f turn.place.calls k))) false (act_effect Stays (low_frame s u t g loadable leads i turn d) turn.public)
    quiet_led k seen under =
        let st = turn.place.start in
        let al = turn.place.standing.allowances in
        let enough = above f 2 under in
        let high : turn.frame.dt ≤ dynamic_end = turn.place.frame.high in
        stays_led s loadable.static st al (low_frame s u t g loadable leads i turn d) turn.public (calls_below d turn.place.calls) (lowered d (spot_of st al f turn.place.calls k)).known []
        (low_framed s u t g loadable leads i turn d (omega (arith, enough)) (omega (arith, high))) (lowered_seen d st al f turn.public turn.place.calls k seen)

    quiet_row : (k : Known) (seen : Seen turn.place.calls k f turn.public)
        → includes_all t (caused (first_cause unnamed) s i quiet Counted (here s u t g loadable leads i turn) (chosen_there s u t g loadable leads i turn k seen)) ≡ true → Covered
    quiet_row k seen includes =
        let p : Spot = here s u t g loadable leads i turn in
        let q : Spot = chosen_there s u t g loadable leads i turn k seen in
        let r : Spot = acted s Stays [] (lowered d q) in
        let one : List Arrival = follows s i false Goes p (settled_spot s (with_flags (Some (f.c, true)) r)) in
        subst (IsRowCovered s u t g loadable leads i turn) (row_is s u t g loadable leads i turn unnamed quiet real_causes real_shape)
        (walked s u t g loadable leads turn.entry turn.history turn.frame turn.public turn.depth turn.place turn.deep i q unnamed quiet Counted (meaning quiet f turn.public) includes
        (λ none all. led_row s u t g loadable leads i turn d Stays (Some (f.c, true)) r false real_shape (quiet_led k seen none.1.1.0) (included_first t one [] all)))

    quiet_few : Followed s u t g loadable leads i turn places nobody → Covered
    unfolding causes later_causes shape prim_shape
    quiet_few w = quiet_row w.known w.seen w.is

    quiet_seen : Seen turn.place.calls turn.place.known f turn.public
    quiet_seen = record { open_calls = turn.place.open_calls; holds = turn.place.holds; compares = turn.place.compares; keeps = λ on session d. turn.place.keeps session d }

    quiet_by : (den under : Bool) (e : Frame) (p q : Spot) → includes_all t (coarse_done (first_cause ((A06, false) ∷ (A0A, den) ∷ (A04, under) ∷ [])) s i e quiet Leads p q) ≡ true
        → includes_all t (caused (first_cause ((A06, false) ∷ (A0A, den) ∷ (A04, under) ∷ [])) s i quiet Counted p q) ≡ true
    quiet_by den under e p q h = grind arith

    quiet_coarse : (class : List Bool) → turn.place.start ≡ OfClass class → IsCoarse s u t g loadable leads i turn → Covered
    unfolding causes later_causes shape prim_shape
    quiet_coarse class start includes =
        let p : Spot = here s u t g loadable leads i turn in
        let q : Spot = there s u t g loadable leads i turn in
        let b : Scene = base s u t g loadable leads i turn in
        let two : includes_all t (coarse_arrivals s i b p q nobody) ≡ true = subst (λ (z : Start). includes_all t (coarse_arrivals s i b p q (coarse_around z)) ≡ true) start includes in
        quiet_row turn.place.known quiet_seen (quiet_by (has_bit f.deny 4) (is_under f 2) (record b.frame { dt = d }) p q two)

    quiet_covered : (class : List Bool) → turn.place.start ≡ OfClass class → Followed s u t g loadable leads i turn places nobody ⊎ IsCoarse s u t g loadable leads i turn → Covered
    quiet_covered class start o = grind (arith, quiet_few, quiet_coarse)

  -- ---- each

  by_start : (start : Start) → turn.place.start ≡ start → Delegates start turn.around.delegator → IsBy s u t g loadable leads i turn false → Covered
  by_start Delegated e has includes =
      let least = size_least turn.around.delegator has names in
      let most = size_most turn.around.delegator names in
      named_covered has (few_or_many s u t g loadable leads i turn (named (size_of turn.around.delegator)) (λ f. refl)
      (rw e (named_among (size_of turn.around.delegator) least most)) includes) e
  by_start (OfClass class) e none includes =
      quiet_covered none class e (few_or_many s u t g loadable leads i turn nobody (λ f. refl) (rw e (inl refl)) includes)

  -- the primitive that writes the name of the delegator is covered in each of its turns
  pub delegator_covered : IsBy s u t g loadable leads i turn false → Covered
  delegator_covered includes = by_start turn.place.start refl (delegates s.rules turn.entry turn.place.start turn.around turn.place.starts turn.fits) includes

-- that primitive has its law
pub delegator_law : DelegatorLaw
delegator_law args = law_with (ins.Prim 0 8 args) (λ s u t g loadable leads turn names includes. delegator_covered args s u t g loadable leads turn names includes)
