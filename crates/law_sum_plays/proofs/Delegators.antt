-- The primitive that writes the name of the delegator: of a frame that a delegation began, and of another.
use Rattle.std.proofs.Common.{◌≡◌, inl, inr, ℕ, suc, ◌+◌, ◌-◌, ◌*◌, ◌≤◌, true, false, List, [], ◌∷◌, length, Option, Some, None, refl, sym, ap, subst, ◌∙◌, arith}
use Rattle.std.specs.Prelude.{◌==◌, is_none, is_some}
use Rattle.std.proofs.lemmas.List.{length-replicate}
use Rattle.law_sums.specs.model_device.specs.Bytes.{zeros}
use Rattle.law_sums.specs.model_machine.specs.declared.instruction.Ins.{Ins}
use Rattle.law_sums.specs.model_machine.specs.declared.instruction.Ins.TheVariants as ins
use Rattle.law_sums.specs.model_machine.specs.declared.machine.Abend.TheVariants.{A04, A06, A0A}
use Rattle.law_sums.specs.model_machine.specs.Frame.{Frame, where_is, is_under, frame_after_pop}
use Rattle.law_sums.specs.model_machine.specs.Primitives.{Around, Goes, DelegatorAid, later_causes, reported_causes, number_below_top, has_bit}
use Rattle.law_sums.specs.model_machine.specs.Row.{causes, row}
use Rattle.law_sums.specs.law_rows.specs.Keeping.{OnDone}
use Rattle.law_sums.specs.model_machine.specs.Shapes.{Act, Stays, Writes, Shape, shape, prim_shape, delegator_shape}
use Rattle.law_sums.specs.law_bytes.specs.OfChains.{IsName}
use Rattle.law_sums.specs.law_promise.specs.Outline.{Entry, BySelection, ByDelegation, FitsEntry}
use Rattle.law_sums.specs.law_promise.specs.Domain.{IsDelegator}
use Rattle.law_sums.specs.model_rules.specs.Rules.{AppRules}
use Rattle.law_sums.specs.model_rules.specs.Happenings.{Event}
use Rattle.law_sums.specs.model_prove.specs.Sets.{numbers_from}
use Rattle.law_sums.specs.model_prove.specs.Facts.{Facts, Memory}
use Rattle.law_sums.specs.model_prove.specs.Keys.{Start, Delegated, OfClass, Tables}
use Rattle.law_sums.specs.model_prove.specs.Laws.{Among}
use Rattle.law_sums.specs.model_prove.specs.Splits.{top_places}
use Rattle.law_sums.specs.model_prove.specs.Reach.{reach_at, coarse}
use Rattle.law_sums.specs.model_prove.specs.Arrivals.{Setting}
use Rattle.law_sums.specs.model_prove.specs.Steps.{arounds, coarse_for, coarse_around}
use Rattle.law_sums.specs.model_prove.proofs.SetLemmas.{is_between}
use Rattle.law_prove_closed.specs.law_prove.specs.Coverings.{StartsAs}
use Rattle.law_prove_closed.specs.law_prove.proofs.Plain.{above}
use Rattle.law_prove_closed.specs.law_prove.proofs.Turns.{NoCause, nobody}
use Rattle.law_prove_closed.specs.law_prove.proofs.ReachScenes.{with_bytes, pair_is, below_is}
use Rattle.law_prove_closed.specs.law_prove.proofs.Reached.{IsWithin}
use Rattle.law_prove_closed.specs.law_prove.proofs.Accesses.{inside_of, not_zero}
use Rattle.law_prove_closed.specs.law_prove.proofs.Tops.{Agree, among_numbers}
use Rattle.law_sums.specs.model_sums.specs.Sums.{SumsTable}
use Rattle.law_sum_plays.specs.Rows.{AreStatic}
use Rattle.law_sum_plays.proofs.Moved.{shape_of}
use Rattle.law_sum_plays.proofs.Scenes.{Step, fetched, memory, base, sized, Found, IsCoarse, few_or_many}
use Rattle.law_sum_plays.proofs.Rows.{unprotected, Moves, IsCoarsely, Compared, row_done, few_compared, stood, stood_shape, coarse_compared, StepCase}
use Rattle.law_sum_plays.proofs.Plain.{dt_high, pop_low, pop_high}
use Rattle.law_sum_plays.proofs.Addresses.{numbers_agree, pair_within}
use Rattle.law_prove_closed.specs.law_prove.proofs.Blocks.{among_mapped}

-- ---- who is around

none_among : (r : AppRules) (e : Entry Event) (st : Start) (x : Around) → StartsAs r e st → FitsEntry e x → x.delegator ≡ None → Among nobody (arounds st (Some DelegatorAid)) × ((coarse_around st).delegator ≡ None)
none_among r (BySelection bytes apdu before) (OfClass class) x starts fits is = (inl refl, refl)
none_among r (BySelection bytes apdu before) Delegated x starts fits is = absurd starts
none_among r ByDelegation (OfClass class) x starts fits is = absurd starts
none_among r ByDelegation Delegated x starts fits is = absurd (cc (sym fits ∙ ap (λ (o : Option (List ℕ)). is_some o) is))

-- a name of as many zeros
abbrev named : ℕ → Around
named n = record { case = 1; delegator = Some (zeros n) }

some_among : (r : AppRules) (e : Entry Event) (st : Start) (x : Around) (name : List ℕ) → StartsAs r e st → FitsEntry e x → x.delegator ≡ Some name → IsName name
    → Among (named (length name)) (arounds st (Some DelegatorAid)) × ((coarse_around st).delegator ≡ Some (zeros 5))
some_among r (BySelection bytes apdu before) st x name starts fits is names = absurd (cc (sym is ∙ fits.1))
some_among r ByDelegation (OfClass class) x name starts fits is names = absurd starts
some_among r ByDelegation Delegated x name starts fits is names =
    let least : 5 ≤ length name = names.least in
    let most : length name ≤ 16 = names.most in
    (among_mapped named (length name) (numbers_from 5 12) (among_numbers (length name) 5 12 least (omega (arith, most))), refl)

module _ (args : List ℕ) (s : Setting) (t : Tables) (u : SumsTable) (step : Step s t u (ins.Prim 0 8 args)) (static : AreStatic s s.rules.totals) where
  abbrev i : Ins
  i = ins.Prim 0 8 args

  abbrev f : Frame
  f = fetched s t u i step

  abbrev d : ℕ
  d = step.frame.dt - 2

  -- ---- nobody delegated

  without_name : step.around.delegator ≡ None → OnDone (row i f step.public step.around) (Moves s t u i step static)
  unfolding causes shape later_causes prim_shape
  without_name is =
      let who = none_among s.rules step.entry step.place.start step.around step.place.starts step.fits is in
      row_done s t u i step static d Stays (Some (f.c, true)) Goes (ap (delegator_shape f) is) (sym (unprotected step.frame.protected step.place.standing)) (λ free.
      elim (few_or_many s t u i step nobody who.0 refl) [
        | inl z ↦
            few_compared s t u i step static (top_places (base s t u i step).frame 2) nobody z d Stays (Some (f.c, true)) Goes
            (record {
              bytes = [];
              to = 0;
              flags = Some (f.c, true);
              later = Goes;
              stands = refl;
              same = tt;
              low = pop_low step.frame 2 free.1.1.0;
              high = pop_high step.frame.dt 2 (dt_high s t u step);
              fits = (tt, refl);
              next = refl;
            })
        | inr many ↦
            let e : Frame = stood s t u i step static in
            let shaped : stood_shape s t u i step static ≡ shape_of d Stays (Some (f.c, true)) Goes = ap (delegator_shape e) who.1 in
            coarse_compared s t u i step static many d Stays (Some (f.c, true)) Goes
            (record {
              dt = ap (λ (h : Shape). h.dt) shaped;
              low = pop_low step.frame 2 free.1.1.0;
              high = pop_high step.frame.dt 2 (dt_high s t u step);
              fits = subst (λ (h : Shape). IsCoarsely s t u i step static d e (coarse_for h.act (coarse i e step.place.known.bytes)) Stays) (sym shaped) refl;
              next = ap (λ (h : Shape). h.next) shaped;
            })
      ])

  -- ---- a name

  module _ (name : List ℕ) (is : step.around.delegator ≡ Some name) (names : IsName name) where
    abbrev n : ℕ
    n = 1 + length name

    abbrev at : ℕ
    at = number_below_top f 2

    abbrev b : List ℕ
    b = length name ∷ name

    abbrev a : Act
    a = Writes at n b

    abbrev g : Frame
    g = frame_after_pop f 2

    -- no cause is left
    abbrev Clear : Type 0
    Clear = NoCause ((A06, false) ∷ (A0A, has_bit f.deny 4) ∷ (A04, is_under f 2) ∷ reported_causes g at (Some name))

    some : (n == 0) ≡ false
    some = not_zero n (omega arith)

    size : length (zeros (length name)) ≡ length name
    size = length-replicate {A = ℕ} (length name) 0

    within : Clear → is_none (where_is g at n) ≡ false
    within free = inside_of (n == 0) (is_none (where_is g at n)) some free.1.1.1.0

    few_name : Clear → Found s t u i step (top_places (base s t u i step).frame 2) (named (length name)) → Compared s t u i step static d a (Some (f.c, false)) Goes
    unfolding causes shape later_causes prim_shape
    few_name free z =
        let room = above f 2 free.1.1.0 in
        let e : Frame = with_bytes f z.fixed z.dyn in
        let agree : Agree 2 (number_below_top e) (number_below_top f) = numbers_agree i s t u step 2 (named (length name)) z (omega (arith, room)) in
        let b0 = length (zeros (length name)) ∷ zeros (length name) in
        few_compared s t u i step static (top_places (base s t u i step).frame 2) (named (length name)) z d a (Some (f.c, false)) Goes
        (record {
          bytes = b0;
          to = 0;
          flags = Some (f.c, false);
          later = Goes;
          stands = ap (λ (x : ℕ). shape_of d (Writes x (1 + length (zeros (length name))) b0) (Some (f.c, false)) Goes) (agree 2 (omega arith) (omega arith))
              ∙ ap (λ (k : ℕ). shape_of d (Writes at (1 + k) b0) (Some (f.c, false)) Goes) size;
          same = ap suc size;
          low = pop_low step.frame 2 free.1.1.0;
          high = pop_high step.frame.dt 2 (dt_high s t u step);
          fits = (subst (λ (k : ℕ). is_none (where_is g at k) ≡ false) long (within free), refl);
          next = refl;
        })
      where
        long : n ≡ length b
        long = omega arith

    many_names : Clear → (coarse_around step.place.start).delegator ≡ Some (zeros 5) → IsCoarse s t u i step → Compared s t u i step static d a (Some (f.c, false)) Goes
    unfolding causes shape later_causes prim_shape
    many_names free who many =
        let room = above f 2 free.1.1.0 in
        let e : Frame = stood s t u i step static in
        let m : Memory = memory s t u i step in
        let k : Facts = step.place.known.bytes in
        let least : 5 ≤ length name = names.least in
        let most : length name ≤ 16 = names.most in
        let p = step.frame.dt - 2 in
        let address : at ≡ m p * 256 + m (suc p) = below_is f step.public 2 (sized s t u i step) (omega (arith, room)) (omega arith) ∙ pair_is m p in
        let reached : IsWithin (record e { dt = d }) (reach_at k p (numbers_from 6 12)) at n =
        pair_within i s t u step at p n d (numbers_from 6 12) address (is_between n 6 12 (omega (arith, least)) (omega (arith, most))) free.1.1.1.0
        in
        let shaped : stood_shape s t u i step static ≡ shape_of d (Writes (number_below_top e 2) 6 (5 ∷ zeros 5)) (Some (f.c, false)) Goes = ap (delegator_shape e) who in
        let long : n ≡ length b = omega arith in
        coarse_compared s t u i step static many d a (Some (f.c, false)) Goes
        (record {
          dt = ap (λ (h : Shape). h.dt) shaped;
          low = pop_low step.frame 2 free.1.1.0;
          high = pop_high step.frame.dt 2 (dt_high s t u step);
          fits = subst (λ (h : Shape). IsCoarsely s t u i step static d e (coarse_for h.act (coarse i e k)) a) (sym shaped) (record {
            at = at;
            n = n;
            bytes = b;
            is = refl;
            inside = subst (λ (j : ℕ). is_none (where_is g at j) ≡ false) long (within free);
            within = subst (λ (j : ℕ). IsWithin (record e { dt = d }) (reach_at k p (numbers_from 6 12)) at j) long reached;
          });
          next = ap (λ (h : Shape). h.next) shaped;
        })

    with_name : OnDone (row i f step.public step.around) (Moves s t u i step static)
    unfolding causes shape later_causes prim_shape
    with_name =
        let who = some_among s.rules step.entry step.place.start step.around name step.place.starts step.fits is names in
        row_done s t u i step static d a (Some (f.c, false)) Goes (ap (delegator_shape f) is) (sym (unprotected step.frame.protected step.place.standing)) (λ none.
        let free : Clear = subst (λ (o : Option (List ℕ)). NoCause ((A06, false) ∷ (A0A, has_bit f.deny 4) ∷ (A04, is_under f 2) ∷ reported_causes g at o)) is none in
        elim (few_or_many s t u i step (named (length name)) who.0 refl) [
          | inl z ↦ few_name free z
          | inr many ↦ many_names free who.1 many
        ])

  by_name : (o : Option (List ℕ)) → step.around.delegator ≡ o → IsDelegator o → OnDone (row i f step.public step.around) (Moves s t u i step static)
  by_name None is names = without_name is
  by_name (Some name) is names = with_name name is names

-- what is known for sums holds after the primitive that writes the name of the delegator
pub delegator_case : (args : List ℕ) → StepCase (ins.Prim 0 8 args)
delegator_case args s t u step static = by_name args s t u step static step.around.delegator refl step.names
