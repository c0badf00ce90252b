-- Each row that accepted code runs: it abends with none of the excluded causes, and leaves its frame at a fact, with DT
-- within the deepest.
use Rattle.std.proofs.Common.{◌≡◌, ℕ, ◌+◌, ◌-◌, ◌≤◌, ◌<◌, Bool, true, false, List, length, take, drop, Option, Some, None, Result, Ok, refl, sym, ap, subst, ◌∙◌, inl, inr, arith}
use Rattle.std.specs.Prelude.{◌⊎◌}
use Rattle.std.specs.List.{AllByRecursion}
use Rattle.std.proofs.lemmas.Bool.{cases_Bool}
use Rattle.law_family.specs.model_text.specs.declared.checker.CheckCause.TheVariants.{Wild}
use Rattle.law_family.specs.model_machine.specs.declared.instruction.DecodeFault.{DecodeFault}
use Rattle.law_family.specs.model_machine.specs.declared.instruction.Ins.{Ins}
use Rattle.law_family.specs.model_machine.specs.declared.machine.Abend.{Abend}
use Rattle.law_family.specs.model_machine.specs.Code.{Shaped, DecodesTo, instruction_at}
use Rattle.law_family.specs.model_machine.specs.Frame.{Frame, dynamic_base, public_base, public_end, come_back}
use Rattle.law_family.specs.model_machine.specs.Primitives.{Around, Then, Goes, Exits, Delegates, Done, effect_and_next, frame_effect}
use Rattle.law_family.specs.model_machine.specs.Row.{effect, first_cause, row, RowEnd, Abends, Does}
use Rattle.law_family.specs.model_machine.specs.Chain.{frame_at}
use Rattle.model_stack.specs.StackRows.{height_after, always_abends, writing, is_plain, counts, goes_on, jump_target, call_target}
use Rattle.model_stack.specs.StackShape.{Routine, fact, Reached, goes, jumps, Gives, Depth, Accepts}
use Rattle.mc_isa.specs.law_rows.proofs.PlaceLemmas.{decoded_stands}
use Rattle.mc_check.specs.Checked.{is_excluded}
use Rattle.mc_check.specs.Standing.{StandsAt, OpenCalls, none, call, calls_of}
use Rattle.mc_check.proofs.RowFacts.{RowsAreCalm, RowStays, GoesTo}
use Rattle.mc_check.proofs.AcceptedFacts.{GoodAt, HasStackRoom, HasBases, room_at, gives_at}
use Rattle.mc_check.proofs.OpenCalls.{IsAtFact, IsStanding, open_front, open_depth, calls_below, target_of_call}
use Rattle.mc_check.proofs.HeightLemmas.{moves, jump_height, exit_height}
use Rattle.mc_check.proofs.CalmCalls.{row_cause, row_done, CallEnd, call_end, call_room, entered_at, passed_at}
use Rattle.mc_check.proofs.FactLooks.{fine}
use Rattle.mc_check.proofs.CalmReturns.{returning, Back, comes_back}
use Rattle.law_family.specs.model_device.specs.Limits.{most_code}

-- a property of a frame, if it does not exit
abbrev pub OnGoing : Then → Type 0 → Type 0
OnGoing Goes holds = holds
OnGoing Exits holds = Unit {0}
OnGoing (Delegates n) holds = holds

-- DT of a frame is at most `most` bytes above its floor
abbrev pub IsLow : ℕ → ℕ → Frame → Type 0
IsLow session most f = f.dt ≤ dynamic_base + session + most

-- an instruction that was done in a frame of accepted code
pub record DoneCalm (code : List ℕ) (session most : ℕ) (d : Done) : Type 0 where
  pub dt : IsLow session most d.effect.frame
  pub stands : OnGoing d.next (IsStanding code session d.effect.frame)

-- a row in a frame of accepted code
abbrev pub RowCalm : List ℕ → ℕ → ℕ → RowEnd → Type 0
RowCalm code session most (Abends cause) = is_excluded cause ≡ false
RowCalm code session most (Does d) = DoneCalm code session most d

-- a row that leaves the static segment below the dynamic one
abbrev pub FixedStays : RowEnd → Type 0
FixedStays (Abends cause) = Unit {0}
FixedStays (Does d) = length d.effect.frame.fixed ≤ dynamic_base

-- an instruction of code is shaped
shaped_at : (code : List ℕ) (at : ℕ) (i : Ins) (next : ℕ) → AllByRecursion (λ b. b < 256) code → instruction_at code at ≡ Ok (i, next) → Shaped i
shaped_at code at i next bytes is =
    let stands : DecodesTo code at (Ok (i, next)) = subst (λ (r : Result (Ins × ℕ) DecodeFault). DecodesTo code at r) is (decoded_stands code at bytes) in
    stands.shaped

going_calm : (code : List ℕ) (session : ℕ) (t : Then) (f : Frame) → IsStanding code session f → OnGoing t (IsStanding code session f)
going_calm code session t f s = grind arith

module _ (code : List ℕ) (session most : ℕ) (accepts : Accepts code session most) (bases : HasBases code) where
  -- ---- writes

  -- a write that is not plain is only in code without a call
  plain_or_bottom : {bytes : List ℕ} {r : Routine} {b : ℕ} (at h : ℕ) (i : Ins) (next : ℕ) → OpenCalls code session bytes r b → Reached code (fact r at h) → instruction_at code at ≡ Ok (i, next) → (is_plain session h (writing i) ≡ true) ⊎ (b ≡ 0)
  plain_or_bottom at h i next none reached is = inr refl
  plain_or_bottom at h i next (call {r = r} {p = p} {h = k} {q = q} j after opened caller gives target lb_word at_word) reached is =
      elim (cases_Bool (is_plain session h (writing i))) [
        | inl plain ↦ inl plain
        | inr wild ↦ absurd (accepts.sound (fact _ at h) Wild reached (record { caller = fact r p k; reached = caller; call = j; calls = (after, (fine code (fact r p k) j after gives.stands).there); is_call = target_of_call j q target; writer = i; stands = (next, is); wild = wild }))
      ]

  -- ---- room

  -- DT of a frame at a fact is not above the deepest
  pub low_at : (f : Frame) → IsStanding code session f → IsLow session most f
  low_at f s =
      let here = s.here in
      let room = room_at code session most accepts bases (fact s.routine f.at s.height) s.base here.reached (open_depth here.opened) in
      let deepest = room.deepest in
      let lb = here.stands.lb in
      let dt = here.stands.dt in
      omega (arith, deepest, lb, dt)

  module _ (r : Routine) (b h : ℕ) (f : Frame) (here : IsAtFact code session r b h f) (i : Ins) (next : ℕ) (good : GoodAt code (fact r f.at h) i next) where
    depth : Depth code r b
    depth = open_depth here.opened

    gives : Gives code (fact r f.at h) i next
    gives = gives_at code session most accepts bases (fact r f.at h) b i next here.reached depth good

    room_now : HasStackRoom session most b h
    room_now = room_at code session most accepts bases (fact r f.at h) b here.reached depth

    -- the height after an instruction that may be done
    room_after : always_abends i ≡ false → session + b + height_after i h ≤ 512
    room_after may =
        elim (moves i h may) [
          | inl on ↦ (room_at code session most accepts bases (fact r next (height_after i h)) b (goes i next here.reached gives on.1 on.0) depth).stack
          | inr same ↦ subst (λ (n : ℕ). session + b + n ≤ 512) (sym same) room_now.stack
        ]

    call_fits : (q : ℕ) → call_target i ≡ Some q → session + b + h + 4 ≤ 512
    call_fits q target =
        let enough = (call_room code session most accepts bases r b h f here i next q good target).stack in
        omega (arith, enough)

    -- ---- rows that go on

    -- the place of a frame that goes on has a fact of the height after the instruction
    place_reached : (at : ℕ) → call_target i ≡ None → ((at ≡ next) × (goes_on i ≡ true)) ⊎ (jump_target i next ≡ Some (Some at)) → Reached code (fact r at (height_after i h))
    place_reached at no_call (inl on) = subst (λ (n : ℕ). Reached code (fact r n (height_after i h))) (sym on.0) (goes i next here.reached gives no_call on.1)
    place_reached at no_call (inr to) = subst (λ (n : ℕ). Reached code (fact r at n)) (sym (jump_height i next (Some at) h to)) (jumps i next at here.reached gives to)

    module _ (public : List ℕ) (x : Around) (d : Done) (no_call : call_target i ≡ None) (done : row i (frame_at f next) public x ≡ Does d) (stays : RowStays (length code) session b h i next f d) (low_fixed : length d.effect.frame.fixed ≤ dynamic_base) where
      -- the frame that goes on at such a place
      moved_on : Reached code (fact r d.effect.frame.at (height_after i h)) → IsStanding code session d.effect.frame
      moved_on reached =
          let g = d.effect.frame in
          let stands : StandsAt (length code) session b (height_after i h) g = stays.stands low_fixed in
          let kept : calls_of g ≡ calls_of f = stays.calls (plain_or_bottom f.at h i next here.opened here.reached good.decoded) in
          let same : take b (drop session f.dyn) ≡ take b (drop session g.dyn) =
          sym (calls_below (length code) session b h f here.stands) ∙ sym kept ∙ calls_below (length code) session b (height_after i h) g stands in
          record { routine = r; base = b; height = height_after i h; here = record { stands = stands; opened = open_front (drop session g.dyn) here.opened same; reached = reached } }

      standing_calm : IsStanding code session d.effect.frame → DoneCalm code session most d
      standing_calm s = record { dt = low_at d.effect.frame s; stands = going_calm code session d.next d.effect.frame s }

      exit_calm : d.next ≡ Exits → DoneCalm code session most d
      exit_calm is =
          let next_is : (effect i (frame_at f next) public x).next ≡ Exits = ap (λ (e : Done). e.next) (row_done i (frame_at f next) public x d done) ∙ is in
          let same : height_after i h ≡ h = exit_height i (frame_at f next) public x h next_is in
          let stands = stays.stands low_fixed in
          let lb = stands.lb in
          let dt = stands.dt in
          let deepest = room_now.deepest in
          record { dt = omega (arith, same, lb, dt, deepest); stands = subst (λ (t : Then). OnGoing t (IsStanding code session d.effect.frame)) (sym is) tt }

      moved_calm : (t : Then) → d.next ≡ t → DoneCalm code session most d
      moved_calm Exits is = exit_calm is
      moved_calm Goes is =
          let place = subst (λ (t : Then). GoesTo i next d.effect.frame.at t) is stays.place in
          standing_calm (moved_on (place_reached d.effect.frame.at no_call place))
      moved_calm (Delegates n) is =
          let place = subst (λ (t : Then). GoesTo i next d.effect.frame.at t) is stays.place in
          standing_calm (moved_on (place_reached d.effect.frame.at no_call place))

    -- ---- calls and returns

    call_calm : (q : ℕ) (public : List ℕ) (x : Around) (d : Done) → call_target i ≡ Some q → row i (frame_at f next) public x ≡ Does d → DoneCalm code session most d
    call_calm q public x d target done =
        let end : CallEnd i q (frame_at f next) d = call_end i q (frame_at f next) public x d target done in
        let s : IsStanding code session d.effect.frame =
        elim end.frame [
          | inl taken ↦ subst (λ (g : Frame). IsStanding code session g) (sym taken) (record { routine = _; base = b + h + 4; height = 0; here = entered_at code session most accepts bases r b h f here i next q good target })
          | inr passed ↦ subst (λ (g : Frame). IsStanding code session g) (sym passed.0) (record { routine = r; base = b; height = h; here = passed_at code session most accepts bases r b h f here i next q good target passed.1 })
        ] in
        record { dt = low_at d.effect.frame s; stands = going_calm code session d.next d.effect.frame s }

    module _ (short : length code ≤ most_code) where
      return_calm : (c : ℕ × ℕ) (public : List ℕ) (x : Around) (d : Done) → counts i ≡ Some c → row i (frame_at f next) public x ≡ Does d → DoneCalm code session most d
      return_calm c public x d e done =
          let back : Back code session (frame_at f next) c.0 c.1 = comes_back code session most accepts bases short r b h f i next c here good e in
          let g = come_back (frame_at f next) c.0 c.1 in
          let is : effect_and_next (frame_effect g public) ≡ d = sym ((returning i c e).effect (frame_at f next) public x) ∙ row_done i (frame_at f next) public x d done in
          subst (λ (t : Done). DoneCalm code session most t) is (record { dt = low_at g back.standing; stands = back.standing })

      return_abends : (c : ℕ × ℕ) (public : List ℕ) (x : Around) (cause : Abend) → counts i ≡ Some c → row i (frame_at f next) public x ≡ Abends cause → is_excluded cause ≡ false
      return_abends c public x cause e abends =
          let back : Back code session (frame_at f next) c.0 c.1 = comes_back code session most accepts bases short r b h f i next c here good e in
          let is : None ≡ Some cause =
          sym back.calm ∙ ap (λ (cs : List (Abend × Bool)). first_cause cs) (sym ((returning i c e).causes (frame_at f next) public x)) ∙ row_cause i (frame_at f next) public x cause abends in
          absurd (cc is)

      -- ---- all rows

      module _ (bytes : AllByRecursion (λ b. b < 256) code) (facts : RowsAreCalm) (public : List ℕ) (whole : public_end - public_base ≤ length public) (x : Around) where
        shaped : Shaped i
        shaped = shaped_at code f.at i next bytes good.decoded

        abends_calm : (o : Option (ℕ × ℕ)) (cause : Abend) → counts i ≡ o → row i (frame_at f next) public x ≡ Abends cause → is_excluded cause ≡ false
        abends_calm (Some c) cause e abends = return_abends c public x cause e abends
        abends_calm None cause e abends =
            facts.calm (length code) session b h i next f public x cause shaped here.stands good.needs good.direct good.inside e room_after call_fits (row_cause i (frame_at f next) public x cause abends)

        done_calm : (o : Option (ℕ × ℕ)) (t : Option ℕ) (d : Done) → counts i ≡ o → call_target i ≡ t → row i (frame_at f next) public x ≡ Does d → length d.effect.frame.fixed ≤ dynamic_base → DoneCalm code session most d
        done_calm (Some c) t d e target done low_fixed = return_calm c public x d e done
        done_calm None (Some q) d e target done low_fixed = call_calm q public x d target done
        done_calm None None d e target done low_fixed =
            let stays : RowStays (length code) session b h i next f d = facts.stays (length code) session b h i next f public x d shaped here.stands good.needs good.direct e target room_after whole done in
            moved_calm public x d target done stays low_fixed d.next refl

        -- the row is calm, whatever its end
        end_calm : (end : RowEnd) → row i (frame_at f next) public x ≡ end → FixedStays end → RowCalm code session most end
        end_calm (Abends cause) is low_fixed = abends_calm (counts i) cause refl is
        end_calm (Does d) is low_fixed = done_calm (counts i) (call_target i) d refl refl is low_fixed

        pub row_calm : FixedStays (row i (frame_at f next) public x) → RowCalm code session most (row i (frame_at f next) public x)
        row_calm low_fixed = end_calm (row i (frame_at f next) public x) refl low_fixed
