-- JUMP and CALL to a place that the stack has.
use Rattle.std.proofs.Common.{◌≡◌, ℕ, suc, ◌+◌, ◌-◌, ◌*◌, ◌<◌, ◌≤◌, true, false, [], length, Option, None, refl, sym, subst, ◌∙◌, arith}
use Rattle.std.specs.Prelude.{not, nat_lt}
use Rattle.std.proofs.lemmas.Bool.{ltb-true, ltb-false}
use Rattle.law_sums.specs.model_device.specs.Bytes.{num}
use Rattle.law_sums.specs.model_machine.specs.declared.instruction.Ins.{Ins}
use Rattle.law_sums.specs.model_machine.specs.declared.instruction.Ins.TheVariants as ins
use Rattle.law_sums.specs.model_machine.specs.Frame.{Frame, top, is_under, dynamic_end}
use Rattle.law_sums.specs.model_machine.specs.Primitives.{Goes, Primitive}
use Rattle.law_sums.specs.model_machine.specs.Row.{causes, target}
use Rattle.law_sums.specs.model_machine.specs.Shapes.{Jumps, Calls, shape}
use Rattle.law_sums.specs.model_prove.specs.Facts.{Memory}
use Rattle.law_sums.specs.model_prove.specs.Keys.{Tables}
use Rattle.law_sums.specs.model_prove.specs.Laws.{Among}
use Rattle.law_sums.specs.model_prove.specs.Reach.{takes_target}
use Rattle.law_sums.specs.model_prove.specs.Steps.{arounds, primitive_of}
use Rattle.law_sums.specs.model_prove.specs.Arrivals.{Setting}
use Rattle.law_sums.specs.model_prove.proofs.FactLemmas.{value_holds}
use Rattle.law_prove_closed.specs.law_prove.specs.Coverings.{IsFrameOf}
use Rattle.law_prove_closed.specs.law_prove.proofs.Plain.{above}
use Rattle.law_prove_closed.specs.law_prove.proofs.Turns.{nobody}
use Rattle.law_prove_closed.specs.law_prove.proofs.Scenes.{target_inside}
use Rattle.law_prove_closed.specs.law_prove.proofs.ReachScenes.{with_bytes, pair_is, below_is, stack_inside}
use Rattle.law_prove_closed.specs.law_prove.proofs.Accesses.{not_true}
use Rattle.law_sums.specs.model_sums.specs.Sums.{SumsTable}
use Rattle.law_sum_plays.proofs.Scenes.{Step, fetched, memory, sized, Found, found_target, nobody_among}
use Rattle.law_sum_plays.proofs.Rows.{unprotected, row_done, few_compared, StepCase}
use Rattle.law_sum_plays.proofs.Plain.{dt_high, pop_high, pop_low}

-- a target that is a place of the code is one of those that are followed
followed : (i : Ins) (s : Setting) (t : Tables) (u : SumsTable) (step : Step s t u i) → takes_target i ≡ true → primitive_of i ≡ None → is_under (fetched s t u i step) 2 ≡ false → not (nat_lt (num (top (fetched s t u i step) 2)) step.frame.code_len) ≡ false
    → Found s t u i step [] nobody
followed i s t u step takes prim under place =
    let f : Frame = fetched s t u i step in
    let m : Memory = memory s t u i step in
    let frame : IsFrameOf s.app step.frame = step.place.frame in
    let a = step.frame.dt - 2 in
    let enough = above f 2 under in
    let high : step.frame.dt ≤ dynamic_end = dt_high s t u step in
    let is : num (top f 2) ≡ m a * 256 + m (suc a) = below_is f step.public 2 (sized s t u i step) (omega (arith, enough)) (omega arith) ∙ pair_is m a in
    let less = ltb-true (num (top f 2)) step.frame.code_len (not_true (nat_lt (num (top f 2)) step.frame.code_len) place) in
    let code : step.frame.code_len ≡ length s.app.code = frame.code in
    let first : m a < 256 = step.place.bytes a in
    let second : m (suc a) < 256 = step.place.bytes (suc a) in
    found_target s t u i step nobody (subst (λ (o : Option Primitive). Among nobody (arounds step.place.start o)) (sym prim) (nobody_among step.place.start)) takes
    (target_inside step.place.known.bytes a (length s.app.code) (m a) (m (suc a)) first second (value_holds step.place.known.bytes m a step.place.holds first) (value_holds step.place.known.bytes m (suc a) step.place.holds second) (omega (arith, is, less, code)))
    (stack_inside f a (omega (arith, enough)) (omega (arith, enough))) (stack_inside f (suc a) (omega (arith, enough)) (omega (arith, enough)))

-- what is known for sums holds after JUMP to a place that the stack has
pub jump_target_case : (to : ℕ) → StepCase (ins.Jump 0 to)
unfolding causes shape
jump_target_case to s t u step static =
    let i : Ins = ins.Jump 0 to in
    let f : Frame = fetched s t u i step in
    let d = step.frame.dt - 2 in
    row_done s t u i step static d (Jumps true (target f 0 to)) None Goes refl (sym (unprotected step.frame.protected step.place.standing)) (λ free.
    let z : Found s t u i step [] nobody = followed i s t u step refl refl free.0 free.1.0 in
    few_compared s t u i step static [] nobody z d (Jumps true (target f 0 to)) None Goes
    (record {
      bytes = [];
      to = target (with_bytes f z.fixed z.dyn) 0 to;
      flags = None;
      later = Goes;
      stands = refl;
      same = tt;
      low = pop_low step.frame 2 free.0;
      high = pop_high step.frame.dt 2 (dt_high s t u step);
      fits = (tt, tt);
      next = refl;
    }))

-- what is known for sums holds after CALL of a place that the stack has
pub call_target_case : (to : ℕ) → StepCase (ins.Call 0 to)
unfolding causes shape
call_target_case to s t u step static =
    let i : Ins = ins.Call 0 to in
    let f : Frame = fetched s t u i step in
    let d = step.frame.dt - 2 in
    row_done s t u i step static d (Calls true (target f 0 to)) None Goes refl (sym (unprotected step.frame.protected step.place.standing)) (λ free.
    let z : Found s t u i step [] nobody = followed i s t u step refl refl free.0 free.1.0 in
    let over = ltb-false dynamic_end (d + 4) free.1.1.0 in
    few_compared s t u i step static [] nobody z d (Calls true (target f 0 to)) None Goes
    (record {
      bytes = [];
      to = target (with_bytes f z.fixed z.dyn) 0 to;
      flags = None;
      later = Goes;
      stands = refl;
      same = tt;
      low = pop_low step.frame 2 free.0;
      high = pop_high step.frame.dt 2 (dt_high s t u step);
      fits = (λ on. over, tt);
      next = refl;
    }))
