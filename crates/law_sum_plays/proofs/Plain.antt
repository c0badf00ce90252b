-- Rows that no byte decides and that leave the memory, or push and answer what instruction and registers say.
use Rattle.std.proofs.Common.{◌≡◌, ℕ, ◌+◌, ◌-◌, ◌≤◌, Bool, true, false, cond, List, [], ◌∷◌, length, ℤ, Option, Some, None, refl, sym, ap, subst, ◌∙◌, arith}
use Rattle.std.specs.Prelude.{◌&&◌, ◌==◌}
use Rattle.std.proofs.lemmas.Bool.{ltb-false, leb-true, and_parts}
use Rattle.std.proofs.lemmas.List.{length-replicate}
use Rattle.law_sums.specs.model_device.specs.Bytes.{bytes2, zeros}
use Rattle.law_sums.specs.model_machine.specs.declared.instruction.Ins.{Ins}
use Rattle.law_sums.specs.model_machine.specs.declared.instruction.Ins.TheVariants as ins
use Rattle.law_sums.specs.model_machine.specs.Frame.{Frame, dynamic_base, dynamic_end, is_under, is_over, no_return, moved_address, frame_after_pop}
use Rattle.law_sums.specs.model_machine.specs.Primitives.{Around, Then, Goes, Exits, Primitive}
use Rattle.law_sums.specs.model_machine.specs.Row.{causes, row, holds, address_or_zero, on_stack, target, without_target, place_of}
use Rattle.law_sums.specs.law_rows.specs.Keeping.{OnDone}
use Rattle.law_sums.specs.model_machine.specs.Shapes.{Act, Stays, Answers, Jumps, Calls, Returns, Pushes, Shape, shape}
use Rattle.law_sums.specs.model_rules.specs.Keeping.{mode_of}
use Rattle.law_sums.specs.model_prove.specs.Keys.{Start, Tables}
use Rattle.law_sums.specs.model_prove.specs.Laws.{Among}
use Rattle.law_sums.specs.model_prove.specs.Splits.{top_places, deciders}
use Rattle.law_sums.specs.model_prove.specs.Reach.{takes_target}
use Rattle.law_sums.specs.model_prove.specs.Work.{Work, AsShaped, work}
use Rattle.law_sums.specs.model_prove.specs.Arrivals.{Setting}
use Rattle.law_sums.specs.model_prove.specs.Steps.{arounds, primitive_of}
use Rattle.law_prove_closed.specs.law_prove.specs.Coverings.{IsFrameOf}
use Rattle.law_prove_closed.specs.law_prove.proofs.Plain.{above, over_is}
use Rattle.law_prove_closed.specs.law_prove.proofs.Turns.{NoCause, nobody}
use Rattle.law_prove_closed.specs.law_prove.proofs.ReachScenes.{scene_of, Fits}
use Rattle.law_prove_closed.specs.law_prove.proofs.Accesses.{not_true}
use Rattle.law_sums.specs.model_sums.specs.Sums.{SumsTable}
use Rattle.law_sums.specs.TurnLaws.{row_sums}
use Rattle.law_sum_plays.specs.Rows.{AreStatic}
use Rattle.law_sum_plays.proofs.Moved.{shape_of, SameIf}
use Rattle.law_sum_plays.proofs.Scenes.{Step, fetched, base, Found, found_one, nobody_among}
use Rattle.law_sum_plays.proofs.Rows.{unprotected, read, IsWork, Moves, row_done, Alike, few_compared, StepCase}

-- ---- rows of one choice

-- a row that no byte decides
pub one_row : (i : Ins) (s : Setting) (t : Tables) (u : SumsTable) (step : Step s t u i) (static : AreStatic s s.rules.totals) (d : ℕ) (a : Act) (fl : Option (Bool × Bool)) (n : Then)
    → takes_target i ≡ false → ((f : Frame) → deciders i f ≡ []) → ((st : Start) → Among nobody (arounds st (primitive_of i))) → shape i (fetched s t u i step) step.public step.around ≡ shape_of d a fl n
    → read s t u i step static d a ≡ row_sums step.frame.protected (mode_of i) step.place.standing
    → (NoCause (causes i (fetched s t u i step) step.public step.around) → (fixed dyn public : List ℕ) → Fits (fetched s t u i step) fixed dyn public → Alike s t u i step static d a fl n (scene_of (fetched s t u i step) fixed dyn public) nobody)
    → OnDone (row i (fetched s t u i step) step.public step.around) (Moves s t u i step static)
one_row i s t u step static d a fl n takes none among is sums alike =
    let o : Found s t u i step [] nobody = found_one s t u i step nobody (among step.place.start) takes (none (base s t u i step).frame) in
    row_done s t u i step static d a fl n is sums (λ free. few_compared s t u i step static [] nobody o d a fl n (alike free o.fixed o.dyn o.public o.fits))

-- DT lies in the stack
pub dt_low : {i : Ins} (s : Setting) (t : Tables) (u : SumsTable) (step : Step s t u i) → dynamic_base ≤ step.frame.dt
dt_low s t u step = grind arith

-- DT lies at or below the end of the stack
pub dt_high : {i : Ins} (s : Setting) (t : Tables) (u : SumsTable) (step : Step s t u i) → step.frame.dt ≤ dynamic_end
dt_high s t u step = let frame : IsFrameOf s.app step.frame = step.place.frame in frame.high

-- ---- NOP, and rows that pop

-- what is known for sums holds after NOP
pub nop_case : StepCase ins.Nop
unfolding causes shape
nop_case s t u step static =
    one_row ins.Nop s t u step static step.frame.dt Stays None Goes refl (λ f. refl) nobody_among refl (sym (unprotected step.frame.protected step.place.standing)) (λ free fixed dyn public fits.
    record { bytes = []; to = 0; flags = None; later = Goes; stands = refl; same = tt; low = dt_low s t u step; high = dt_high s t u step; fits = (tt, tt); next = refl })

-- DT after n bytes were popped
pub pop_low : (f : Frame) (n : ℕ) → is_under f n ≡ false → dynamic_base ≤ f.dt - n
pop_low f n e = let h = above f n e in omega (arith, h)

-- DT stays at or below the end of the stack after a pop
pub pop_high : (dt n : ℕ) → dt ≤ dynamic_end → dt - n ≤ dynamic_end
pop_high dt n h = omega (arith, h)

-- what is known for sums holds after POPN
pub popn_case : (n : ℕ) → StepCase (ins.Popn n)
unfolding causes shape
popn_case n s t u step static =
    one_row (ins.Popn n) s t u step static (step.frame.dt - n) Stays None Goes refl (λ f. refl) nobody_among refl (sym (unprotected step.frame.protected step.place.standing)) (λ free fixed dyn public fits.
    record { bytes = []; to = 0; flags = None; later = Goes; stands = refl; same = tt; low = pop_low step.frame n free.1.0; high = pop_high step.frame.dt n (dt_high s t u step); fits = (tt, tt); next = refl })

-- what is known for sums holds after POPB
pub popb_case : StepCase ins.Popb
unfolding causes shape
popb_case s t u step static =
    one_row ins.Popb s t u step static (step.frame.dt - 1) Stays None Goes refl (λ f. refl) nobody_among refl (sym (unprotected step.frame.protected step.place.standing)) (λ free fixed dyn public fits.
    record { bytes = []; to = 0; flags = None; later = Goes; stands = refl; same = tt; low = pop_low step.frame 1 free.0; high = pop_high step.frame.dt 1 (dt_high s t u step); fits = (tt, tt); next = refl })

-- what is known for sums holds after POPW
pub popw_case : StepCase ins.Popw
unfolding causes shape
popw_case s t u step static =
    one_row ins.Popw s t u step static (step.frame.dt - 2) Stays None Goes refl (λ f. refl) nobody_among refl (sym (unprotected step.frame.protected step.place.standing)) (λ free fixed dyn public fits.
    record { bytes = []; to = 0; flags = None; later = Goes; stands = refl; same = tt; low = pop_low step.frame 2 free.0; high = pop_high step.frame.dt 2 (dt_high s t u step); fits = (tt, tt); next = refl })

-- ---- status and length of the reply

-- what is known for sums holds after SETSW
pub setsw_case : (sw : ℕ) → StepCase (ins.Setsw sw)
unfolding causes shape
setsw_case sw s t u step static =
    one_row (ins.Setsw sw) s t u step static step.frame.dt (Answers (Some sw) None) None Goes refl (λ f. refl) nobody_among refl (sym (unprotected step.frame.protected step.place.standing)) (λ free fixed dyn public fits.
    record { bytes = []; to = 0; flags = None; later = Goes; stands = refl; same = tt; low = dt_low s t u step; high = dt_high s t u step; fits = (tt, tt); next = refl })

-- what is known for sums holds after SETLA
pub setla_case : (la : ℕ) → StepCase (ins.Setla la)
unfolding causes shape
setla_case la s t u step static =
    one_row (ins.Setla la) s t u step static step.frame.dt (Answers None (Some la)) None Goes refl (λ f. refl) nobody_among refl (sym (unprotected step.frame.protected step.place.standing)) (λ free fixed dyn public fits.
    record { bytes = []; to = 0; flags = None; later = Goes; stands = refl; same = tt; low = dt_low s t u step; high = dt_high s t u step; fits = (tt, tt); next = refl })

-- what is known for sums holds after SETSWLA
pub setswla_case : (sw la : ℕ) → StepCase (ins.Setswla sw la)
unfolding causes shape
setswla_case sw la s t u step static =
    one_row (ins.Setswla sw la) s t u step static step.frame.dt (Answers (Some sw) (Some la)) None Goes refl (λ f. refl) nobody_among refl (sym (unprotected step.frame.protected step.place.standing)) (λ free fixed dyn public fits.
    record { bytes = []; to = 0; flags = None; later = Goes; stands = refl; same = tt; low = dt_low s t u step; high = dt_high s t u step; fits = (tt, tt); next = refl })

-- what is known for sums holds after EXIT
pub exit_case : StepCase ins.Exit
unfolding causes shape
exit_case s t u step static =
    one_row ins.Exit s t u step static step.frame.dt (Answers None None) None Exits refl (λ f. refl) nobody_among refl (sym (unprotected step.frame.protected step.place.standing)) (λ free fixed dyn public fits.
    record { bytes = []; to = 0; flags = None; later = Exits; stands = refl; same = tt; low = dt_low s t u step; high = dt_high s t u step; fits = (tt, tt); next = (refl, record { dt = refl; c = refl; z = refl }) })

-- what is known for sums holds after EXITSW
pub exitsw_case : (sw : ℕ) → StepCase (ins.Exitsw sw)
unfolding causes shape
exitsw_case sw s t u step static =
    one_row (ins.Exitsw sw) s t u step static step.frame.dt (Answers (Some sw) None) None Exits refl (λ f. refl) nobody_among refl (sym (unprotected step.frame.protected step.place.standing)) (λ free fixed dyn public fits.
    record { bytes = []; to = 0; flags = None; later = Exits; stands = refl; same = tt; low = dt_low s t u step; high = dt_high s t u step; fits = (tt, tt); next = (refl, record { dt = refl; c = refl; z = refl }) })

-- what is known for sums holds after EXITLA
pub exitla_case : (la : ℕ) → StepCase (ins.Exitla la)
unfolding causes shape
exitla_case la s t u step static =
    one_row (ins.Exitla la) s t u step static step.frame.dt (Answers None (Some la)) None Exits refl (λ f. refl) nobody_among refl (sym (unprotected step.frame.protected step.place.standing)) (λ free fixed dyn public fits.
    record { bytes = []; to = 0; flags = None; later = Exits; stands = refl; same = tt; low = dt_low s t u step; high = dt_high s t u step; fits = (tt, tt); next = (refl, record { dt = refl; c = refl; z = refl }) })

-- what is known for sums holds after EXITSWLA
pub exitswla_case : (sw la : ℕ) → StepCase (ins.Exitswla sw la)
unfolding causes shape
exitswla_case sw la s t u step static =
    one_row (ins.Exitswla sw la) s t u step static step.frame.dt (Answers (Some sw) (Some la)) None Exits refl (λ f. refl) nobody_among refl (sym (unprotected step.frame.protected step.place.standing)) (λ free fixed dyn public fits.
    record { bytes = []; to = 0; flags = None; later = Exits; stands = refl; same = tt; low = dt_low s t u step; high = dt_high s t u step; fits = (tt, tt); next = (refl, record { dt = refl; c = refl; z = refl }) })

-- ---- branches, and jumps and calls to a place in their own bytes

-- what is known for sums holds after BRANCH
pub branch_case : (k : ℕ) (d : ℤ) → StepCase (ins.Branch k d)
unfolding causes shape
branch_case k d s t u step static =
    let to = address_or_zero (moved_address step.next d) in
    one_row (ins.Branch k d) s t u step static step.frame.dt (Jumps (holds k step.frame) to) None Goes refl (λ f. refl) nobody_among refl (sym (unprotected step.frame.protected step.place.standing)) (λ free fixed dyn public fits.
    record { bytes = []; to = to; flags = None; later = Goes; stands = refl; same = tt; low = dt_low s t u step; high = dt_high s t u step; fits = (tt, tt); next = refl })

-- DT after the target was popped, if the stack has it
pub target_low : (f : Frame) (b : Bool) → dynamic_base ≤ f.dt → (b && is_under f 2) ≡ false → dynamic_base ≤ cond b (f.dt - 2) f.dt
target_low f true low e = pop_low f 2 e
target_low f false low e = low

-- DT stays at or below the end of the stack whether or not a target is popped
pub target_high : (dt : ℕ) (b : Bool) → dt ≤ dynamic_end → cond b (dt - 2) dt ≤ dynamic_end
target_high dt true h = pop_high dt 2 h
target_high dt false h = h

-- no byte decides them
pub no_target : (k : ℕ) (some : List ℕ) → (k == 0) ≡ false → cond (k == 0) some [] ≡ []
no_target k some e = ap (λ (b : Bool). cond b some []) e

-- what is known for sums holds after JUMP to a place in its own bytes
pub jump_case : (k to : ℕ) → (k == 0) ≡ false → StepCase (ins.Jump k to)
unfolding causes shape
jump_case k to e s t u step static =
    let f : Frame = fetched s t u (ins.Jump k to) step in
    let d = on_stack k (step.frame.dt - 2) step.frame.dt in
    one_row (ins.Jump k to) s t u step static d (Jumps (holds k step.frame) (target f k to)) None Goes e (λ g. no_target k (top_places g 2) e) nobody_among refl (sym (unprotected step.frame.protected step.place.standing)) (λ free fixed dyn public fits.
    record {
      bytes = [];
      to = target (scene_of f fixed dyn public).frame k to;
      flags = None;
      later = Goes;
      stands = refl;
      same = tt;
      low = target_low step.frame (k == 0) (dt_low s t u step) free.0;
      high = target_high step.frame.dt (k == 0) (dt_high s t u step);
      fits = (tt, tt);
      next = refl;
    })

-- a call that is taken has room for its four bytes
room_by : (dt : ℕ) (taken b : Bool) (f : Frame) → f.dt ≡ dt → (taken && is_over (cond b (frame_after_pop f 2) f) 4) ≡ false → taken ≡ true → cond b (dt - 2) dt + 4 ≤ dynamic_end
room_by dt true true f is e on = let h = ltb-false dynamic_end (f.dt - 2 + 4) e in omega (arith, h, is)
room_by dt true false f is e on = let h = ltb-false dynamic_end (f.dt + 4) e in omega (arith, h, is)
room_by dt false b f is e on = absurd (cc on)

call_over : (f : Frame) (k : ℕ) (taken : Bool) → (taken && is_over (without_target f k) 4) ≡ false → taken ≡ true → on_stack k (f.dt - 2) f.dt + 4 ≤ dynamic_end
call_over f k taken e on = room_by f.dt taken (k == 0) f refl e on

-- what is known for sums holds after CALL of a place in its own bytes
pub call_case : (k to : ℕ) → (k == 0) ≡ false → StepCase (ins.Call k to)
unfolding causes shape
call_case k to e s t u step static =
    let f : Frame = fetched s t u (ins.Call k to) step in
    let d = on_stack k (step.frame.dt - 2) step.frame.dt in
    one_row (ins.Call k to) s t u step static d (Calls (holds k step.frame) (target f k to)) None Goes e (λ g. no_target k (top_places g 2) e) nobody_among refl (sym (unprotected step.frame.protected step.place.standing)) (λ free fixed dyn public fits.
    record {
      bytes = [];
      to = target (scene_of f fixed dyn public).frame k to;
      flags = None;
      later = Goes;
      stands = refl;
      same = tt;
      low = target_low step.frame (k == 0) (dt_low s t u step) free.0;
      high = target_high step.frame.dt (k == 0) (dt_high s t u step);
      fits = (call_over f k (holds k f) free.1.1.0, tt);
      next = refl;
    })

-- ---- pushes

-- what is known for sums holds after PUSHZ
pub pushz_case : (n : ℕ) → StepCase (ins.Pushz n)
unfolding causes shape
pushz_case n s t u step static =
    one_row (ins.Pushz n) s t u step static step.frame.dt (Pushes (zeros n)) None Goes refl (λ f. refl) nobody_among refl (sym (unprotected step.frame.protected step.place.standing)) (λ free fixed dyn public fits.
    record {
      bytes = zeros n;
      to = 0;
      flags = None;
      later = Goes;
      stands = refl;
      same = (refl, λ number. refl);
      low = dt_low s t u step;
      high = dt_high s t u step;
      fits = (over_is step.frame.dt n (length (zeros n)) free.1.0 (length-replicate {A = ℕ} n 0), tt);
      next = refl;
    })

-- what is known for sums holds after PUSHB
pub pushb_case : (b : ℕ) → StepCase (ins.Pushb b)
unfolding causes shape
pushb_case b s t u step static =
    one_row (ins.Pushb b) s t u step static step.frame.dt (Pushes (b ∷ [])) None Goes refl (λ f. refl) nobody_among refl (sym (unprotected step.frame.protected step.place.standing)) (λ free fixed dyn public fits.
    record { bytes = b ∷ []; to = 0; flags = None; later = Goes; stands = refl; same = (refl, λ number. refl); low = dt_low s t u step; high = dt_high s t u step; fits = (over_is step.frame.dt 1 1 free.0 refl, tt); next = refl })

-- what is known for sums holds after PUSHW
pub pushw_case : (w : ℕ) → StepCase (ins.Pushw w)
unfolding causes shape
pushw_case w s t u step static =
    one_row (ins.Pushw w) s t u step static step.frame.dt (Pushes (bytes2 w)) None Goes refl (λ f. refl) nobody_among refl (sym (unprotected step.frame.protected step.place.standing)) (λ free fixed dyn public fits.
    record { bytes = bytes2 w; to = 0; flags = None; later = Goes; stands = refl; same = (refl, λ number. refl); low = dt_low s t u step; high = dt_high s t u step; fits = (over_is step.frame.dt 2 2 free.0 refl, tt); next = refl })

-- what is known for sums holds after LOADA
pub loada_case : (tag : ℕ) (off : ℤ) → StepCase (ins.Loada tag off)
unfolding causes shape
loada_case tag off s t u step static =
    let f : Frame = fetched s t u (ins.Loada tag off) step in
    one_row (ins.Loada tag off) s t u step static step.frame.dt (Pushes (bytes2 (place_of f tag off 0))) None Goes refl (λ f. refl) nobody_among refl (sym (unprotected step.frame.protected step.place.standing)) (λ free fixed dyn public fits.
    record {
      bytes = bytes2 (place_of (scene_of f fixed dyn public).frame tag off 0);
      to = 0;
      flags = None;
      later = Goes;
      stands = refl;
      same = (refl, λ number. absurd (cc number));
      low = dt_low s t u step;
      high = dt_high s t u step;
      fits = (over_is step.frame.dt 2 2 free.1.0 refl, tt);
      next = refl;
    })

-- ---- returns

-- what no cause of a return has
pub return_fits : (f : Frame) (less more : ℕ) → no_return f less more ≡ false → (dynamic_base + 4 + less ≤ f.lb) × (f.lb + more ≤ f.dt)
return_fits f less more e = grind (arith, and_parts, not_true, leb-true)

-- a return with its two lengths
return_row : (i : Ins) (less more : ℕ) → ((f : Frame) (public : List ℕ) (x : Around) → shape i f public x ≡ shape_of f.dt (Returns less more) None Goes) → ((f : Frame) (public : List ℕ) (x : Around) → NoCause (causes i f public x) → no_return f less more ≡ false)
    → ((f : Frame) (public : List ℕ) → work i f public ≡ AsShaped) → takes_target i ≡ false → ((f : Frame) → deciders i f ≡ []) → primitive_of i ≡ None → mode_of i ≡ None → StepCase i
return_row i less more shaped free works takes none prim mode s t u step static =
    let f : Frame = fetched s t u i step in
    one_row i s t u step static step.frame.dt (Returns less more) None Goes takes none (λ st. subst (λ (o : Option Primitive). Among nobody (arounds st o)) (sym prim) (nobody_among st)) (shaped f step.public step.around)
    (sym (ap (λ (m : Option ℕ). row_sums step.frame.protected m step.place.standing) mode ∙ unprotected step.frame.protected step.place.standing)) (λ clear fixed dyn public fits.
    let z = scene_of f fixed dyn public in
    record {
      bytes = [];
      to = 0;
      flags = None;
      later = Goes;
      stands = shaped z.frame z.public nobody;
      same = subst (λ (w : Work). SameIf w i (Returns less more) []) (sym (works z.frame z.public)) tt;
      low = dt_low s t u step;
      high = dt_high s t u step;
      fits = subst (λ (w : Work). IsWork s t u i step static step.frame.dt w (Returns less more)) (sym (works z.frame z.public)) (return_fits f less more (free f step.public step.around clear), refl);
      next = ap (λ (h : Shape). h.next) (shaped z.frame z.public nobody);
    })

-- what is known for sums holds after each of the returns
pub return_cases : StepCase ins.Ret × ((less : ℕ) → StepCase (ins.Reti less)) × ((more : ℕ) → StepCase (ins.Reto more)) × ((less more : ℕ) → StepCase (ins.Retio less more))
unfolding causes shape
return_cases = (
  return_row ins.Ret 0 0 (λ f public x. refl) (λ f public x none. none.0) (λ f public. refl) refl (λ f. refl) refl refl,
  λ less. return_row (ins.Reti less) less 0 (λ f public x. refl) (λ f public x none. none.0) (λ f public. refl) refl (λ f. refl) refl refl,
  λ more. return_row (ins.Reto more) 0 more (λ f public x. refl) (λ f public x none. none.0) (λ f public. refl) refl (λ f. refl) refl refl,
  λ less more. return_row (ins.Retio less more) less more (λ f public x. refl) (λ f public x none. none.0) (λ f public. refl) refl (λ f. refl) refl refl,
)
