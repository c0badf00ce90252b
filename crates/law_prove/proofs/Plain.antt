-- Rows of one outcome that neither read nor write at an address: exits apart, those of the status, of jumps and calls to a
-- place in the code, and pushes of what the instruction or the registers say.
use Rattle.std.proofs.Common.{◌≡◌, ℕ, ◌+◌, ◌-◌, ◌≤◌, Bool, true, false, cond, List, [], ◌∷◌, length, ℤ, Option, Some, None, refl, ap, arith}
use Rattle.std.specs.Prelude.{◌==◌, ◌&&◌, is_none, nat_lt}
use Rattle.std.proofs.lemmas.Bool.{ltb-false}
use Rattle.std.proofs.lemmas.List.{length-replicate}
use Rattle.model_prove.specs.model_device.specs.Bytes.{bytes2, num, zeros}
use Rattle.model_prove.specs.model_machine.specs.declared.instruction.Ins.{Ins}
use Rattle.model_prove.specs.model_machine.specs.declared.instruction.Ins.TheVariants as ins
use Rattle.model_prove.specs.model_machine.specs.declared.machine.Abend.{Abend}
use Rattle.model_prove.specs.model_machine.specs.declared.machine.Abend.TheVariants.{A02, A03, A04, A05, A06}
use Rattle.model_prove.specs.model_machine.specs.Frame.{Frame, moved_address, dynamic_base, dynamic_end, floor, is_under, is_over, frame_after_pop, top}
use Rattle.model_prove.specs.model_machine.specs.Row.{causes, holds, no_place, operand, address_or_zero}
use Rattle.model_prove.specs.model_machine.specs.Chain.{frame_at}
use Rattle.model_prove.specs.model_machine.specs.Shapes.{Stays, Answers, Jumps, Calls, Pushes, shape}
use Rattle.model_prove.specs.Splits.{stand_in_stack, Scene, few_combinations, top_places}
use Rattle.model_prove.specs.Steps.{Spot, sets, inside, by_choices}
use Rattle.model_prove.specs.Arrivals.{Setting}
use Rattle.model_prove.specs.model_rules.specs.Loadable.{IsLoadable}
use Rattle.model_prove.specs.Tables.{includes_all}
use Rattle.model_prove.specs.Keys.{Tables}
use Rattle.model_prove.specs.model_rules.specs.Rules.{Target}
use Rattle.law_prove.specs.Laws.{LeadsInto, LeadLaw, PopLaw, StatusLaw, JumpLaw, PushLaw}
use Rattle.law_prove.proofs.Seen.{fit_sets}
use Rattle.law_prove.proofs.Acts.{spot_of}
use Rattle.law_prove.proofs.Turns.{like}
use Rattle.law_prove.proofs.Alike.{same_operand}
use Rattle.law_prove.proofs.Single.{going, Turn, RowCase, IsFetchedOnce, law_of, LedBy, shaped_row, led_stays, led_jumps, led_calls, led_answers, led_pushes}

-- ---- NOP, and rows that pop

nop_case : RowCase ins.Nop
unfolding causes shape
nop_case s u t g loadable leads turn includes =
    let d = turn.frame.dt in
    shaped_row s u t g loadable leads ins.Nop turn [] d Stays None includes refl refl refl refl refl refl
    (λ none. led_stays s u t g loadable leads ins.Nop turn d [] turn.place.frame.low turn.place.frame.high)

-- the bytes below the floor are not popped
pub above : (f : Frame) (n : ℕ) → is_under f n ≡ false → dynamic_base + f.session + n ≤ f.dt
above f n e = ltb-false f.dt (floor f + n) e

-- fewer bytes of the stack lead to the next place
pop_led : (i : Ins) (n : ℕ) (s : Setting) (u t : Tables) (g : Target) (loadable : IsLoadable s.app) (leads : LeadsInto s u t) (turn : Turn s u i) → is_under turn.frame n ≡ false → LedBy s u t g loadable leads i turn (turn.frame.dt - n) Stays []
pop_led i n s u t g loadable leads turn none =
    let over = above turn.frame n none in
    let high : turn.frame.dt ≤ dynamic_end = turn.place.frame.high in
    led_stays s u t g loadable leads i turn (turn.frame.dt - n) [] (omega (arith, over)) (omega (arith, high))

popn_case : (n : ℕ) → RowCase (ins.Popn n)
unfolding causes shape
popn_case n s u t g loadable leads turn includes =
    shaped_row s u t g loadable leads (ins.Popn n) turn ((A06, n == 0) ∷ (A04, is_under turn.frame n) ∷ []) (turn.frame.dt - n) Stays None includes refl refl refl refl refl refl
    (λ none. pop_led (ins.Popn n) n s u t g loadable leads turn none.1.0)

popb_case : RowCase ins.Popb
unfolding causes shape
popb_case s u t g loadable leads turn includes =
    shaped_row s u t g loadable leads ins.Popb turn ((A04, is_under turn.frame 1) ∷ []) (turn.frame.dt - 1) Stays None includes refl refl refl refl refl refl
    (λ none. pop_led ins.Popb 1 s u t g loadable leads turn none.0)

popw_case : RowCase ins.Popw
unfolding causes shape
popw_case s u t g loadable leads turn includes =
    shaped_row s u t g loadable leads ins.Popw turn ((A04, is_under turn.frame 2) ∷ []) (turn.frame.dt - 2) Stays None includes refl refl refl refl refl refl
    (λ none. pop_led ins.Popw 2 s u t g loadable leads turn none.0)

-- ---- status and length of the reply

setsw_case : (sw : ℕ) → RowCase (ins.Setsw sw)
unfolding causes shape
setsw_case sw s u t g loadable leads turn includes =
    shaped_row s u t g loadable leads (ins.Setsw sw) turn [] turn.frame.dt (Answers (Some sw) None) None includes refl refl refl refl refl refl
    (λ none. led_answers s u t g loadable leads (ins.Setsw sw) turn [] (Some sw) None)

setla_case : (la : ℕ) → RowCase (ins.Setla la)
unfolding causes shape
setla_case la s u t g loadable leads turn includes =
    shaped_row s u t g loadable leads (ins.Setla la) turn [] turn.frame.dt (Answers None (Some la)) None includes refl refl refl refl refl refl
    (λ none. led_answers s u t g loadable leads (ins.Setla la) turn [] None (Some la))

setswla_case : (sw la : ℕ) → RowCase (ins.Setswla sw la)
unfolding causes shape
setswla_case sw la s u t g loadable leads turn includes =
    shaped_row s u t g loadable leads (ins.Setswla sw la) turn [] turn.frame.dt (Answers (Some sw) (Some la)) None includes refl refl refl refl refl refl
    (λ none. led_answers s u t g loadable leads (ins.Setswla sw la) turn [] (Some sw) (Some la))

-- ---- jumps and calls

branch_case : (k : ℕ) (d : ℤ) → RowCase (ins.Branch k d)
unfolding causes shape
branch_case k d s u t g loadable leads turn includes =
    let f : Frame = frame_at turn.frame turn.next in
    let taken = holds k f in
    let to = address_or_zero (moved_address f.at d) in
    shaped_row s u t g loadable leads (ins.Branch k d) turn ((A02, holds k f && no_place f (moved_address f.at d)) ∷ []) f.dt (Jumps taken to) None includes refl refl refl refl refl refl
    (λ none. led_jumps s u t g loadable leads (ins.Branch k d) turn f.dt [] taken to turn.place.frame.low turn.place.frame.high)

-- ---- pushes

-- there is room for what is pushed
pub over_is : (dt n m : ℕ) → nat_lt dynamic_end (dt + n) ≡ false → m ≡ n → dt + m ≤ dynamic_end
over_is dt n m none is = let room = ltb-false dynamic_end (dt + n) none in omega (arith, room, is)

pushz_case : (n : ℕ) → RowCase (ins.Pushz n)
unfolding causes shape
pushz_case n s u t g loadable leads turn includes =
    let d = turn.frame.dt in
    let b = zeros n in
    shaped_row s u t g loadable leads (ins.Pushz n) turn ((A06, n == 0) ∷ (A05, nat_lt dynamic_end (d + n)) ∷ []) d (Pushes b) None includes refl refl refl refl refl refl
    (λ none. led_pushes s u t g loadable leads (ins.Pushz n) turn d b (sets b) (fit_sets b) (over_is d n (length b) none.1.0 (length-replicate {A = ℕ} n 0)) turn.place.frame.low turn.place.frame.high)

pushb_case : (v : ℕ) → RowCase (ins.Pushb v)
unfolding causes shape
pushb_case v s u t g loadable leads turn includes =
    let d = turn.frame.dt in
    let b = v ∷ [] in
    shaped_row s u t g loadable leads (ins.Pushb v) turn ((A05, nat_lt dynamic_end (d + 1)) ∷ []) d (Pushes b) None includes refl refl refl refl refl refl
    (λ none. led_pushes s u t g loadable leads (ins.Pushb v) turn d b (sets b) (fit_sets b) (over_is d 1 1 none.0 refl) turn.place.frame.low turn.place.frame.high)

pushw_case : (v : ℕ) → RowCase (ins.Pushw v)
unfolding causes shape
pushw_case v s u t g loadable leads turn includes =
    let d = turn.frame.dt in
    let b = bytes2 v in
    shaped_row s u t g loadable leads (ins.Pushw v) turn ((A05, nat_lt dynamic_end (d + 2)) ∷ []) d (Pushes b) None includes refl refl refl refl refl refl
    (λ none. led_pushes s u t g loadable leads (ins.Pushw v) turn d b (sets b) (fit_sets b) (over_is d 2 2 none.0 refl) turn.place.frame.low turn.place.frame.high)

loada_case : (tag : ℕ) (off : ℤ) → RowCase (ins.Loada tag off)
unfolding causes shape
loada_case tag off s u t g loadable leads turn includes =
    let f : Frame = frame_at turn.frame turn.next in
    let d = turn.frame.dt in
    let o = operand f tag off 0 in
    let same : operand (like f (stand_in_stack turn.place.calls)) tag off 0 ≡ o = same_operand f (stand_in_stack turn.place.calls) tag off 0 in
    let b = bytes2 (address_or_zero o) in
    shaped_row s u t g loadable leads (ins.Loada tag off) turn ((A03, is_none o) ∷ (A05, nat_lt dynamic_end (d + 2)) ∷ []) d (Pushes b) None includes
    (ap (λ (z : Option ℕ). (A03, is_none z) ∷ (A05, nat_lt dynamic_end (d + 2)) ∷ []) same) refl
    (ap (λ (z : Option ℕ). going d (Pushes (bytes2 (address_or_zero z))) None) same) refl refl refl
    (λ none. led_pushes s u t g loadable leads (ins.Loada tag off) turn d b (sets b) (fit_sets b) (over_is d 2 2 none.1.0 refl) turn.place.frame.low turn.place.frame.high)

-- if the place to go to is in the instruction, no byte decides
taken_once : (s : Setting) (t : Tables) (i : Ins) (f : Frame) (z : Scene) (here there : Spot) (b : Bool) → b ≡ false
    → includes_all t (by_choices (few_combinations here.known.bytes (inside z (cond b (top_places f 2) []))) b s i z here there) ≡ true
    → includes_all t (by_choices (few_combinations here.known.bytes (inside z [])) false s i z here there) ≡ true
taken_once s t i f z here there true e includes = absurd (cc e)
taken_once s t i f z here there false e includes = includes

jump_once : (k to : ℕ) → (k == 0) ≡ false → IsFetchedOnce (ins.Jump k to)
jump_once k to other s u t g loadable leads turn includes = grind (arith, spot_of, taken_once)

call_once : (k to : ℕ) → (k == 0) ≡ false → IsFetchedOnce (ins.Call k to)
call_once k to other s u t g loadable leads turn includes = grind (arith, spot_of, taken_once)

jump_case : (k to : ℕ) → (k == 0) ≡ false → RowCase (ins.Jump k to)
unfolding causes shape
jump_case k to other s u t g loadable leads turn includes =
    let f : Frame = frame_at turn.frame turn.next in
    let l : Frame = like f (stand_in_stack turn.place.calls) in
    let d = turn.frame.dt in
    let cs : List (Abend × Bool) = (A04, false) ∷ (A02, holds k f && no_place f (Some to)) ∷ [] in
    shaped_row s u t g loadable leads (ins.Jump k to) turn cs d (Jumps (holds k f) to) None includes
    (ap (λ (b : Bool). (A04, b && is_under f 2) ∷ (A02, holds k f && no_place f (Some (cond b (num (top l 2)) to))) ∷ []) other)
    (ap (λ (b : Bool). (A04, b && is_under f 2) ∷ (A02, holds k f && no_place f (Some (cond b (num (top f 2)) to))) ∷ []) other)
    (ap (λ (b : Bool). going (cond b (d - 2) d) (Jumps (holds k f) (cond b (num (top l 2)) to)) None) other)
    (ap (λ (b : Bool). going (cond b (d - 2) d) (Jumps (holds k f) (cond b (num (top f 2)) to)) None) other) refl refl
    (λ none. led_jumps s u t g loadable leads (ins.Jump k to) turn d [] (holds k f) to turn.place.frame.low turn.place.frame.high)

room_if : (b : Bool) (dt : ℕ) → (b && nat_lt dynamic_end (dt + 4)) ≡ false → b ≡ true → dt + 4 ≤ dynamic_end
room_if true dt none is = over_is dt 4 4 none refl
room_if false dt none is = absurd (cc is)

call_case : (k to : ℕ) → (k == 0) ≡ false → RowCase (ins.Call k to)
unfolding causes shape
call_case k to other s u t g loadable leads turn includes =
    let f : Frame = frame_at turn.frame turn.next in
    let l : Frame = like f (stand_in_stack turn.place.calls) in
    let d = turn.frame.dt in
    let cs : List (Abend × Bool) = (A04, false) ∷ (A02, holds k f && no_place f (Some to)) ∷ (A05, holds k f && nat_lt dynamic_end (d + 4)) ∷ [] in
    shaped_row s u t g loadable leads (ins.Call k to) turn cs d (Calls (holds k f) to) None includes
    (ap (λ (b : Bool). (A04, b && is_under f 2) ∷ (A02, holds k f && no_place f (Some (cond b (num (top l 2)) to))) ∷ (A05, holds k f && is_over (cond b (frame_after_pop l 2) l) 4) ∷ []) other)
    (ap (λ (b : Bool). (A04, b && is_under f 2) ∷ (A02, holds k f && no_place f (Some (cond b (num (top f 2)) to))) ∷ (A05, holds k f && is_over (cond b (frame_after_pop f 2) f) 4) ∷ []) other)
    (ap (λ (b : Bool). going (cond b (d - 2) d) (Calls (holds k f) (cond b (num (top l 2)) to)) None) other)
    (ap (λ (b : Bool). going (cond b (d - 2) d) (Calls (holds k f) (cond b (num (top f 2)) to)) None) other) refl refl
    (λ none. led_calls s u t g loadable leads (ins.Call k to) turn d [] (holds k f) to (room_if (holds k f) d none.1.1.0) turn.place.frame.low turn.place.frame.high)

-- ---- the laws

-- NOP is covered
pub nop_law : LeadLaw ins.Nop
nop_law = law_of ins.Nop (λ s u t g loadable leads turn e. e) nop_case

-- the rows that pop are covered
pub pop_laws : PopLaw
pop_laws = (
  λ n. law_of (ins.Popn n) (λ s u t g loadable leads turn e. e) (popn_case n),
  law_of ins.Popb (λ s u t g loadable leads turn e. e) popb_case,
  law_of ins.Popw (λ s u t g loadable leads turn e. e) popw_case,
)

-- the rows that set the status or length of the reply are covered
pub status_laws : StatusLaw
status_laws = (
  λ sw. law_of (ins.Setsw sw) (λ s u t g loadable leads turn e. e) (setsw_case sw),
  λ la. law_of (ins.Setla la) (λ s u t g loadable leads turn e. e) (setla_case la),
  λ sw la. law_of (ins.Setswla sw la) (λ s u t g loadable leads turn e. e) (setswla_case sw la),
)

branch_law : (k : ℕ) (d : ℤ) → LeadLaw (ins.Branch k d)
branch_law k d = law_of (ins.Branch k d) (λ s u t g loadable leads turn e. e) (branch_case k d)

jump_law : (k to : ℕ) → (k == 0) ≡ false → LeadLaw (ins.Jump k to)
jump_law k to other = law_of (ins.Jump k to) (jump_once k to other) (jump_case k to other)

call_law : (k to : ℕ) → (k == 0) ≡ false → LeadLaw (ins.Call k to)
call_law k to other = law_of (ins.Call k to) (call_once k to other) (call_case k to other)

-- the rows that push bytes of the instruction or the registers are covered
pub push_laws : PushLaw
push_laws = (
  λ n. law_of (ins.Pushz n) (λ s u t g loadable leads turn e. e) (pushz_case n),
  λ b. law_of (ins.Pushb b) (λ s u t g loadable leads turn e. e) (pushb_case b),
  λ w. law_of (ins.Pushw w) (λ s u t g loadable leads turn e. e) (pushw_case w),
  λ tag off. law_of (ins.Loada tag off) (λ s u t g loadable leads turn e. e) (loada_case tag off),
)

-- the jumps and calls to a place in the code are covered
pub jump_laws : JumpLaw
jump_laws = (branch_law, jump_law, call_law)
