-- The causes of a row of accepted code: none of the abends 01, 02, 04 and 05 is the first that holds.
use Rattle.std.proofs.Common.{◌≡◌, ℕ, ◌+◌, ◌-◌, ◌≤◌, Bool, true, false, cond, List, [], ◌∷◌, Option, Some, None, refl, sym, ap, subst, ◌∙◌, arith, le-ltb}
use Rattle.std.specs.Prelude.{◌==◌, ◌&&◌, not, nat_lt}
use Rattle.std.proofs.lemmas.Bool.{and_parts, and_left, and_right, not_from_true}
use Rattle.law_family.specs.model_machine.specs.declared.instruction.Ins.{Ins}
use Rattle.law_family.specs.model_machine.specs.declared.instruction.Ins.TheVariants as ins
use Rattle.law_family.specs.model_machine.specs.declared.machine.Abend.{Abend}
use Rattle.law_family.specs.model_machine.specs.declared.machine.Abend.TheVariants.{A06}
use Rattle.law_family.specs.model_device.specs.Bytes.{num}
use Rattle.law_family.specs.model_machine.specs.Frame.{Frame, floor, dynamic_end, is_under, is_over, frame_after_pop, top}
use Rattle.law_family.specs.model_machine.specs.Primitives.{Around, Primitive, LoadCcr, DelegatorAid, BitByte, primitive, prim_causes, later_causes, reported_causes}
use Rattle.law_family.specs.model_machine.specs.Chain.{frame_at}
use Rattle.law_family.specs.model_machine.specs.Row.{causes, first_cause, holds, no_place, on_stack}
use Rattle.model_stack.specs.StackRows.{need, always_abends, prim_abends, height_after, pair_uses, prim_uses, row_uses, is_indirect, counts, call_target, is_inside, target_inside, call_inside, jump_target, places_inside}
use Rattle.mc_check.specs.Checked.{is_excluded}
use Rattle.mc_check.specs.Standing.{StandsAt}
use Rattle.mc_check.proofs.CalmWrites.{IsRoomy, stands_roomy}

-- ---- lists of causes

-- whether none of the excluded abends holds in a list of causes, and then `last`, so that there is something to rewrite
-- in each case
abbrev pub are_calm : Bool → List (Abend × Bool) → Bool
are_calm last [] = last
are_calm last (c ∷ cs) = not (is_excluded c.0 && c.1) && are_calm last cs

silent : (b : Bool) → not (b && true) ≡ true → b ≡ false
silent true s = absurd (cc s)
silent false s = refl

first_by : (c d : Abend) (b last : Bool) (cs : List (Abend × Bool)) (rest : Option Abend) → (not (is_excluded c && b) && are_calm last cs) ≡ true → (are_calm last cs ≡ true → rest ≡ Some d → is_excluded d ≡ false) → cond b (Some c) rest ≡ Some d
    → is_excluded d ≡ false
first_by c d b last cs rest calm others e = grind (arith, silent, and_parts)

-- the first cause of calm ones is none of the excluded abends
pub first_calm : (cs : List (Abend × Bool)) (last : Bool) (d : Abend) → are_calm last cs ≡ true → first_cause cs ≡ Some d → is_excluded d ≡ false
first_calm [] last d calm e = absurd (cc e)
first_calm (c ∷ cs) last d calm e = first_by c.0 d c.1 last cs (first_cause cs) calm (first_calm cs last d) e

-- ---- tests by kind

-- there are n bytes on the stack
under : (f : Frame) (h n : ℕ) → IsRoomy f h → n ≤ h → is_under f n ≡ false
under f h n r few = le-ltb f.dt (floor f + n) (omega (arith, r.low, r.top))

-- a test of an operand that may be on the stack
under_on : (f : Frame) (h : ℕ) → IsRoomy f h → (b : Bool) (n : ℕ) → (b && is_under f n) ≡ is_under f (cond b n 0)
under_on f h r true n = refl
under_on f h r false n = sym (under f h 0 r (omega arith))

-- there is room for n bytes more
over : (f : Frame) (n : ℕ) → f.dt + n ≤ dynamic_end → is_over f n ≡ false
over f n room = le-ltb dynamic_end (f.dt + n) room

-- a place in the code is one to go to
placed : (f : Frame) (len : ℕ) (o : Option ℕ) → f.code_len ≡ len → is_inside len o ≡ true → no_place f o ≡ false
placed f len None is inside = absurd (cc inside)
placed f len (Some p) is inside = not_from_true (nat_lt p f.code_len) (ap (λ (n : ℕ). nat_lt p n) is ∙ inside)

-- the target of a jump that is not on the stack, and that of a call
jump_placed : (b : Bool) (f : Frame) (len n to : ℕ) → f.code_len ≡ len → b ≡ false → target_inside len (cond b None (Some (Some to))) ≡ true → no_place f (Some (cond b n to)) ≡ false
jump_placed true f len n to is direct inside = absurd (cc direct)
jump_placed false f len n to is direct inside = placed f len (Some to) is inside

call_placed : (b : Bool) (f : Frame) (len n to : ℕ) → f.code_len ≡ len → b ≡ false → call_inside len (cond b None (Some to)) ≡ true → no_place f (Some (cond b n to)) ≡ false
call_placed true f len n to is direct inside = absurd (cc direct)
call_placed false f len n to is direct inside = placed f len (Some to) is inside

call_over : (b : Bool) (f : Frame) (to : ℕ) → b ≡ false → ((q : ℕ) → cond b None (Some to) ≡ Some q → f.dt + 4 ≤ dynamic_end) → is_over (cond b (frame_after_pop f 2) f) 4 ≡ false
call_over true f to direct room = absurd (cc direct)
call_over false f to direct room = over f 4 (room to refl)

-- ---- primitives

reported_calm : (g : Frame) (a : ℕ) (o : Option (List ℕ)) (last : Bool) → last ≡ true → are_calm last (reported_causes g a o) ≡ true
reported_calm g a None last is = is
reported_calm g a (Some name) last is = is

-- the tests of the stack, by the bytes that the primitive needs
later_calm : (p : Primitive) (args : List ℕ) (f : Frame) (h : ℕ) (public : List ℕ) (x : Around) (last : Bool) → last ≡ true → IsRoomy f h → (prim_uses p args).needs ≤ h
    → f.dt - (prim_uses p args).pops + (prim_uses p args).pushes ≤ dynamic_end → are_calm last (later_causes p args f public x) ≡ true
unfolding later_causes
later_calm LoadCcr args f h public x last is r few room = simp (is, over f 1 (omega arith))
later_calm DelegatorAid args f h public x last is r few room = simp (under f h 2 r few) (reported_calm (frame_after_pop f 2) _ x.delegator last is)
later_calm p args f h public x last is r few room = simp (is, under f h (prim_uses p args).needs r few)

prim_calm : (p : Option Primitive) (args : List ℕ) (f : Frame) (h : ℕ) (public : List ℕ) (x : Around) (last : Bool) → last ≡ true → IsRoomy f h → (pair_uses p args).needs ≤ h
    → f.dt - (pair_uses p args).pops + (pair_uses p args).pushes ≤ dynamic_end → are_calm last (prim_causes p args f public x) ≡ true
prim_calm None args f h public x last is r few room = is
prim_calm (Some p) args f h public x last is r few room = later_calm p args f h public x last is r few room

-- ---- all rows

-- the conditions under which an instruction runs: its bytes are there, its places are in the code, and there is room
-- after it
pub record IsReadyToRun (len : ℕ) (i : Ins) (f : Frame) (h : ℕ) : Type 0 where
  pub roomy : IsRoomy f h
  pub code_len : f.code_len ≡ len
  pub few : (row_uses i).needs ≤ h
  pub direct : is_indirect i ≡ false
  pub inside : places_inside len i f.at ≡ true
  pub no_return : counts i ≡ None
  pub room : f.dt - (row_uses i).pops + (row_uses i).pushes ≤ dynamic_end
  pub call_room : (q : ℕ) → call_target i ≡ Some q → f.dt + 4 ≤ dynamic_end

target_known : (len : ℕ) (i : Ins) (next : ℕ) → places_inside len i next ≡ true → target_inside len (jump_target i next) ≡ true
target_known len i next h = grind (arith, and_parts)

call_known : (len : ℕ) (i : Ins) (next : ℕ) → places_inside len i next ≡ true → call_inside len (call_target i) ≡ true
call_known len i next h = grind (arith, and_parts)

-- the tests of the stack, by the bytes that the row needs and pushes, and the places that it goes to
causes_calm : (i : Ins) (len h : ℕ) (f : Frame) (public : List ℕ) (x : Around) (last : Bool) → last ≡ true → IsReadyToRun len i f h → are_calm last (causes i f public x) ≡ true
unfolding causes
causes_calm (ins.Branch k d) len h f public x last is y = simp (is, and_right (holds k f) _ (placed f len _ y.code_len (target_known len (ins.Branch k d) f.at y.inside)))
causes_calm (ins.Jump k to) len h f public x last is y =
    let here = jump_placed (k == 0) f len (num (top f 2)) to y.code_len y.direct (target_known len (ins.Jump k to) f.at y.inside) in
    simp (is, and_left (k == 0) (is_under f 2) y.direct, and_right (holds k f) _ here)
causes_calm (ins.Call k to) len h f public x last is y =
    let here = call_placed (k == 0) f len (num (top f 2)) to y.code_len y.direct (call_known len (ins.Call k to) f.at y.inside) in
    simp (is, and_left (k == 0) (is_under f 2) y.direct, and_right (holds k f) _ here, and_right (holds k f) _ (call_over (k == 0) f to y.direct y.call_room))
causes_calm (ins.Prim set number args) len h f public x last is y = prim_calm (primitive set number) args f h public x last is y.roomy y.few y.room
causes_calm ins.Ret len h f public x last is y = absurd (cc y.no_return)
causes_calm (ins.Reti i) len h f public x last is y = absurd (cc y.no_return)
causes_calm (ins.Reto o) len h f public x last is y = absurd (cc y.no_return)
causes_calm (ins.Retio i o) len h f public x last is y = absurd (cc y.no_return)
causes_calm (ins.Index tag off size) len h f public x last is y = simp (is, under f h (on_stack tag 3 1) y.roomy y.few, over (frame_after_pop f (on_stack tag 3 1)) 2 y.room)
causes_calm i len h f public x last is y =
    simp (is, under_on f h y.roomy, under f h (row_uses i).needs y.roomy y.few, over f (row_uses i).pushes (omega (arith, y.room, y.roomy.high)))

-- ---- instructions that always abend

-- the first cause holds
at_once : (b : Bool) (rest : Option Abend) → b ≡ true → cond b (Some A06) rest ≡ Some A06
at_once b rest holds = ap (λ (t : Bool). cond t (Some A06) rest) holds

prim_at_once : (p : Option Primitive) (args : List ℕ) (f : Frame) (public : List ℕ) (x : Around) → prim_abends p args ≡ true → first_cause (prim_causes p args f public x) ≡ Some A06
prim_at_once None args f public x h = refl
prim_at_once (Some p) args f public x h = at_once _ _ h

-- an instruction that abends by its own bytes does so with 06, whatever else holds
pub always_first : (i : Ins) (f : Frame) (public : List ℕ) (x : Around) → always_abends i ≡ true → first_cause (causes i f public x) ≡ Some A06
unfolding causes
always_first (ins.Prim set number args) f public x h = prim_at_once (primitive set number) args f public x h
always_first _ f public x h = grind (arith, h)

-- ---- rows

-- a frame keeps its stack as its code address moves after the instruction
pub stepped_stands : (len size base h : ℕ) (f : Frame) (next : ℕ) → StandsAt len size base h f → StandsAt len size base h (frame_at f next)
stepped_stands len size base h f next s =
    record { session = s.session; code_len = s.code_len; dyn = s.dyn; fixed = s.fixed; lb = s.lb; dt = s.dt; room = s.room }

-- a row pops no more than it needs
tagged_pops : (b : Bool) (n m : ℕ) → n ≤ m → n ≤ cond b m n
tagged_pops true n m less = less
tagged_pops false n m less = omega arith

prim_pops : (p : Primitive) (args : List ℕ) → (prim_uses p args).pops ≤ (prim_uses p args).needs
prim_pops BitByte args = omega arith
prim_pops _ args = omega arith

pair_pops : (p : Option Primitive) (args : List ℕ) → (pair_uses p args).pops ≤ (pair_uses p args).needs
pair_pops None args = omega arith
pair_pops (Some p) args = prim_pops p args

pub row_pops : (i : Ins) → (row_uses i).pops ≤ (row_uses i).needs
row_pops i = grind (arith, pair_pops, tagged_pops)

-- an instruction that may run needs what its row needs
pub need_few : (i : Ins) (h : ℕ) → need i ≤ h → always_abends i ≡ false → (row_uses i).needs ≤ h
need_few i h few runs = subst (λ (b : Bool). cond b 0 (row_uses i).needs ≤ h) runs few

calm_by : (b : Bool) (len size base h : ℕ) (i : Ins) (f : Frame) (public : List ℕ) (x : Around) (c : Abend) → always_abends i ≡ b → StandsAt len size base h f
    → need i ≤ h → is_indirect i ≡ false → places_inside len i f.at ≡ true → counts i ≡ None
    → (always_abends i ≡ false → size + base + height_after i h ≤ 512) → ((q : ℕ) → call_target i ≡ Some q → size + base + h + 4 ≤ 512)
    → first_cause (causes i f public x) ≡ Some c → is_excluded c ≡ false
calm_by true len size base h i f public x c is s few direct inside no_return room call_room e =
    let only : c ≡ A06 = cc (e, always_first i f public x is) in
    ap is_excluded only
calm_by false len size base h i f public x c is s few direct inside no_return room call_room e =
    let enough : size + base + height_after i h ≤ 512 = room is in
    let few_bytes : (row_uses i).needs ≤ h = need_few i h few is in
    let pops : (row_uses i).pops ≤ (row_uses i).needs = row_pops i in
    first_calm (causes i f public x) true c (causes_calm i len h f public x true refl (record {
      roomy = stands_roomy len size base h f s;
      code_len = s.code_len;
      few = few_bytes;
      direct = direct;
      inside = inside;
      no_return = no_return;
      room = omega arith;
      call_room = λ q is_call. omega (arith, call_room q is_call);
    })) e

-- the first cause of a row on accepted code is no excluded abend
pub rows_calm : (len size base h : ℕ) (i : Ins) (next : ℕ) (f : Frame) (public : List ℕ) (x : Around) (c : Abend) → StandsAt len size base h f
    → need i ≤ h → is_indirect i ≡ false → places_inside len i next ≡ true → counts i ≡ None
    → (always_abends i ≡ false → size + base + height_after i h ≤ 512) → ((q : ℕ) → call_target i ≡ Some q → size + base + h + 4 ≤ 512)
    → first_cause (causes i (frame_at f next) public x) ≡ Some c → is_excluded c ≡ false
rows_calm len size base h i next f public x c s few direct inside no_return room call_room e =
    calm_by (always_abends i) len size base h i (frame_at f next) public x c refl (stepped_stands len size base h f next s) few direct inside no_return room call_room e
