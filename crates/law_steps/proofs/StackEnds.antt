-- The stack that each row leaves ends within the dynamic segment.
use Rattle.std.proofs.Common.{◌≡◌, ℕ, ◌+◌, ◌-◌, ◌≤◌, Bool, true, false, cond, ◌&&◌, ◌||◌, List, [], ◌++◌, length, Option, Some, None, refl, arith, sym, subst}
use Rattle.std.specs.Prelude.{⊤, ◌==◌, nat_le, take, drop}
use Rattle.std.proofs.lemmas.Bool.{and_parts, not-false, leb-true}
use Rattle.std.proofs.lemmas.Bool.Decides.{nat_tests}
use Rattle.std.proofs.lemmas.List.{length-append, length-take}
use Rattle.law_family.specs.model_machine.specs.declared.instruction.Ins.{Ins}
use Rattle.law_family.specs.model_machine.specs.declared.instruction.Ins.TheVariants as ins
use Rattle.law_family.specs.model_machine.specs.declared.machine.Abend.{Abend}
use Rattle.law_family.specs.model_device.specs.Bytes.{bytes2, splice}
use Rattle.law_family.specs.model_device.proofs.ListLemmas.{splice_longer, zeros_short}
use Rattle.law_family.specs.model_machine.specs.Frame.{Frame, Effect, Place, Static, Dynamic, Public, dynamic_base, dynamic_end, floor, frame_after_pop, is_over, no_return, protect, pending_change, static_bytes, static_written, where_is, write_effect, write_effect_at}
use Rattle.law_family.specs.model_machine.specs.Primitives.{Around, Done, Primitive, DelegatorAid, LoadCcr, Lookup, later_causes, prim_causes, primitive}
use Rattle.law_family.specs.model_machine.specs.Row.{causes, effect, first_cause, holds, row, row_end}
use Rattle.law_family.specs.model_machine.specs.Shapes.{Act, Stays, Answers, Jumps, Calls, Returns, Pushes, Replaces, Writes, Protects, Shape, act_effect, delegator_shape, meaning, pair_shape, prim_shape, shape, with_flags}
use Rattle.law_family.specs.law_rows.specs.Keeping.{OnDone}
use Rattle.law_family.specs.law_rows.proofs.RowShapes.{shapes}
use Rattle.law_family.specs.law_machine.proofs.BlockLengths.{at_short}
use Rattle.law_family.specs.law_machine.proofs.RowWords.{NoneHolds, none_holds}

-- a stack that ends within the dynamic segment, of which there are as many bytes
pub record StackIn (f : Frame) : Type 0 where
  pub high : f.dt ≤ dynamic_end
  pub room : f.dt - dynamic_base ≤ length f.dyn

-- ---- acts

-- what an act needs of the stack
abbrev EndsIn : Act → Frame → Type 0
EndsIn (Pushes b) f = f.dt + length b ≤ dynamic_end
EndsIn (Calls taken to) f = taken ≡ true → f.dt + 4 ≤ dynamic_end
EndsIn (Returns less more) f = f.lb - 4 - less + more ≤ f.dt
EndsIn act f = ⊤

splice_reaches : (l : List ℕ) (at : ℕ) (b : List ℕ) → at ≤ length l → at + length b ≤ length (splice l at b)
splice_reaches l at b low = omega (arith, low, length-append (take at l ++ b) (drop (at + length b) l), length-append (take at l) b, length-take at l)

pushed_in : (f : Frame) (b : List ℕ) → f.dt + length b ≤ dynamic_end → StackIn f → StackIn (record f { dyn = splice f.dyn (f.dt - dynamic_base) b; dt = f.dt + length b })
pushed_in f b ends h =
    let low = h.room in
    let reach = splice_reaches f.dyn (f.dt - dynamic_base) b low in
    record { high = ends; room = omega (arith, reach) }

longer_in : (f : Frame) (dyn : List ℕ) (dt : ℕ) → length f.dyn ≤ length dyn → dt ≤ f.dt → StackIn f → StackIn (record f { dyn = dyn; dt = dt })
longer_in f dyn dt longer less h =
    let high = h.high in
    let room = h.room in
    record { high = omega (arith, less, high); room = omega (arith, less, room, longer) }

static_in : (b : Bool) (f : Frame) (public : List ℕ) (i : ℕ) (bytes : List ℕ) → StackIn f → StackIn (static_written b f public i bytes).frame
static_in true f public i bytes h = record { high = h.high; room = h.room }
static_in false f public i bytes h = record { high = h.high; room = h.room }

written_at : (f : Frame) (public bytes : List ℕ) (o : Option Place) → StackIn f → StackIn (write_effect_at f public bytes o).frame
written_at f public bytes None h = h
written_at f public bytes (Some (Static i)) h = static_in f.protected f public i bytes h
written_at f public bytes (Some (Dynamic i)) h = longer_in f (splice f.dyn i bytes) f.dt (splice_longer f.dyn i bytes) (omega arith) h
written_at f public bytes (Some (Public i)) h = h

written_in : (f : Frame) (public : List ℕ) (a : ℕ) (bytes : List ℕ) → StackIn f → StackIn (write_effect f public a bytes).frame
unfolding write_effect
written_in f public a bytes h = written_at f public bytes (where_is f a (length bytes)) h

protect_in : (f : Frame) (public : List ℕ) (mode : ℕ) → StackIn f → StackIn (protect f public mode).frame
protect_in f public mode h = by (mode == 1 || mode == 3)
  where
    by : (b : Bool) → StackIn (cond {A = Effect} b (record { frame = record f { fixed = static_bytes f; pieces = []; protected = nat_le 2 mode }; public = public; changes = pending_change f f.pieces }) (record { frame = record f { pieces = []; protected = nat_le 2 mode }; public = public; changes = None })).frame
    by true = record { high = h.high; room = h.room }
    by false = record { high = h.high; room = h.room }

act_in : (act : Act) (f : Frame) (public : List ℕ) → EndsIn act f → StackIn f → StackIn (act_effect act f public).frame
act_in Stays f public ends h = h
act_in (Answers sw la) f public ends h = h
act_in (Jumps true to) f public ends h = record { high = h.high; room = h.room }
act_in (Jumps false to) f public ends h = h
act_in (Calls true to) f public ends h = let g = pushed_in f (bytes2 f.lb ++ bytes2 f.at) (ends refl) h in record { high = g.high; room = g.room }
act_in (Calls false to) f public ends h = h
act_in (Returns less more) f public ends h =
    let g = longer_in f (act_effect (Returns less more) f public).frame.dyn (f.lb - 4 - less + more) (splice_longer f.dyn (f.lb - 4 - less - dynamic_base) _) ends h in
    record { high = g.high; room = g.room }
act_in (Pushes b) f public ends h = pushed_in f b ends h
act_in (Replaces b) f public ends h = longer_in f (splice f.dyn (f.dt - length b - dynamic_base) b) f.dt (splice_longer f.dyn (f.dt - length b - dynamic_base) b) (omega arith) h
act_in (Writes a n b) f public ends h = written_in f public a b h
act_in (Protects mode) f public ends h = protect_in f public mode h

flags_in : (o : Option (Bool × Bool)) (e : Effect) → StackIn e.frame → StackIn (with_flags o e).frame
flags_in None e h = h
flags_in (Some cz) e h = record { high = h.high; room = h.room }

-- ---- shapes

-- what a shape needs of the stack: it leaves no more of it, and its act ends within the segment
record ShapeFits (f : Frame) (s : Shape) : Type 0 where
  less : s.dt ≤ f.dt
  ends : EndsIn s.act (record f { dt = s.dt })

shape_in : (s : Shape) (f : Frame) (public : List ℕ) → ShapeFits f s → StackIn f → StackIn (meaning s f public).effect.frame
shape_in s f public fits h =
    let less = fits.less in
    let high = h.high in
    let room = h.room in
    let g : Frame = record f { dt = s.dt } in
    let here : StackIn g = record { high = omega (arith, less, high); room = omega (arith, less, room) } in
    flags_in s.flags (act_effect s.act g public) (act_in s.act g public fits.ends here)

not_over : (f : Frame) (n : ℕ) → is_over f n ≡ false → f.dt + n ≤ dynamic_end
not_over f n e = grind (arith, nat_tests, e)

pushed_few : (f : Frame) (n k : ℕ) → is_over f n ≡ false → k ≤ n → f.dt + k ≤ dynamic_end
pushed_few f n k e few = let end = not_over f n e in omega (arith, end, few)

or_less : (b : Bool) (m n : ℕ) → m ≤ n → cond b m n ≤ n
or_less true m n h = h
or_less false m n h = omega arith

-- a call: the condition, and whether its place is on the stack
called_ends : (t b : Bool) (f : Frame) → (t && is_over (cond b (frame_after_pop f 2) f) 4) ≡ false → t ≡ true → cond b (f.dt - 2) f.dt + 4 ≤ dynamic_end
called_ends true true f e h = not_over (frame_after_pop f 2) 4 e
called_ends true false f e h = not_over f 4 e
called_ends false b f e h = absurd (cc h)

-- a return moves the stack down
returned_less : (f : Frame) (i o : ℕ) → no_return f i o ≡ false → f.lb - 4 - i + o ≤ f.dt
returned_less f i o e =
    let both = and_parts (nat_le (floor f + 4 + i) f.lb) (nat_le (f.lb + o) f.dt) (not-false (nat_le (floor f + 4 + i) f.lb && nat_le (f.lb + o) f.dt) e) in
    let low = leb-true (floor f + 4 + i) f.lb both.0 in
    let high = leb-true (f.lb + o) f.dt both.1 in
    omega (arith, low, high)

returns_fit : (f : Frame) (i o : ℕ) → no_return f i o ≡ false → (s : Shape) → s.dt ≡ f.dt → s.act ≡ Returns i o → ShapeFits f s
returns_fit f i o e s top act =
    record { less = omega (arith, top); ends = subst (λ (a : Act). EndsIn a (record f { dt = s.dt })) (sym act) (subst (λ (n : ℕ). f.lb - 4 - i + o ≤ n) (sym top) (returned_less f i o e)) }

delegator_fits : (f : Frame) (o : Option (List ℕ)) → ShapeFits f (delegator_shape f o)
delegator_fits f None = record { less = omega arith; ends = tt }
delegator_fits f (Some name) = record { less = omega arith; ends = tt }

prim_fits : (p : Primitive) (args : List ℕ) (f : Frame) (public : List ℕ) (x : Around) → f.dt ≤ dynamic_end → NoneHolds (later_causes p args f public x) → ShapeFits f (prim_shape p args f public x)
unfolding prim_shape later_causes
prim_fits LoadCcr args f public x high none = record { less = omega arith; ends = not_over f 1 none.0 }
prim_fits Lookup args f public x high none = record { less = omega arith; ends = omega (arith, high) }
prim_fits DelegatorAid args f public x high none = delegator_fits f x.delegator
prim_fits _ args f public x high none = record { less = omega arith; ends = tt }

pair_fits : (o : Option Primitive) (args : List ℕ) (f : Frame) (public : List ℕ) (x : Around) → f.dt ≤ dynamic_end → NoneHolds (prim_causes o args f public x) → ShapeFits f (pair_shape o args f public x)
pair_fits None args f public x high none = record { less = omega arith; ends = tt }
pair_fits (Some p) args f public x high none = prim_fits p args f public x high none.1.1

-- each row that is done leaves a stack that ends within the segment
shape_fits : (i : Ins) (f : Frame) (public : List ℕ) (x : Around) → f.dt ≤ dynamic_end → NoneHolds (causes i f public x) → ShapeFits f (shape i f public x)
unfolding shape causes
shape_fits (ins.Jump k to) f public x high none = record { less = or_less (k == 0) (f.dt - 2) f.dt (omega arith); ends = tt }
shape_fits (ins.Call k to) f public x high none =
    record { less = or_less (k == 0) (f.dt - 2) f.dt (omega arith); ends = called_ends (holds k f) (k == 0) f none.1.1.0 }
shape_fits (ins.Pushz n) f public x high none = record { less = omega arith; ends = pushed_few f n _ none.1.0 (zeros_short n) }
shape_fits (ins.Pushb b) f public x high none = record { less = omega arith; ends = not_over f 1 none.0 }
shape_fits (ins.Pushw w) f public x high none = record { less = omega arith; ends = not_over f 2 none.0 }
shape_fits (ins.Prim set number args) f public x high none = pair_fits (primitive set number) args f public x high none
shape_fits ins.Ret f public x high none = returns_fit f 0 0 none.0 _ refl refl
shape_fits (ins.Reti i) f public x high none = returns_fit f i 0 none.0 _ refl refl
shape_fits (ins.Reto o) f public x high none = returns_fit f 0 o none.0 _ refl refl
shape_fits (ins.Retio i o) f public x high none = returns_fit f i o none.0 _ refl refl
shape_fits (ins.Load tag off n) f public x high none = record { less = omega arith; ends = pushed_few f n _ none.1.1.1.0 (at_short f public _ n) }
shape_fits (ins.Loadi tag off n) f public x high none = record { less = omega arith; ends = pushed_few f n _ none.1.1.1.0 (at_short f public _ n) }
shape_fits (ins.Loada tag off) f public x high none = record { less = omega arith; ends = not_over f 2 none.1.0 }
shape_fits (ins.Index tag off size) f public x high none = record { less = omega arith; ends = not_over (frame_after_pop f (cond (tag == 0) 3 1)) 2 none.1.1.0 }
shape_fits _ f public x high none = record { less = omega arith; ends = tt }

effect_in : (i : Ins) (f : Frame) (public : List ℕ) (x : Around) → NoneHolds (causes i f public x) → StackIn f → StackIn (effect i f public x).effect.frame
effect_in i f public x none h =
    subst (λ (d : Done). StackIn d.effect.frame) (sym (shapes i f public x)) (shape_in (shape i f public x) f public (shape_fits i f public x h.high none) h)

-- each row leaves a stack that ends within the dynamic segment
pub row_in : (i : Ins) (f : Frame) (public : List ℕ) (x : Around) → StackIn f → OnDone (row i f public x) (λ d. StackIn d.effect.frame)
unfolding row
row_in i f public x h = by (first_cause (causes i f public x)) refl
  where
    by : (o : Option Abend) → first_cause (causes i f public x) ≡ o → OnDone (row_end o (effect i f public x)) (λ d. StackIn d.effect.frame)
    by (Some a) e = tt
    by None e = effect_in i f public x (none_holds (causes i f public x) e) h
