-- What each instruction does is the meaning of its shape.
use Rattle.std.specs.Prelude.{◌≡◌, ℕ, ◌+◌, ◌-◌, Bool, true, false, cond, ◌==◌, List, [], ◌∷◌, position, unwrap_or, is_some, Option, Some, None}
use Rattle.std.proofs.Common.{refl, ap}
use Rattle.model_machine.specs.declared.instruction.Ins.TheVariants as ins
use Rattle.model_machine.specs.model_device.specs.Bytes.{num}
use Rattle.model_machine.specs.Frame.{Frame, bytes_at, stack_bytes, frame_after_pop}
use Rattle.model_machine.specs.Primitives.{Around, effect_and_next, frame_effect, Primitive, Lookup, DelegatorAid, primitive, lookup_effect, delegator_reported, number_below_top, count_at, prim_effect, prim_done}
use Rattle.model_machine.specs.Row.{effect, holds, frame_after_jump, frame_after_call, target}
use Rattle.model_machine.specs.Shapes.{meaning, prim_shape, pair_shape, shape, flagged, Pushes, delegator_shape}
use Rattle.law_rows.specs.ShapeLaw.{ShapeLaw}

-- ---- primitives

looked_up : (f : Frame) (public : List ℕ) (o : Option ℕ) → effect_and_next (lookup_effect (frame_after_pop f 3) public o) ≡ meaning (flagged (f.dt - 3) (Pushes (unwrap_or o 0 ∷ [])) f.c (is_some o)) f public
looked_up f public None = refl
looked_up f public (Some i) = refl

reported : (f : Frame) (public : List ℕ) (o : Option (List ℕ)) → effect_and_next (delegator_reported (frame_after_pop f 2) public (number_below_top f 2) o) ≡ meaning (delegator_shape f o) f public
reported f public None = refl
reported f public (Some name) = refl

prim_shapes : (p : Primitive) (args : List ℕ) (f : Frame) (public : List ℕ) (x : Around) → prim_effect p args f public x ≡ meaning (prim_shape p args f public x) f public
unfolding prim_effect prim_shape
prim_shapes Lookup args f public x =
    looked_up f public (position (λ b. b == num (stack_bytes f 3 1)) (bytes_at (frame_after_pop f 3) public (number_below_top f 2 + 1) (count_at (frame_after_pop f 3) public (number_below_top f 2))))
prim_shapes DelegatorAid args f public x = reported f public x.delegator
prim_shapes _ args f public x = refl

pair_is : (o : Option Primitive) (args : List ℕ) (f : Frame) (public : List ℕ) (x : Around) → prim_done o args f public x ≡ meaning (pair_shape o args f public x) f public
pair_is None args f public x = refl
pair_is (Some p) args f public x = prim_shapes p args f public x

-- ---- rows

-- a frame without the address on its stack, if it is there
without : (b : Bool) (f : Frame) → cond b (frame_after_pop f 2) f ≡ record f { dt = cond b (f.dt - 2) f.dt }
without true f = refl
without false f = refl

-- what each instruction does is the meaning of its shape
pub shapes : ShapeLaw
unfolding effect shape
shapes (ins.Jump k to) f public x = ap (λ (g : Frame). effect_and_next (frame_effect (frame_after_jump (holds k f) g (target f k to)) public)) (without (k == 0) f)
shapes (ins.Call k to) f public x = ap (λ (g : Frame). effect_and_next (frame_effect (frame_after_call (holds k f) g (target f k to)) public)) (without (k == 0) f)
shapes (ins.Prim set number args) f public x = pair_is (primitive set number) args f public x
shapes _ f public x = refl
