-- Instructions that do not go on to the next place leave the height of the stack as it was.
use Rattle.std.proofs.Common.{◌≡◌, ℕ, true, false, List, Option, Some, None, arith}
use Rattle.std.specs.Prelude.{◌⊎◌}
use Rattle.law_family.specs.model_machine.specs.declared.instruction.Ins.{Ins}
use Rattle.law_family.specs.model_machine.specs.declared.instruction.Ins.TheVariants as ins
use Rattle.law_family.specs.model_machine.specs.Frame.{Frame}
use Rattle.law_family.specs.model_machine.specs.Primitives.{Around, Exits, Primitive, CheckCase, primitive, prim_done, prim_effect}
use Rattle.law_family.specs.model_machine.specs.Row.{effect}
use Rattle.model_stack.specs.StackRows.{always_abends, goes_on, jump_target, call_target, height_after}

-- an instruction that may be done goes on, if it is no call, or leaves the height
pub moves : (i : Ins) (h : ℕ) → always_abends i ≡ false → ((goes_on i ≡ true) × (call_target i ≡ None)) ⊎ (height_after i h ≡ h)
moves i h may = grind arith

-- an instruction with a target leaves the height
pub jump_height : (i : Ins) (next : ℕ) (t : Option ℕ) (h : ℕ) → jump_target i next ≡ Some t → height_after i h ≡ h
jump_height i next t h e = grind arith

-- no primitive exits
no_exit : (p : Primitive) (args : List ℕ) (f : Frame) (public : List ℕ) (x : Around) → (prim_effect p args f public x).next ≡ Exits → ⊥
unfolding prim_effect
no_exit CheckCase args f public x e = absurd (cc e)
no_exit p args f public x e = absurd (cc e)

no_prim_exit : (o : Option Primitive) (args : List ℕ) (f : Frame) (public : List ℕ) (x : Around) → (prim_done o args f public x).next ≡ Exits → ⊥
no_prim_exit None args f public x e = absurd (cc e)
no_prim_exit (Some p) args f public x e = no_exit p args f public x e

-- an exit leaves the height
pub exit_height : (i : Ins) (f : Frame) (public : List ℕ) (x : Around) (h : ℕ) → (effect i f public x).next ≡ Exits → height_after i h ≡ h
unfolding effect
exit_height ins.Exit f public x h e = omega arith
exit_height (ins.Exitsw sw) f public x h e = omega arith
exit_height (ins.Exitla la) f public x h e = omega arith
exit_height (ins.Exitswla sw la) f public x h e = omega arith
exit_height (ins.Prim set number args) f public x h e = absurd (no_prim_exit (primitive set number) args f public x e)
exit_height i f public x h e = absurd (cc e)
