-- The one row after which another application is called: the primitive that delegates, if it is not denied.
use Rattle.std.proofs.Common.{◌≡◌, ℕ, true, false, List, Option, Some, None, refl, arith}
use Rattle.law_family.specs.model_machine.specs.declared.instruction.Ins.{Ins}
use Rattle.law_family.specs.model_machine.specs.declared.instruction.Ins.TheVariants as ins
use Rattle.law_family.specs.model_machine.specs.Frame.{Frame}
use Rattle.law_family.specs.model_machine.specs.Primitives.{Around, Delegates, Primitive, DelegateTo, primitive, is_denied, prim_causes, prim_effect, prim_done}
use Rattle.law_family.specs.model_machine.specs.Row.{causes, effect}
use Rattle.law_family.specs.law_machine.proofs.RowWords.{NoneHolds}
use Rattle.law_closed.specs.Delegations.{is_delegate, is_delegation}

prim_delegates : (p : Primitive) (args : List ℕ) (f : Frame) (public : List ℕ) (x : Around) (n : List ℕ) → (prim_effect p args f public x).next ≡ Delegates n → p ≡ DelegateTo
unfolding prim_effect
prim_delegates DelegateTo args f public x n e = refl
prim_delegates p args f public x n e = absurd (cc e)

done_delegates : (o : Option Primitive) (args : List ℕ) (f : Frame) (public : List ℕ) (x : Around) → NoneHolds (prim_causes o args f public x) → (n : List ℕ) → (prim_done o args f public x).next ≡ Delegates n → (is_delegate o ≡ true) × (is_denied f.deny DelegateTo ≡ false)
done_delegates None args f public x none n e = absurd (cc e)
done_delegates (Some p) args f public x none n e = grind (arith, prim_delegates p args f public x n e)

-- the one row that calls another application is the primitive that delegates, if it is not denied
pub row_delegates : (i : Ins) (f : Frame) (public : List ℕ) (x : Around) → NoneHolds (causes i f public x) → (n : List ℕ) → (effect i f public x).next ≡ Delegates n → (is_delegation i ≡ true) × (is_denied f.deny DelegateTo ≡ false)
unfolding causes effect
row_delegates (ins.Prim set number args) f public x none n e = done_delegates (primitive set number) args f public x none n e
row_delegates i f public x none n e = absurd (cc e)
