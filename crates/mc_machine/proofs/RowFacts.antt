-- An exit keeps its frame's session bytes; an instruction that is not PRIM is one of the rows.
use Rattle.std.proofs.Common.{arith, ◌≡◌, ◌≢◌, ℕ, List, refl}
use Rattle.law_machine.specs.model_machine.specs.declared.instruction.Ins.{Ins}
use Rattle.law_machine.specs.model_machine.specs.declared.instruction.Ins.TheVariants as ins
use Rattle.law_machine.specs.model_machine.specs.Frame.{Frame, Effect, session_of}
use Rattle.law_machine.specs.model_machine.specs.Primitives.{Around, Then, Exits}
use Rattle.law_machine.specs.model_machine.specs.Row.{effect, causes, first_cause, row, RowEnd}
use Rattle.law_machine.specs.law_rows.specs.Keeping.{Leaves, OnLeave, OnDone}
use Rattle.law_machine.specs.law_rows.proofs.Keeping.{effect_leaves, on_done}
use Rattle.mc_rows.specs.Families.{IsNoPrimitive}

-- an instruction that exits keeps its frame's session bytes
abbrev pub ExitKeeps : Frame → RowEnd → Type 0
ExitKeeps f r = OnDone r (λ d. d.next ≡ Exits → session_of d.effect.frame ≡ session_of f)

session_left : (f : Frame) (e : Effect) (next : Then) → OnLeave next (Leaves f e) → next ≡ Exits → session_of e.frame ≡ session_of f
session_left f e next leaves exits = grind arith

pub row_exits : (i : Ins) (f : Frame) (public : List ℕ) (x : Around) → ExitKeeps f (row i f public x)
unfolding row
row_exits i f public x =
    let d = effect i f public x in
    on_done (λ d. d.next ≡ Exits → session_of d.effect.frame ≡ session_of f) (first_cause (causes i f public x)) d (session_left f d.effect d.next (effect_leaves i f public x))

-- ---- rows but primitives

pub no_primitive : (i : Ins) → ((set number : ℕ) (args : List ℕ) → i ≢ ins.Prim set number args) → IsNoPrimitive i
no_primitive (ins.Prim set number args) other = absurd (other set number args refl)
no_primitive _ other = tt
