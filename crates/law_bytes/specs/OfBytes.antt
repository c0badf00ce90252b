-- What is of bytes: frames, effects, and what every row keeps so.
use Rattle.std.specs.Prelude.{◌<◌, ℕ, List, length, Option, Some, None, ⊤}
use Rattle.std.specs.List.{AllByRecursion}
use Rattle.law_family.specs.model_device.specs.Bytes.{AreBytes}
use Rattle.law_family.specs.model_machine.specs.declared.instruction.Ins.{Ins}
use Rattle.law_family.specs.model_machine.specs.Code.{Shaped}
use Rattle.law_family.specs.model_machine.specs.Frame.{Frame, Effect}
use Rattle.law_family.specs.model_machine.specs.Primitives.{Around}
use Rattle.law_family.specs.model_machine.specs.Row.{row}
use Rattle.law_family.specs.law_rows.specs.Keeping.{OnDone}

-- pieces of bytes
abbrev pub ArePieces : List (ℕ × List ℕ) → Type 0
ArePieces = AllByRecursion (λ p. AreBytes p.1)

-- a change, if there is one, of pieces of bytes
abbrev pub IsChange : Option (List (ℕ × List ℕ)) → Type 0
IsChange None = ⊤
IsChange (Some ps) = ArePieces ps

-- a frame whose static bytes, pending pieces and dynamic bytes are bytes
pub record IsByteFrame (f : Frame) : Type 0 where
  pub static : AreBytes f.fixed
  pub pieces : ArePieces f.pieces
  pub stack : AreBytes f.dyn

-- an effect that leaves bytes: in the frame, in the public segment and in its change
pub record IsByteEffect (e : Effect) : Type 0 where
  pub frame : IsByteFrame e.frame
  pub public : AreBytes e.public
  pub change : IsChange e.changes

-- the name of a delegator, if there is one: its bytes, and a length that is a byte
abbrev pub IsCaller : Option (List ℕ) → Type 0
IsCaller None = ⊤
IsCaller (Some name) = AreBytes name × (length name < 256)

-- Each row of an instruction whose fields are in their ranges, in a frame of bytes, leaves bytes.
abbrev pub RowBytesLaw : Type 0
RowBytesLaw =
    (i : Ins) (f : Frame) (public : List ℕ) (x : Around) → Shaped i → IsByteFrame f → AreBytes public → IsCaller x.delegator
    → OnDone (row i f public x) (λ d. IsByteEffect d.effect)
