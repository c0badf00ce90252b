-- The law of shapes.
use Rattle.std.specs.Prelude.{◌≡◌, ℕ, List}
use Rattle.model_machine.specs.declared.instruction.Ins.{Ins}
use Rattle.model_machine.specs.Frame.{Frame}
use Rattle.model_machine.specs.Primitives.{Around}
use Rattle.model_machine.specs.Row.{effect}
use Rattle.model_machine.specs.Shapes.{meaning, shape}

-- what each instruction does is the meaning of its shape
abbrev pub ShapeLaw : Type 0
ShapeLaw = (i : Ins) (f : Frame) (public : List ℕ) (x : Around) → effect i f public x ≡ meaning (shape i f public x) f public
