-- Shifts of the top of the stack.
use Rattle.std.specs.Prelude.{ℕ, List}
use Rattle.model_machine.specs.Blocks.{Worked, shift_left_block, shift_right_block}
use Rattle.model_machine.specs.Shapes.{Replaces, Shape, flagged}
use Rattle.prove_scenes.specs.declared.prim_shaping.Side.{Side}
use Rattle.prove_scenes.specs.declared.prim_shaping.Side.TheVariants as side

-- a block shifted left or right by a number of bits
abbrev pub shift_block : Side → List ℕ → ℕ → Worked
shift_block side.Left = shift_left_block
shift_block side.Right = shift_right_block

-- the shape of a shift with this result
abbrev pub shift_shape : ℕ → Worked → Shape
shift_shape dt w = flagged dt (Replaces w.value) w.c w.z
