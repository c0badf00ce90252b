-- By how much operations move their first operand.
use Rattle.std.specs.Prelude.{ℕ, Option, Some, None}
use Rattle.model_prove.specs.model_device.specs.Bytes.{num}
use Rattle.model_prove.specs.Digits.{Operation, Plus, Minus, And, Or, Xor}
use Rattle.model_prove.specs.Work.{Operand, AtAddress, These}
use Rattle.model_sums.specs.Forms.{Form, number}
use Rattle.model_sums.specs.Origins.{Origins, origins_from, form_of}
use Rattle.model_sums.specs.Writes.{negative_if}

-- what an operand is, if it is known
abbrev pub form_of_operand : Origins → ℕ → Operand → Option Form
form_of_operand o n (AtAddress a) = form_of (origins_from o a n)
form_of_operand o n (These b) = Some (number (num b))

-- by how much an operation moves its first operand
abbrev pub moved_by : Operation → ℕ → Option Form → Option Form
moved_by Plus n f = f
moved_by Minus n f = negative_if n f
moved_by op n f = None
