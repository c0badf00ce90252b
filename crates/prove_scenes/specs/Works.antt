-- What a row works on, as the definition's value.
use Rattle.model_prove.specs.Digits as digits
use Rattle.model_prove.specs.Work as work
use Rattle.prove_scenes.specs.declared.working.Operation.{Operation}
use Rattle.prove_scenes.specs.declared.working.Operation.TheVariants as operation
use Rattle.prove_scenes.specs.declared.working.Operand.{Operand}
use Rattle.prove_scenes.specs.declared.working.Operand.TheVariants as operand
use Rattle.prove_scenes.specs.declared.working.Digitwise.{Digitwise}
use Rattle.prove_scenes.specs.declared.working.Work.{Work}
use Rattle.prove_scenes.specs.declared.working.Work.TheVariants as works

-- an operation
abbrev pub operation_value : Operation → digits.Operation
operation_value operation.Plus = digits.Plus
operation_value operation.Minus = digits.Minus
operation_value operation.And = digits.And
operation_value operation.Or = digits.Or
operation_value operation.Xor = digits.Xor

-- a second operand
abbrev pub operand_value : Operand → work.Operand
operand_value (operand.AtAddress a) = work.AtAddress a
operand_value (operand.These b) = work.These b.items

-- an operation digit by digit
abbrev pub digitwise_value : Digitwise → work.Digitwise
digitwise_value d =
    record {
      op = operation_value d.op;
      at = d.at;
      n = d.n;
      operand = operand_value d.operand;
      written = d.written;
      carries = d.carries;
    }

-- what a row works on
abbrev pub work_value : Work → work.Work
work_value works.AsShaped = work.AsShaped
work_value (works.Copies from) = work.Copies from
work_value (works.Works d) = work.Works (digitwise_value d)
work_value (works.Searches value table n) = work.Searches value table n
work_value works.AnyZ = work.AnyZ
work_value works.Counted = work.Counted
work_value works.NoFact = work.NoFact
