-- Facts of which values are left, or not.
use Rattle.std.specs.Prelude.{Bool, true, false, cond, List, Option, Some, None}
use Rattle.prove_facts.specs.model_prove.specs.Sets.{Set}
use Rattle.prove_facts.specs.model_prove.specs.Facts.{Facts, narrow_all}
use Rattle.prove_facts.specs.model_prove.specs.Steps.{operand_narrowed}
use Rattle.prove_facts.specs.model_prove.specs.Work.{Digitwise}

-- the facts, if values are left
abbrev pub left_if : Bool → Facts → Option Facts
left_if true f = Some f
left_if false f = None

-- the facts of the operands with these sets of their bytes
abbrev pub sets_narrowed : Digitwise → List Set → List Set → Facts → Option Facts
sets_narrowed d xs ys f =
    let second = operand_narrowed d.operand ys (Some f) in
    cond d.written second (narrow_all d.at xs second)
