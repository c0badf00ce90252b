-- The shape of a row as the definition's value.
use Rattle.std.specs.Prelude.{[]}
use Rattle.model_machine.specs.Primitives as model
use Rattle.model_machine.specs.Shapes as shapes
use Rattle.prove_scenes.specs.declared.shapes.Act.{Act}
use Rattle.prove_scenes.specs.declared.shapes.Act.TheVariants as act
use Rattle.prove_scenes.specs.declared.shapes.Next.{Next}
use Rattle.prove_scenes.specs.declared.shapes.Next.TheVariants as next
use Rattle.prove_scenes.specs.declared.shapes.Shape.{Shape}

-- an act
abbrev pub act_value : Act → shapes.Act
act_value act.Stays = shapes.Stays
act_value (act.Answers sw la) = shapes.Answers sw la
act_value (act.Jumps taken to) = shapes.Jumps taken to
act_value (act.Calls taken to) = shapes.Calls taken to
act_value (act.Returns less more) = shapes.Returns less more
act_value (act.Pushes b) = shapes.Pushes b.items
act_value (act.Replaces b) = shapes.Replaces b.items
act_value (act.Writes a n b) = shapes.Writes a n b.items
act_value (act.Protects mode) = shapes.Protects mode

-- what comes next; the name of who is delegated to does not matter
abbrev pub next_value : Next → model.Then
next_value next.Goes = model.Goes
next_value next.Exits = model.Exits
next_value next.Delegates = model.Delegates []

-- the shape of a row
abbrev pub shape_value : Shape → shapes.Shape
shape_value s = record { dt = s.dt; act = act_value s.act; flags = s.flags; next = next_value s.next }
