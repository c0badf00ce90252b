use Rattle.std.proofs.Common.{◌≡◌, ◌++◌, drop}
use Rattle.prove_steps.specs.Choices.{choices_of, headed_by}
use Rattle.prove_steps.proofs.choices.add_headed.Given as goal

-- what the choices that are left add from here, all of them add from the start
abbrev pub invariant-loop-rest : goal.invariant-loop-rest
invariant-loop-rest l =
    choices_of l.list.items ++ headed_by l.at l.value (choices_of (drop l.rest-index l.rests))
    ≡ choices_of l.fn.list.items ++ headed_by l.at l.value (choices_of l.rests)
