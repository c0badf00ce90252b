use Rattle.std.proofs.Common.{◌≡◌, ◌++◌, ◌-◌, filter}
use Rattle.prove_facts.specs.model_prove.specs.Sets.{numbers_from}
use Rattle.prove_facts.specs.model_prove.specs.Splits.{before_choices}
use Rattle.prove_facts.specs.Sets.{has_value, set_of}
use Rattle.prove_steps.specs.Choices.{choices_of}
use Rattle.prove_steps.proofs.choices.each_headed.Given as goal

-- what the values that are left add from here, all of them add from the start
abbrev pub invariant-loop-value : goal.invariant-loop-value
invariant-loop-value l =
    choices_of l.list.items
    ++ before_choices l.at (filter (has_value l.values) (numbers_from l.value (256 - l.value))) (choices_of l.rests)
    ≡ before_choices l.at (set_of l.values) (choices_of l.rests)
