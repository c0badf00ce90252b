use Rattle.std.proofs.Common.{rules}
use Rattle.prove_facts.specs.model_prove.specs.Splits.{before_choices}
use Rattle.prove_facts.specs.Sets.{has_value, set_of}
use Rattle.prove_steps.specs.Choices.{choices_of}
use Rattle.prove_steps.proofs.ChoiceLemmas.{value_step, value_last}
use Rattle.prove_steps.proofs.choices.each_headed.Goals as goal

pub loop-value-preserved : goal.loop-value-preserved
loop-value-preserved c =
    value_step (has_value c.args.values.now) c.args.at c.loop-value.value (choices_of c.args.rests.now) (choices_of c.loop-value.list.items)
    (choices_of c.add_value.new.list.items) (before_choices c.args.at (set_of c.args.values.now) (choices_of c.args.rests.now)) (search rules)
    (search rules) c.loop-value.invariant

pub returns : goal.returns
returns c =
    value_last (has_value c.args.values.now) c.args.at c.loop-value.value (choices_of c.args.rests.now) (choices_of c.loop-value.list.items)
    (before_choices c.args.at (set_of c.args.values.now) (choices_of c.args.rests.now)) (search rules) c.loop-value.invariant
