use Rattle.std.proofs.Common.{◌≡◌}
use Rattle.prove_facts.specs.model_prove.specs.Between.{classes}
use Rattle.prove_patterns.specs.Classes.{class_values}
use Rattle.prove_closed.proofs.ClosingLemmas.{rules_there}
use Rattle.prove_closed.proofs.closing.classes_of.Goals as goal

pub returns : goal.returns
returns c =
    rules_there (λ a cs. class_values cs.items ≡ classes a) c.args.rules.now c.as_slice.result.now c.classes.result c.as_slice.ensures.value c.classes.ensures
