use Rattle.std.proofs.Common.{◌≡◌, List, ap, ◌∙◌}
use Rattle.prove_facts.specs.model_rules.specs.Rules.{AppRules, Target}
use Rattle.prove_facts.specs.model_prove.specs.Between.{classes}
use Rattle.lab_app_rules.specs.Rules.{AreRules}
use Rattle.prove_patterns.specs.declared.command_classes.Class.{Class}
use Rattle.prove_patterns.specs.Classes.{class_values}
use Rattle.prove_closed.proofs.LoopLemmas.{if_ok}
use Rattle.prove_closed.proofs.ClosingLemmas.{some_there}
use Rattle.prove_closed.proofs.closing.rules_closed.Goals as goal

pub returns-in-Some : goal.returns-in-Some
returns-in-Some c =
    let found =
    some_there (λ cs. (a : AppRules) (t : Target) → AreRules a t c.args.rules.now → class_values cs.items ≡ classes a) c.in_ok-found.field-0 c.in-Some.found c.in-Some.is
    c.in_ok-found.ensures
    in
    if_ok _ _ c.subject_closed.result c.subject_closed.ensures
    (λ b h e a t are is. h e a t are is (ap (λ (cs : List Class). class_values cs) c.as_slice.ensures.value ∙ found a t are))
