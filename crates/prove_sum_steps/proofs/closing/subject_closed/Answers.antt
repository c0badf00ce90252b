use Rattle.std.proofs.Common.{◌∙◌, List, ap}
use Rattle.prove_patterns.specs.declared.command_classes.Class.{Class}
use Rattle.prove_patterns.specs.Classes.{class_values}
use Rattle.prove_steps.proofs.StepLemmas.{from_some}
use Rattle.prove_sum_steps.proofs.closing.subject_closed.Goals as goal

pub returns-in_ok-holds-in-Some : goal.returns-in_ok-holds-in-Some
returns-in_ok-holds-in-Some c h a g are sums is =
    c.in_ok-holds-in-Some.ensures h a g are sums is
    (ap (λ (cs : List Class). class_values cs) c.as_slice.ensures.value ∙ from_some _ _ _ c.in-Some.is c.in_ok-found.ensures a g are)
