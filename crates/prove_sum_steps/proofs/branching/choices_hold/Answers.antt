use Rattle.std.proofs.Common.{◌≡◌, List, true, subst, sym}
use Rattle.prove_facts.specs.model_prove.specs.Reach.{takes_target}
use Rattle.prove_sums.specs.model_sums.specs.Closed.{all_pass, choices_closed, first_choice_closed}
use Rattle.prove_steps.specs.declared.choices.Choice as code
use Rattle.prove_steps.specs.declared.choices.Choices.{Choices}
use Rattle.prove_steps.specs.Choices.{choices_of, choices_value}
use Rattle.prove_sum_steps.specs.Walks.{turn_of}
use Rattle.prove_sum_steps.proofs.branching.choices_hold.Goals as goal

pub returns-in_ok-holds-in-Few : goal.returns-in_ok-holds-in-Few
returns-in_ok-holds-in-Few c h names s u is =
    let t = c.args.turn.now in
    let w = turn_of names s t in
    subst (λ (cs : Choices). choices_closed (choices_value cs) (takes_target t.ins.now) s u w ≡ true) (sym c.in-Few.is)
    (subst (λ (l : List code.Choice). all_pass (first_choice_closed s u w) (choices_of l) ≡ true) c.as_slice.ensures.value (c.in_ok-holds-in-Few.ensures h names s u is))
