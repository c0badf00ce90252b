use Rattle.std.proofs.Common.{◌≡◌, ◌∙◌, List, Option, true, ap, sym, subst}
use Rattle.std.proofs.lemmas.Bool.{eqb-true}
use Rattle.prove_facts.specs.model_prove.specs.Facts.{Facts}
use Rattle.prove_facts.specs.model_prove.specs.Reach.{takes_target}
use Rattle.prove_facts.specs.model_prove.specs.Splits.{Choice, few_combinations}
use Rattle.prove_sums.specs.model_sums.specs.Closed.{choices_closed}
use Rattle.prove_steps.proofs.StepLemmas.{choices_are, from_some}
use Rattle.prove_sum_steps.specs.Walks.{turn_of}
use Rattle.prove_sum_steps.proofs.PassLemmas.{few_alone}
use Rattle.prove_sum_steps.proofs.branching.decided_holds.Goals as goal

pub returns-then-is_empty : goal.returns-then-is_empty
returns-then-is_empty c h names s u is =
    let t = c.args.turn.now in
    few_alone (takes_target t.ins.now) s u (turn_of names s t) t.spot.now.bytes c.args.places.now (eqb-true _ _ (sym c.is_empty.ensures ∙ c.if-is_empty.true))
    (c.in_ok-holds.ensures h names s u is)

pub returns : goal.returns
returns c h names s u is =
    let t = c.args.turn.now in
    subst (λ (few : Option (List Choice)). choices_closed few (takes_target t.ins.now) s u (turn_of names s t) ≡ true)
    (sym (choices_are _ _ _ (from_some _ _ _ c.in-Some.is c.in_ok-choices.ensures)) ∙ ap (λ (k : Facts). few_combinations k c.args.places.now) c.bytes.ensures)
    (c.in_ok-holds-2.ensures h names s u is)
