use Rattle.std.proofs.Common.{◌∙◌, List, Option, ap, sym, subst}
use Rattle.std.proofs.lemmas.Bool.{eqb-true}
use Rattle.prove_facts.specs.model_prove.specs.Facts.{Facts}
use Rattle.prove_facts.specs.model_prove.specs.Reach.{takes_target}
use Rattle.prove_facts.specs.model_prove.specs.Splits.{Choice, few_combinations}
use Rattle.prove_arrivals.specs.Subjects.{Accepts, tables_in}
use Rattle.prove_steps.specs.Steps.{after_fetch, before, by_choices, scene_of}
use Rattle.prove_steps.proofs.StepLemmas.{choices_are, few_alone, from_some}
use Rattle.prove_steps.proofs.branching.decided_holds.Goals as goal

pub returns-then-is_empty : goal.returns-then-is_empty
returns-then-is_empty c h names s o =
    let u = c.args.subject.now in
    let f = c.args.fetched.now in
    few_alone (tables_in names u) (takes_target f.ins.now) s f.ins.now (scene_of names s u f) (before names u f) (after_fetch names u f) f.before.now.bytes
    c.args.places.now (eqb-true _ _ (sym c.is_empty.ensures ∙ c.if-is_empty.true)) (c.in_ok-holds.ensures h names s o)

pub returns : goal.returns
returns c h names s o =
    let u = c.args.subject.now in
    let f = c.args.fetched.now in
    subst (λ (few : Option (List Choice)). Accepts names u (by_choices names s u f few))
    (sym (choices_are _ _ _ (from_some _ _ _ c.in-Some.is c.in_ok-choices.ensures)) ∙ ap (λ (k : Facts). few_combinations k c.args.places.now) c.bytes.ensures)
    (c.in_ok-holds-2.ensures h names s o)
