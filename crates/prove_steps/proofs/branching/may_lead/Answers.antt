use Rattle.std.proofs.Common.{ℕ, ap, ◌∙◌, ◌/◌, ◌%◌, suc}
use Rattle.std.proofs.Math.Numerals.{add-one}
use Rattle.prove_facts.specs.model_prove.specs.Facts.{values_at}
use Rattle.prove_facts.specs.model_prove.specs.Sets.{is_in}
use Rattle.prove_steps.proofs.TargetLemmas.{both_are}
use Rattle.prove_steps.proofs.branching.may_lead.Goals as goal

pub returns-then-may_be : goal.returns-then-may_be
returns-then-may_be c =
    let k = c.args.facts.now in
    let low = c.args.target % 256 in
    both_are (is_in (c.args.target / 256) (values_at k c.args.at)) (is_in low (values_at k (suc c.args.at))) _ _ c.may_be.ensures
    (c.may_be-then-may_be.ensures ∙ ap (λ (a : ℕ). is_in low (values_at k a)) (add-one c.args.at)) c.if-may_be.true
