use Rattle.std.proofs.Common.{◌∙◌, ℕ, Bool, sym, ap}
use Rattle.prove_facts.specs.model_prove.specs.Facts.{Facts}
use Rattle.prove_facts.specs.model_prove.specs.Reach.{address_choice}
use Rattle.prove_sums.specs.model_sums.specs.Closed.{choice_closed}
use Rattle.prove_steps.specs.Steps.{is_target}
use Rattle.prove_sum_steps.specs.Walks.{turn_of}
use Rattle.prove_sum_steps.proofs.PassLemmas.{left_out, picked_passes}
use Rattle.prove_sum_steps.proofs.branching.allowed_target_holds.Goals as goal

pub returns-then-not-may_lead : goal.returns-then-not-may_lead
returns-then-not-may_lead c h names s u is =
    let t = c.args.turn.now in
    let test : ℕ → Bool = λ v. choice_closed s u (turn_of names s t) (address_choice c.args.at v) in
    left_out test (is_target t.spot.now.bytes c.args.at) c.args.target
    (ap (λ (k : Facts). is_target k c.args.at c.args.target) (sym c.bytes.ensures) ∙ sym c.may_lead.ensures ∙ c.if-not-may_lead.true)

pub returns : goal.returns
returns c h names s u is =
    let t = c.args.turn.now in
    let test : ℕ → Bool = λ v. choice_closed s u (turn_of names s t) (address_choice c.args.at v) in
    picked_passes test (is_target t.spot.now.bytes c.args.at) c.args.target
    (ap (λ (k : Facts). is_target k c.args.at c.args.target) (sym c.bytes.ensures) ∙ sym c.may_lead.ensures ∙ c.if-not-may_lead.false)
    (c.in_ok-holds.ensures h names s u is)
