use Rattle.std.proofs.Common.{◌≡◌, ◌-◌, ℕ, List, Bool, true, None, length, subst, sym}
use Rattle.prove_facts.specs.model_prove.specs.Reach.{target_choices}
use Rattle.prove_facts.specs.model_prove.specs.Splits.{Scene}
use Rattle.prove_facts.specs.model_prove.specs.Steps.{coarse_around}
use Rattle.prove_sums.specs.model_sums.specs.Closed.{all_pass, choice_closed, choices_closed, coarse_closed}
use Rattle.prove_sum_steps.specs.Walks.{place_in, turn_in, turn_of}
use Rattle.prove_sum_steps.proofs.branching.many_hold.Goals as goal

pub returns-then-takes_target : goal.returns-then-takes_target
returns-then-takes_target c h names s u is =
    let t = c.args.turn.now in
    let w = turn_of names s t in
    subst (λ (j : Bool). choices_closed None j s u w ≡ true) c.if-takes_target.ensures
    (subst (λ (code : List ℕ). all_pass (choice_closed s u w) (target_choices t.spot.now.bytes (t.spot.now.dt - 2) (length code)) ≡ true) (sym is.over.subject.code)
    (c.in_ok-holds.ensures h names s u is))

pub returns : goal.returns
returns c h names s u is =
    let t = c.args.turn.now in
    subst (λ (j : Bool). choices_closed None j s u (turn_of names s t) ≡ true) c.if-takes_target.ensures
    (subst (λ (e : Scene). coarse_closed s u (turn_in names t e) (coarse_around (place_in names t).key.start) ≡ true) (c.requires.scene names s is.over.subject.sized)
    (c.in_ok-holds-2.ensures h names s u is))
