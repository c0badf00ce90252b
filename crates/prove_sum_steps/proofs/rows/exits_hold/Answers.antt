use Rattle.std.proofs.Common.{ℕ, Bool}
use Rattle.prove_sums.specs.model_sums.specs.Closed.{after_event, is_settled}
use Rattle.prove_arrivals.specs.Subjects.{classes_in}
use Rattle.prove_sum_steps.specs.Walks.{turn_in}
use Rattle.prove_sum_steps.proofs.RowLemmas.{at_class, at_delegated}
use Rattle.prove_sum_steps.proofs.rows.exits_hold.Goals as goal

pub returns-in_ok-holds-in-Delegated : goal.returns-in_ok-holds-in-Delegated
returns-in_ok-holds-in-Delegated c h names s u e v is are =
    let t = c.args.turn.now in
    let w = turn_in names t e in
    let test : ℕ → Bool = λ d. is_settled s w (after_event s w v c.args.dt w.spot.key.c w.spot.key.z d) in
    at_delegated test (classes_in t.subject.now) t.key.now.begun c.in-Delegated.is (c.in_ok-holds-in-Delegated.ensures h names s u e v is are)

pub returns-in_ok-holds-in-Class : goal.returns-in_ok-holds-in-Class
returns-in_ok-holds-in-Class c h names s u e v is are =
    let t = c.args.turn.now in
    let w = turn_in names t e in
    let test : ℕ → Bool = λ d. is_settled s w (after_event s w v c.args.dt w.spot.key.c w.spot.key.z d) in
    at_class test (classes_in t.subject.now) t.key.now.begun _ c.in-Class.is (c.in_ok-holds-in-Class.ensures h names s u e v is are)
