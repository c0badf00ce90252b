use Rattle.std.proofs.Common.{sym}
use Rattle.prove_keys.proofs.TableLemmas.{if_some}
use Rattle.prove_sum_steps.proofs.GoalLemmas.{sums_found}
use Rattle.prove_sum_steps.proofs.goals.sums_at.Goals as goal

pub returns : goal.returns
returns c names classes whole distinct =
    let t = c.args.tables.now in
    let i = c.in_ok-index.index in
    if_some _ _ c.item.result c.item.ensures
    (λ x h. sums_found names classes t.places.keys c.args.sums.now c.args.key.now i x.now distinct whole.places (sym c.in_ok-index.ensures.index) h.0 h.1)
