use Rattle.lab_search.proofs.AttemptLemmas.{spends_counted}
use Rattle.lab_search.proofs.trying.spend.Goals as goal

pub returns-clause-spent : goal.returns-clause-spent
returns-clause-spent c =
    λ held a rs m t h. c.apply_all.ensures held a rs m t (spends_counted held a rs m t c.args.candidate.now c.args.text.now.items c.args.counts.now c.count_result.new.counts c.args.amounts.now h c.count_result.ensures)

pub returns-clause-counted : goal.returns-clause-counted
returns-clause-counted c =
    λ held a rs m t h. (spends_counted held a rs m t c.args.candidate.now c.args.text.now.items c.args.counts.now c.count_result.new.counts c.args.amounts.now h c.count_result.ensures).counted
