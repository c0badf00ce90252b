use Rattle.lab_rules.proofs.SpendLemmas.{counted_spent}
use Rattle.lab_rules.proofs.occasions.apply_all.Goals as goal

pub returns : goal.returns
returns c = λ held a rules m t h. counted_spent held a rules m t c.args.ons.now c.args.counts.now c.args.amounts.now c.apply_each.result c.apply_each.new.amounts c.apply_each.ensures h
