use Rattle.lab_rules.specs.Meanings.{occasion_value}
use Rattle.lab_rules.proofs.CountLemmas.{counts_from_first}
use Rattle.lab_rules.proofs.occasions.count.Goals as goal

pub loop-i-init : goal.loop-i-init
loop-i-init c = counts_from_first (occasion_value c.args.occasion) c.args.plain.now c.args.ons.now c.args.applies.now c.args.counts.now
