use Rattle.law_recovery.proofs.Rule.{rule_law}
use Rattle.law_recovery.proofs.stops_are_by_rule.Goals as goal

pub returns : goal.returns
returns c = record { whole = rule_law }
