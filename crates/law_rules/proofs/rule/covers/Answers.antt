use Rattle.law_rules.proofs.Covered.{all_kept}
use Rattle.law_rules.proofs.rule.covers.Goals as goal

pub returns : goal.returns
returns g c = let a = g.A.RuleAnalysis in all_kept a.rules a.target a.covering a.covers
