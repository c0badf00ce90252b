use Rattle.std.proofs.Common.{subst, sym}
use Rattle.law_histories.specs.Histories.{app_exploration_read}
use Rattle.lab_deck.specs.Applications.{RefusesApplication}
use Rattle.lab_deck.proofs.ReadLemmas.{rule_refused}
use Rattle.lab_deck.proofs.reading.refused_rule.Goals as goal

pub returns : goal.returns
returns c = λ d deck refused.
    subst (RefusesApplication (app_exploration_read c.args.text.now)) (sym c.first_refusal.ensures)
    (rule_refused c.args.text.now d c.args.refusal c.refused_move-of_move.result c.refused_move-of_move.ensures deck refused)
