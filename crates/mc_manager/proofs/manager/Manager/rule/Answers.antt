-- Each clause of a command is a part of its end.
use Rattle.mc_manager.proofs.EndsLemmas.{ends_items, ends_apps, ends_leaves, ends_fits, ends_going}
use Rattle.mc_manager.proofs.manager.Manager.rule.Goals as goal

pub returns-clause-items : goal.returns-clause-items
returns-clause-items g c = ends_items g.B.Bank.did _ _ _ _ _ _ _ c.route.new.reply c.route.result c.route.ensures.ends

pub returns-clause-apps : goal.returns-clause-apps
returns-clause-apps g c = ends_apps g.B.Bank.did _ _ _ _ _ _ _ c.route.new.reply c.route.result c.route.ensures.ends

pub returns-clause-leaves : goal.returns-clause-leaves
returns-clause-leaves g c = ends_leaves g.B.Bank.did _ _ _ _ _ _ _ c.route.new.reply c.route.result c.route.ensures.ends

pub returns-clause-fits : goal.returns-clause-fits
returns-clause-fits g c = ends_fits g.B.Bank.did _ _ _ _ _ _ _ c.route.new.reply c.route.result c.route.ensures.ends

pub returns-clause-going : goal.returns-clause-going
returns-clause-going g c = ends_going g.B.Bank.did _ _ _ _ _ _ _ c.route.new.reply c.route.result c.route.ensures.ends
