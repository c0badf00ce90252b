use Rattle.law_histories.specs.law_explore.specs.States.{play_of_deck}
use Rattle.lab_application.proofs.HaltLemmas.{reports_broken, reports_full}
use Rattle.lab_application.proofs.ending.report_halt.Goals as goal

pub returns-in-Full : goal.returns-in-Full
returns-in-Full g c =
    λ x d ns h s e k. reports_full c.args.rules.now c.args.search.now (play_of_deck x.lines) x.rules.moves c.args.depth c.args.halt _ _ c.report_kept.result c.in-Full.is c.report_kept.ensures.put c.report_kept.ensures.kept

pub returns-in-Broken : goal.returns-in-Broken
returns-in-Broken g c =
    λ x d ns h s e k.
    reports_broken c.args.rules.now c.args.search.now (play_of_deck x.lines) x.rules d ns c.args.depth c.args.halt c.in-Broken.broken c.in-Broken.step _ _ c.report_broken.result c.in-Broken.is e k
    (λ all n t from is. c.report_broken.ensures.put x d all n t h s e from is) c.report_broken.ensures.broken
