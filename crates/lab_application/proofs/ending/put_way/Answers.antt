use Rattle.std.proofs.Common.{ap}
use Rattle.law_histories.specs.law_explore.specs.Search.{statements_to}
use Rattle.law_histories.specs.law_explore_text.specs.Report.{statements_text}
use Rattle.law_histories.specs.law_explore.specs.States.{play_of_deck}
use Rattle.lab_search.proofs.EndingLemmas.{count_is, fails_as, line_fails, moves_as, path_fails, path_puts, put_failed, writes_as, written_are}
use Rattle.lab_application.specs.Names.{broken_name}
use Rattle.lab_application.proofs.ending.put_way.Goals as goal

pub returns-in_err-put_break : goal.returns-in_err-put_break
returns-in_err-put_break g c =
    λ x ts h s e.
    let count = count_is c.args.start x c.args.path.now ts c.begins_cut.result c.lead_to-lead.result c.in_ok-count.count s e (c.begins_cut.ensures x.rules.moves ts e) c.lead_to-lead.ensures c.in_ok-count.ensures.count in
    put_failed _ _ _ c.from_residual-in_err-put_break.result c.from_residual-in_err-put_break.ensures.0 c.from_residual-in_err-put_break.ensures.1
    (line_fails _ _ (broken_name c.args.rules.now c.args.broken) (statements_to (play_of_deck x.lines) ts) c.in_ok-count.count count c.in_err-put_break.ensures)

pub returns-in_err-put_path : goal.returns-in_err-put_path
returns-in_err-put_path g c =
    λ x ts h s e.
    let count = count_is c.args.start x c.args.path.now ts c.begins_cut.result c.lead_to-lead.result c.in_ok-count.count s e (c.begins_cut.ensures x.rules.moves ts e) c.lead_to-lead.ensures c.in_ok-count.ensures.count in
    let are = written_are c.args.start x ts c.begins_cut.result c.lead_to-lead.result s (c.begins_cut.ensures x.rules.moves ts e) c.lead_to-lead.ensures in
    put_failed _ _ _ c.from_residual-in_err-put_path.result c.from_residual-in_err-put_path.ensures.0 c.from_residual-in_err-put_path.ensures.1
    (path_fails _ _ _ (broken_name c.args.rules.now c.args.broken) (statements_to (play_of_deck x.lines) ts) c.in_ok-count.count count c.in_ok-put_break.ensures
    (fails_as _ _ (ap statements_text are) (c.in_err-put_path.ensures x.rules.moves ts (moves_as x.rules.moves c.as_slice.ensures.value h) e)))

pub returns : goal.returns
returns g c =
    λ x ts h s e.
    let count = count_is c.args.start x c.args.path.now ts c.begins_cut.result c.lead_to-lead.result c.in_ok-count.count s e (c.begins_cut.ensures x.rules.moves ts e) c.lead_to-lead.ensures c.in_ok-count.ensures.count in
    let are = written_are c.args.start x ts c.begins_cut.result c.lead_to-lead.result s (c.begins_cut.ensures x.rules.moves ts e) c.lead_to-lead.ensures in
    path_puts _ _ _ (broken_name c.args.rules.now c.args.broken) (statements_to (play_of_deck x.lines) ts) c.in_ok-count.count count c.in_ok-put_break.ensures
    (writes_as _ _ (ap statements_text are) (c.in_ok-put_path.ensures x.rules.moves ts (moves_as x.rules.moves c.as_slice.ensures.value h) e))
