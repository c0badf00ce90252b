use Rattle.std.proofs.Common.{ap}
use Rattle.law_explore_text.specs.law_explore.specs.Search.{statements_to}
use Rattle.law_explore_text.specs.Report.{statements_text}
use Rattle.law_explore_text.specs.law_explore.specs.States.{play_of_deck}
use Rattle.lab_search.specs.Reports.{broken_line}
use Rattle.lab_search.proofs.EndingLemmas.{count_is, fails_as, line_fails, moves_as, path_fails, path_puts, put_failed, writes_as, written_are}
use Rattle.lab_search.proofs.endings.report_broken.Goals as goal

pub returns-in_err-put_broken : goal.returns-in_err-put_broken
returns-in_err-put_broken g c =
    λ x name ts h s k e.
    let count = count_is c.args.start x c.args.path.now ts c.begins_cut.result c.lead_to-lead.result c.in_ok-count.count s e (c.begins_cut.ensures x.rules.moves ts e) c.lead_to-lead.ensures c.in_ok-count.ensures.count in
    put_failed _ _ _ c.from_residual-in_err-put_broken.result c.from_residual-in_err-put_broken.ensures.0 c.from_residual-in_err-put_broken.ensures.1
    (line_fails _ _ name (statements_to (play_of_deck x.lines) ts) c.in_ok-count.count count (fails_as _ _ (ap (λ n. broken_line n c.in_ok-count.count) (c.name_of.ensures x name h k)) c.in_err-put_broken.ensures))

pub returns-in_err-put_path : goal.returns-in_err-put_path
returns-in_err-put_path g c =
    λ x name ts h s k e.
    let count = count_is c.args.start x c.args.path.now ts c.begins_cut.result c.lead_to-lead.result c.in_ok-count.count s e (c.begins_cut.ensures x.rules.moves ts e) c.lead_to-lead.ensures c.in_ok-count.ensures.count in
    let are = written_are c.args.start x ts c.begins_cut.result c.lead_to-lead.result s (c.begins_cut.ensures x.rules.moves ts e) c.lead_to-lead.ensures in
    put_failed _ _ _ c.from_residual-in_err-put_path.result c.from_residual-in_err-put_path.ensures.0 c.from_residual-in_err-put_path.ensures.1
    (path_fails _ _ _ name (statements_to (play_of_deck x.lines) ts) c.in_ok-count.count count
    (writes_as _ _ (ap (λ n. broken_line n c.in_ok-count.count) (c.name_of.ensures x name h k)) c.in_ok-put_broken.ensures)
    (fails_as _ _ (ap statements_text are) (c.in_err-put_path.ensures x.rules.moves ts (moves_as x.rules.moves c.as_slice.ensures.value h.rules.moves) e)))

pub returns : goal.returns
returns g c =
    λ x name ts h s k e.
    let count = count_is c.args.start x c.args.path.now ts c.begins_cut.result c.lead_to-lead.result c.in_ok-count.count s e (c.begins_cut.ensures x.rules.moves ts e) c.lead_to-lead.ensures c.in_ok-count.ensures.count in
    let are = written_are c.args.start x ts c.begins_cut.result c.lead_to-lead.result s (c.begins_cut.ensures x.rules.moves ts e) c.lead_to-lead.ensures in
    path_puts _ _ _ name (statements_to (play_of_deck x.lines) ts) c.in_ok-count.count count
    (writes_as _ _ (ap (λ n. broken_line n c.in_ok-count.count) (c.name_of.ensures x name h k)) c.in_ok-put_broken.ensures)
    (writes_as _ _ (ap statements_text are) (c.in_ok-put_path.ensures x.rules.moves ts (moves_as x.rules.moves c.as_slice.ensures.value h.rules.moves) e))
