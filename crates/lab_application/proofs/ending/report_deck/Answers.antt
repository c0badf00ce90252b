use Rattle.std.proofs.Common.{sym}
use Rattle.std.proofs.lemmas.List.{append-nil}
use Rattle.lab_search.specs.Reports.{broken_line}
use Rattle.lab_search.proofs.EndingLemmas.{fails_as, put_failed, writes_as}
use Rattle.lab_application.specs.Names.{broken_name}
use Rattle.lab_application.proofs.ending.report_deck.Goals as goal

pub returns-in_err-put_break-clause-put : goal.returns-in_err-put_break-clause-put
returns-in_err-put_break-clause-put g c =
    put_failed _ _ _ c.from_residual.result c.from_residual.ensures.0 c.from_residual.ensures.1
    (fails_as _ _ (sym (append-nil (broken_line (broken_name c.args.rules.now c.args.broken) 0))) c.in_err-put_break.ensures)

pub returns-clause-put : goal.returns-clause-put
returns-clause-put g c = writes_as _ _ (sym (append-nil (broken_line (broken_name c.args.rules.now c.args.broken) 0))) c.in_ok-put_break.ensures
