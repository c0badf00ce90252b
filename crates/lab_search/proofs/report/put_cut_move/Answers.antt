use Rattle.std.proofs.Common.{codes}
use Rattle.mc_text.proofs.TextLemmas.{puts_then, puts_failed, fails_then, fails_before, writes_then}
use Rattle.lab_search.specs.Reports.{statement_line}
use Rattle.lab_search.proofs.report.put_cut_move.Goals as goal

pub returns-in_err-put_cut : goal.returns-in_err-put_cut
returns-in_err-put_cut g c = puts_failed c.from_residual.result c.from_residual.ensures.0 (fails_before (statement_line (codes "power")) (fails_before (statement_line c.args.text.now) c.in_err-put_cut.ensures))

pub returns-in_err-put_statement : goal.returns-in_err-put_statement
returns-in_err-put_statement g c = puts_failed c.from_residual-in_err-put_statement.result c.from_residual-in_err-put_statement.ensures.0 (fails_before (statement_line (codes "power")) (fails_then c.in_ok-put_cut.ensures c.in_err-put_statement.ensures))

pub returns : goal.returns
returns g c = puts_then _ (statement_line (codes "power")) c.put_statement-2.result (writes_then c.in_ok-put_cut.ensures c.in_ok-put_statement.ensures) c.put_statement-2.ensures
