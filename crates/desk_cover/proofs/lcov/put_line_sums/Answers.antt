use Rattle.std.proofs.Common.{codes, length}
use Rattle.mc_text.proofs.TextLemmas.{puts_failed, puts_then, fails_before}
use Rattle.desk_cover.specs.Records.{number_text, count_run}
use Rattle.desk_cover.proofs.lcov.put_line_sums.Goals as goal

pub returns-in_err-put_count : goal.returns-in_err-put_count
returns-in_err-put_count g c =
    let r = c.from_residual in
    puts_failed r.result r.ensures.0 (fails_before {x = number_text (codes "LF:") (length c.args.lines.now)} (number_text (codes "LH:") (count_run c.args.lines.now)) c.in_err-put_count.ensures)

pub returns : goal.returns
returns g c = puts_then {x = number_text (codes "LF:") (length c.args.lines.now)} _ (number_text (codes "LH:") (count_run c.args.lines.now)) c.put_run_lines.result c.in_ok-put_count.ensures c.put_run_lines.ensures
