use Rattle.mc_text.proofs.TextLemmas.{puts_failed, puts_then, fails_before}
use Rattle.desk_cover.specs.Records.{way_sums, line_sums}
use Rattle.desk_cover.proofs.lcov.put_sums.Goals as goal

pub returns-in_err-put_way_sums : goal.returns-in_err-put_way_sums
returns-in_err-put_way_sums g c =
    let r = c.from_residual in
    puts_failed r.result r.ensures.0 (fails_before {x = way_sums c.args.lines.now} (line_sums c.args.lines.now) c.in_err-put_way_sums.ensures)

pub returns : goal.returns
returns g c = puts_then {x = way_sums c.args.lines.now} _ (line_sums c.args.lines.now) c.put_line_sums.result c.in_ok-put_way_sums.ensures c.put_line_sums.ensures
