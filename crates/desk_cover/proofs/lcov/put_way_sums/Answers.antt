use Rattle.std.proofs.Common.{codes}
use Rattle.mc_text.proofs.TextLemmas.{puts_failed, puts_then, fails_before}
use Rattle.desk_cover.specs.Records.{number_text, count_ways, count_gone}
use Rattle.desk_cover.proofs.lcov.put_way_sums.Goals as goal

pub returns-in_err-put_all_ways : goal.returns-in_err-put_all_ways
returns-in_err-put_all_ways g c =
    let r = c.from_residual in
    puts_failed r.result r.ensures.0 (fails_before {x = number_text (codes "BRF:") (count_ways c.args.lines.now)} (number_text (codes "BRH:") (count_gone c.args.lines.now)) c.in_err-put_all_ways.ensures)

pub returns : goal.returns
returns g c = puts_then {x = number_text (codes "BRF:") (count_ways c.args.lines.now)} _ (number_text (codes "BRH:") (count_gone c.args.lines.now)) c.put_gone_ways.result c.in_ok-put_all_ways.ensures c.put_gone_ways.ensures
