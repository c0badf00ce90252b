use Rattle.std.proofs.Common.{◌++◌}
use Rattle.mc_text.proofs.TextLemmas.{puts_failed, puts_then, fails_before}
use Rattle.desk_cover.specs.Records.{lines_text, branches_text, end_text}
use Rattle.desk_cover.proofs.lcov.put_rest.Goals as goal

pub returns-in_err-put_body : goal.returns-in_err-put_body
returns-in_err-put_body g c =
    let r = c.from_residual in
    puts_failed r.result r.ensures.0 (fails_before {x = lines_text c.args.lines.now ++ branches_text c.args.lines.now} (end_text c.args.lines.now) c.in_err-put_body.ensures)

pub returns : goal.returns
returns g c = puts_then {x = lines_text c.args.lines.now ++ branches_text c.args.lines.now} _ (end_text c.args.lines.now) c.put_end.result c.in_ok-put_body.ensures c.put_end.ensures
