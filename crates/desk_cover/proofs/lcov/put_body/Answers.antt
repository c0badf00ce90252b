use Rattle.mc_text.proofs.TextLemmas.{puts_failed, puts_then, fails_before}
use Rattle.desk_cover.specs.Records.{lines_text, branches_text}
use Rattle.desk_cover.proofs.lcov.put_body.Goals as goal

pub returns-in_err-put_lines : goal.returns-in_err-put_lines
returns-in_err-put_lines g c =
    let r = c.from_residual in
    puts_failed r.result r.ensures.0 (fails_before {x = lines_text c.args.lines.now} (branches_text c.args.lines.now) c.in_err-put_lines.ensures)

pub returns : goal.returns
returns g c = puts_then {x = lines_text c.args.lines.now} _ (branches_text c.args.lines.now) c.put_branches.result c.in_ok-put_lines.ensures c.put_branches.ensures
