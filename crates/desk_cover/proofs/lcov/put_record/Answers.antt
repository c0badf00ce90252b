use Rattle.mc_text.proofs.TextLemmas.{puts_failed, puts_then, fails_before}
use Rattle.desk_cover.specs.Records.{head_text, rest_text}
use Rattle.desk_cover.proofs.lcov.put_record.Goals as goal

pub returns-in_err-put_head : goal.returns-in_err-put_head
returns-in_err-put_head g c =
    let r = c.from_residual in
    puts_failed r.result r.ensures.0 (fails_before {x = head_text c.args.name.now} (rest_text c.args.lines.now) c.in_err-put_head.ensures)

pub returns : goal.returns
returns g c = puts_then {x = head_text c.args.name.now} _ (rest_text c.args.lines.now) c.put_rest.result c.in_ok-put_head.ensures c.put_rest.ensures
