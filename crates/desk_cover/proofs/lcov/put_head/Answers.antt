use Rattle.std.proofs.Common.{◌++◌, codes}
use Rattle.mc_text.proofs.TextLemmas.{puts_failed, puts_then, fails_before}
use Rattle.desk_cover.proofs.lcov.put_head.Goals as goal

pub returns-in_err-put : goal.returns-in_err-put
returns-in_err-put g c =
    let r = c.from_residual in
    puts_failed r.result r.ensures.0 (fails_before {x = codes "TN:\nSF:"} (c.args.name.now ++ codes "\n") c.in_err-put.ensures)

pub returns : goal.returns
returns g c = puts_then {x = codes "TN:\nSF:"} _ (c.args.name.now ++ codes "\n") c.put_name.result c.in_ok-put.ensures c.put_name.ensures
