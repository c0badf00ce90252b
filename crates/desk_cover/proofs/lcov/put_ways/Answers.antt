use Rattle.std.proofs.Common.{◌-◌}
use Rattle.mc_text.proofs.TextLemmas.{puts_failed, puts_then, fails_before}
use Rattle.desk_cover.specs.Records.{way_text}
use Rattle.desk_cover.proofs.lcov.put_ways.Goals as goal

pub returns-in_err-put_way : goal.returns-in_err-put_way
returns-in_err-put_way g c =
    let r = c.from_residual in
    puts_failed r.result r.ensures.0 (fails_before {x = way_text c.args.line.now 0 c.args.line.now.taken} (way_text c.args.line.now 1 (c.args.line.now.turns - c.args.line.now.taken)) c.in_err-put_way.ensures)

pub returns : goal.returns
returns g c = puts_then {x = way_text c.args.line.now 0 c.args.line.now.taken} _ (way_text c.args.line.now 1 (c.args.line.now.turns - c.args.line.now.taken)) c.put_passed.result c.in_ok-put_way.ensures c.put_passed.ensures
