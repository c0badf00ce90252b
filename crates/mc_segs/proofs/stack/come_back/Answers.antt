use Rattle.std.proofs.Common.{◌+◌, ◌≤◌, arith}
use Rattle.mc_segs.proofs.StackLemmas.{back_is}
use Rattle.mc_segs.proofs.stack.come_back.Goals as goal

pub returns-clause-back : goal.returns-clause-back
returns-clause-back c =
    let low : 32768 + c.frame.inside.session_len + 4 + c.args.i ≤ c.frame.inside.lb = grind arith in
    let high : c.frame.inside.lb + c.args.o ≤ c.frame.inside.dt = grind arith in
    back_is c.frame.inside c.args.frame.now c.move_bytes.new.bytes c.args.i c.args.o c.word_at-lb.result c.word_at-at.result c.frame.view_is c.frame.invariant.frame.dyn
    low high c.frame.invariant.frame.high c.word_at-lb.ensures c.word_at-at.ensures c.move_bytes.ensures
