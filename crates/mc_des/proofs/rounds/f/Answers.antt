use Rattle.std.proofs.Common.{◌/◌, ◌^◌, arith}
use Rattle.mc_des.proofs.CipherFunction.{f_is, six_odd, six_even}
use Rattle.mc_des.proofs.rounds.f.Goals as goal

pub returns : goal.returns
returns c =
    f_is c.args.right c.args.key _ _ _ _ _ _ _ _ _ _ _ _ _ _ _ _ (omega arith)
    (six_odd _ _ _ (c.args.key / 2 ^ 32) 0 c.six_above.ensures c.rotate_left.ensures)
    (six_even _ _ _ c.args.key 0 c.six_above-2.ensures c.rotate_left-2.ensures)
    (six_odd _ _ _ (c.args.key / 2 ^ 32) 24 c.six_above-3.ensures c.rotate_left.ensures)
    (six_even _ _ _ c.args.key 24 c.six_above-4.ensures c.rotate_left-2.ensures)
    (six_odd _ _ _ (c.args.key / 2 ^ 32) 16 c.six_above-5.ensures c.rotate_left.ensures)
    (six_even _ _ _ c.args.key 16 c.six_above-6.ensures c.rotate_left-2.ensures)
    (six_odd _ _ _ (c.args.key / 2 ^ 32) 8 c.six_above-7.ensures c.rotate_left.ensures)
    (six_even _ _ _ c.args.key 8 c.six_above-8.ensures c.rotate_left-2.ensures)
    c.boxed.ensures c.boxed-2.ensures c.boxed-3.ensures c.boxed-4.ensures c.boxed-5.ensures c.boxed-6.ensures c.boxed-7.ensures c.boxed-8.ensures
