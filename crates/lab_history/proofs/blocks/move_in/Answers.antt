use Rattle.std.proofs.Common.{◌+◌, ◌^◌, ap, arith, false, length}
use Rattle.model_device.specs.Bytes.{num}
use Rattle.lab_history.proofs.BlockLemmas.{move_step, skip_step}
use Rattle.lab_history.proofs.blocks.move_in.Goals as goal
use Rattle.lab_history.proofs.blocks.move_in.Goals.{then-signed-sum, else-signed-sum}

pub loop-signed-preserved : goal.loop-signed-preserved
loop-signed-preserved c =
    let i = c.loop-signed.signed-index in
    let p = 256 ^ length c.args.block.now in
    elim c.if-signed-sum.branch [
      | then-signed-sum w ↦ rw w.block-is
          (move_step p (256 ^ length c.loop-signed.block) (num c.args.block.now) (num c.loop-signed.block) (num w.shift.new.block) (num c.args.number.now)
          c.args.sums.now i (i + 1) c.args.sum c.args.takes (record { minus = false; sum = 0 }) (ap (λ n. 256 ^ n) c.loop-signed.auto.block) (omega arith) c.loop-signed-test.true
          w.if-signed-sum.true c.loop-signed.invariant w.shift.ensures)
      | else-signed-sum w ↦ rw w.block-is
          (skip_step p (num c.args.block.now) (num c.loop-signed.block) (num c.args.number.now)
          c.args.sums.now i (i + 1) c.args.sum c.args.takes (record { minus = false; sum = 0 }) (omega arith) c.loop-signed-test.true
          w.if-signed-sum.false c.loop-signed.invariant)
    ]
