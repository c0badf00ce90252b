use Rattle.std.proofs.Common.{◌+◌, ◌^◌, ◌∙◌, ap, arith, false, length}
use Rattle.model_device.specs.Bytes.{num}
use Rattle.lab_history.proofs.BlockLemmas.{first_step}
use Rattle.lab_history.proofs.blocks.add_sums.Goals as goal

pub loop-signed-preserved : goal.loop-signed-preserved
loop-signed-preserved c =
    let i = c.loop-signed.signed-index in
    first_step (256 ^ length c.args.block.now) (256 ^ length c.loop-signed.block) (num c.args.block.now) (num c.loop-signed.block) (num c.shift.new.block) (num c.number_bytes.result)
    c.args.sums.now c.args.terms.now i (i + 1) (record { minus = false; sum = 0 }) (ap (λ n. 256 ^ n) c.loop-signed.auto.block) (omega arith) c.loop-signed-test.true
    (c.number_bytes.ensures ∙ c.first_amount.ensures) c.loop-signed.invariant c.shift.ensures
