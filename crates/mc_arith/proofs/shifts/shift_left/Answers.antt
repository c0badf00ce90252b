use Rattle.std.proofs.Common.{◌≡◌, ◌^◌, ◌<◌, arith, length, rules}
use Rattle.law_rows.specs.model_device.specs.Bytes.{num}
use Rattle.law_rows.proofs.BlockLemmas.{num_below}
use Rattle.mc_arith.proofs.ShiftLemmas.{doubled, left_is, unshifted}
use Rattle.law_rows.specs.model_device.proofs.ListLemmas.{all_bytes}
use Rattle.mc_arith.proofs.shifts.shift_left.Goals as goal

pub loop-step-init : goal.loop-step-init
loop-step-init c = record {
  bytes = all_bytes c.args.a.now (search rules);
  value = unshifted (length c.args.a.now) (num c.args.a.now) (num_below c.args.a.now (all_bytes c.args.a.now (search rules)));
  left = λ h. absurd (omega (arith, h));
}

pub loop-step-preserved : goal.loop-step-preserved
loop-step-preserved c =
    let n = length c.args.a.now in
    let e = rw c.loop-step.auto.a at c.double-left.ensures in
    let same : length c.double-left.new.a ≡ n = omega arith in
    let below : num c.double-left.new.a < 256 ^ n = rw same at (num_below c.double-left.new.a (all_bytes c.double-left.new.a c.type_inv.a)) in
    let d = doubled n (num c.args.a.now) c.loop-step._step (num c.loop-step.a) (num c.double-left.new.a) c.double-left.result c.loop-step.invariant.value e below (omega arith) in
    record { bytes = all_bytes c.double-left.new.a c.type_inv.a; value = d.value; left = λ _. d.left }

pub returns : goal.returns
returns c =
    let e : c.loop-step._step ≡ c.args.by = omega arith in
    left_is c.args.a.now c.loop-step.a c.args.by c.loop-step.left c.zero.result (omega arith) c.loop-step.invariant.bytes (rw e at c.loop-step.invariant.value) (rw e at (c.loop-step.invariant.left (omega arith))) c.zero.ensures
