use Rattle.std.proofs.Common.{◌≡◌, ◌+◌, ◌-◌, arith, rules}
use Rattle.law_rows.specs.model_device.specs.Bytes.{num}
use Rattle.mc_arith.proofs.ShiftLemmas.{halved, right_is}
use Rattle.law_rows.specs.model_device.proofs.ListLemmas.{all_bytes}
use Rattle.mc_arith.proofs.shifts.shift_right.Goals as goal

pub loop-step-init : goal.loop-step-init
loop-step-init c = record {
  bytes = all_bytes c.args.a.now (search rules);
  value = omega arith;
  left = λ h. absurd (omega (arith, h));
}

pub loop-step-preserved : goal.loop-step-preserved
loop-step-preserved c =
    let d = halved (num c.args.a.now) c.loop-step._step (num c.loop-step.a) (num c.halve-left.new.a) c.halve-left.result c.loop-step.invariant.value c.halve-left.ensures in
    let e : c.loop-step._step + 1 - 1 ≡ c.loop-step._step = omega arith in
    record { bytes = all_bytes c.halve-left.new.a c.type_inv.a; value = d.value; left = λ _. rw e d.left }

pub returns : goal.returns
returns c =
    let e : c.loop-step._step ≡ c.args.by = omega arith in
    right_is c.args.a.now c.loop-step.a c.args.by c.loop-step.left c.zero.result (omega arith) c.loop-step.invariant.bytes (rw e at c.loop-step.invariant.value) (rw e at (c.loop-step.invariant.left (omega arith))) c.zero.ensures
