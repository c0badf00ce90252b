-- the block is shifted by the bits so far, and `left` is the bit shifted out last
use Rattle.std.proofs.Common.{◌≡◌, ◌-◌, ◌*◌, ◌%◌, ◌^◌, ◌<◌, length}
use Rattle.law_rows.specs.model_device.specs.Bytes.{num, AreBytes}
use Rattle.law_rows.specs.model_machine.specs.Blocks.{bit}
use Rattle.mc_arith.proofs.shifts.shift_left.Given as goal

abbrev pub invariant-loop-step : goal.invariant-loop-step
invariant-loop-step l = record { bytes : AreBytes l.a; value : num l.a ≡ num l.fn.a * 2 ^ l._step % 256 ^ length l.fn.a; left : 0 < l._step → l.left ≡ bit (8 * length l.fn.a - l._step) (num l.fn.a) }
