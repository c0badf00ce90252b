-- the terms so far have moved the block
use Rattle.std.proofs.Common.{◌≡◌, ◌+◌, ◌*◌, ◌%◌, ◌^◌, length, take}
use Rattle.model_device.specs.Bytes.{num}
use Rattle.lab_history.specs.Blocks.{count_of_added, count_of_taken}
use Rattle.lab_history.proofs.blocks.move_in.Given as goal

abbrev pub invariant-loop-signed : goal.invariant-loop-signed
invariant-loop-signed l = (num l.block + num l.number * count_of_taken (take l.signed-index l.sums) l.sum l.takes) % 256 ^ length l.fn.block
    ≡ (num l.fn.block + num l.number * count_of_added (take l.signed-index l.sums) l.sum l.takes) % 256 ^ length l.fn.block
