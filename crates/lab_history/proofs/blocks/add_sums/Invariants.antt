-- the terms so far have moved the block
use Rattle.std.proofs.Common.{◌≡◌, ◌+◌, ◌%◌, ◌^◌, length, take}
use Rattle.model_device.specs.Bytes.{num}
use Rattle.lab_history.specs.Blocks.{added_by, taken_by}
use Rattle.lab_history.proofs.blocks.add_sums.Given as goal

abbrev pub invariant-loop-signed : goal.invariant-loop-signed
invariant-loop-signed l = (num l.block + taken_by l.sums (take l.signed-index l.terms)) % 256 ^ length l.fn.block
    ≡ (num l.fn.block + added_by l.sums (take l.signed-index l.terms)) % 256 ^ length l.fn.block
