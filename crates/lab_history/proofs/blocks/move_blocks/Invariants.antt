-- moved blocks of the lines that are left, after the blocks so far, are moved blocks of all
use Rattle.std.proofs.Common.{List, ℕ, ◌≤◌, ◌++◌, drop, length, take}
use Rattle.model_device.specs.Bytes.{num}
use Rattle.lab_history.specs.Moves.{AreMoved}
use Rattle.lab_history.proofs.blocks.move_blocks.Given as goal

abbrev pub invariant-loop-balance : goal.invariant-loop-balance
invariant-loop-balance l = record {
  from : l.from ≤ length l.blocks;
  moved : (new : List ℕ) → AreMoved (drop l.balance-index l.balances) l.sum l.takes (num l.number) (drop l.from l.blocks) new
      → AreMoved l.fn.balances l.fn.sum l.fn.takes (num l.fn.number) l.fn.blocks (take l.from l.blocks ++ new);
}
