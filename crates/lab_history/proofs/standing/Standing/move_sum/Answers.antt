use Rattle.std.proofs.Common.{◌∙◌, List, ℕ, drop, length, subst, sym}
use Rattle.std.proofs.lemmas.List.{take_at}
use Rattle.model_device.specs.Bytes.{num}
use Rattle.lab_history.specs.Moves.{AreMoved}
use Rattle.lab_history.proofs.standing.Standing.move_sum.Goals as goal

pub returns-clause-waiting : goal.returns-clause-waiting
returns-clause-waiting c =
    let old = c.args.self.now.waiting.items in
    let made = c.move_blocks.new.blocks in
    let moved = subst (λ (l : List ℕ). AreMoved c.args.balances.now c.args.sum c.args.takes (num c.args.number.now) l made) c.as_mut_slice.ensures.value c.move_blocks.ensures in
    subst (AreMoved c.args.balances.now c.args.sum c.args.takes (num c.args.number.now) old)
    (sym (take_at made (drop (length made) old) c.args.self.now.waiting.len (c.move_blocks.auto.blocks ∙ c.as_mut_slice.ensures.len))) moved
