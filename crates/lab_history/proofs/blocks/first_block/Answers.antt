use Rattle.std.proofs.Common.{◌≡◌, ◌+◌, ◌%◌, ◌^◌, ℕ, List, length, subst}
use Rattle.model_device.specs.Bytes.{num}
use Rattle.lab_app_rules.specs.declared.rules.SignedSum.{SignedSum}
use Rattle.lab_history.specs.Blocks.{added_by, taken_by}
use Rattle.lab_history.proofs.BlockLemmas.{block_made}
use Rattle.lab_history.proofs.blocks.first_block.Goals as goal

pub returns-clause-number : goal.returns-clause-number
returns-clause-number c =
    let n = c.args.balance.now.n in
    let sums = c.args.sums.now in
    let first = c.as_mut_slice.result.now in
    let second = c.as_mut_slice-2.result.now in
    let start = subst (λ (k : ℕ). (num c.shift.new.block + 0) % 256 ^ length first ≡ (num first + k) % 256 ^ length first) c.number_bytes.ensures c.shift.ensures in
    let moved = subst (λ (ts : List SignedSum). (num c.add_sums.new.block + taken_by sums ts) % 256 ^ length second ≡ (num second + added_by sums ts) % 256 ^ length second) c.as_slice.ensures.value c.add_sums.ensures in
    block_made n c.in_ok-block.block.len c.args.balance.now.constant (added_by sums c.args.balance.now.sums.items) (taken_by sums c.args.balance.now.sums.items)
    c.in_ok-block.block.items first c.shift.new.block second c.add_sums.new.block
    c.in_ok-block.ensures.zeros c.as_mut_slice.ensures.value c.as_mut_slice.ensures.len c.shift.auto.block c.as_mut_slice-2.ensures.value c.add_sums.auto.block start moved
