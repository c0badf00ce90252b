use Rattle.std.proofs.Common.{rules, ◌≡◌, ◌+◌, ◌-◌, List, arith, drop, length, subst, take}
use Rattle.std.specs.Prelude.{min}
use Rattle.model_device.specs.Bytes.{num}
use Rattle.lab_app_rules.specs.declared.rules.SignedSum.{SignedSum}
use Rattle.lab_history.specs.Moves.{IsMoved}
use Rattle.lab_history.proofs.BlockLemmas.{moved_all, moved_more, moved_within}
use Rattle.lab_history.proofs.blocks.move_blocks.Goals as goal

pub loop-balance-preserved : goal.loop-balance-preserved
loop-balance-preserved c =
    let i = c.loop-balance.balance-index in
    let from = c.loop-balance.from in
    let to = c.min-to.result in
    let b = c.balance-item.result in
    let balances = c.args.balances.now in
    let blocks = c.loop-balance.blocks in
    let m = c.move_in.new.block in
    let least : c.min-to.result ≡ min (length blocks) (from + b.n) = search rules in
    let within = c.loop-balance.invariant.from in
    let part = take (to - from) (drop from blocks) in
    let here : IsMoved c.as_slice.result.now c.args.sum c.args.takes (num c.args.number.now) part m = record { size = c.move_in.auto.block; number = c.move_in.ensures } in
    let moved = subst (λ (ts : List SignedSum). IsMoved ts c.args.sum c.args.takes (num c.args.number.now) part m) c.as_slice.ensures.value here in
    record {
      from = moved_within blocks m from to (to - from) within (omega arith) (omega arith) c.move_in.auto.block;
      moved = moved_more balances balances c.args.blocks.now blocks m c.args.sum (num c.args.number.now) i (i + 1) from to (to - from) c.args.takes b (omega arith) c.loop-balance-test.true c.balance-item.is within
          least (omega arith) moved c.loop-balance.invariant.moved;
    }

pub returns : goal.returns
returns c =
    let balances = c.args.balances.now in
    moved_all balances balances c.args.blocks.now c.loop-balance.blocks c.args.sum (num c.args.number.now) c.loop-balance.balance-index c.loop-balance.from c.args.takes c.loop-balance-test.false c.loop-balance.invariant.moved
