use Rattle.std.proofs.Common.{◌≡◌, ◌+◌, ◌%◌, ◌^◌, ◌<◌, ◌≤◌, ◌++◌, ◌∙◌, List, ap, arith, get_or, length, subst}
use Rattle.model_device.specs.Bytes.{num}
use Rattle.lab_app_rules.specs.declared.rules.Balance.{Balance}
use Rattle.lab_app_rules.specs.declared.rules.Named.{Named}
use Rattle.lab_history.specs.Blocks.{added_by, taken_by}
use Rattle.lab_history.proofs.BlockLemmas.{first_all, first_more}
use Rattle.lab_history.proofs.standing.first_blocks.Goals as goal

pub loop-balance-preserved : goal.loop-balance-preserved
loop-balance-preserved c = λ rest r.
    let sums = c.args.rules.now.sums.items in
    let balances = c.args.rules.now.balances.items in
    let i = c.loop-balance.balance-index in
    let b = c.balance-item.result in
    let block = c.in_ok-block.block.items in
    let made : c.extend_from_slice.new.self.items ≡ c.loop-balance.blocks.items ++ block = c.in_ok-extend_from_slice.ensures.items ∙ ap (λ l. c.loop-balance.blocks.items ++ l) c.as_slice-in-loop-balance.ensures.value in
    let there = subst (λ (bs : List Balance). i < length bs) c.deref-balance-items.ensures.value c.loop-balance-test.true in
    let is = subst (λ (bs : List Balance). b ≡ get_or bs i b) c.deref-balance-items.ensures.value c.balance-item.is in
    let number = subst (λ (ss : List Named). (num block + taken_by ss b.sums.items) % 256 ^ b.n ≡ (b.constant + added_by ss b.sums.items) % 256 ^ b.n) c.as_slice.ensures.value c.in_ok-block.ensures.number in
    rw made (first_more sums balances balances i (i + 1) b c.loop-balance.blocks.items block (omega arith) there is c.in_ok-block.ensures.size
    (record { size = c.in_ok-block.ensures.size; number = number }) c.loop-balance.invariant rest r)

pub returns : goal.returns
returns c =
    let balances = c.args.rules.now.balances.items in
    let ended = subst (λ (bs : List Balance). length bs ≤ c.loop-balance.balance-index) c.deref-balance-items.ensures.value c.loop-balance-test.false in
    first_all c.args.rules.now.sums.items balances balances c.loop-balance.balance-index c.loop-balance.blocks.items ended c.loop-balance.invariant
