use Rattle.std.proofs.Common.{◌∙◌, ◌+◌, Bool, refl, sym, arith}
use Rattle.std.specs.Prelude.{nat_le}
use Rattle.prove_facts.specs.model_rules.specs.Rules.{Total}
use Rattle.prove_sums.specs.model_sums.specs.Closed.{all_pass}
use Rattle.prove_sum_steps.proofs.TotalLemmas.{totals_end, totals_next, within_is}
use Rattle.prove_sum_steps.proofs.totals.are_within.Goals as goal

pub loop-balance-preserved : goal.loop-balance-preserved
loop-balance-preserved c names ts are =
    let size = c.args.fixed in
    let one : Total → Bool = λ t. nat_le (t.at + t.n) size in
    totals_next names (all_pass one) one (λ t ts. refl) ts c.args.balances.now c.loop-balance.balance-index c.balance-item.result c.loop-balance-test.true c.balance-item.is are
    (λ t is. within_is names size t c.balance-item.result is (sym c.is_within.ensures ∙ c.if-not-is_within.false)) (c.loop-balance.invariant names ts are)

pub returns : goal.returns
returns c h names ts are =
    let one : Total → Bool = λ t. nat_le (t.at + t.n) c.args.fixed in
    totals_end names (all_pass one) one (λ t ts. refl) ts c.args.balances.now c.loop-balance.balance-index (omega arith) are refl (c.loop-balance.invariant names ts are)
