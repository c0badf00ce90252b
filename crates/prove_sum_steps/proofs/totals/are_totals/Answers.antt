use Rattle.std.proofs.Common.{map, refl, arith}
use Rattle.prove_facts.specs.model_rules.specs.Keeping.{are_totals, first_sums, is_total}
use Rattle.lab_app_rules.specs.Rules.{allowance_of, name_of}
use Rattle.prove_sum_steps.proofs.TotalLemmas.{totals_end, totals_next}
use Rattle.prove_sum_steps.proofs.totals.are_totals.Goals as goal

pub loop-balance-preserved : goal.loop-balance-preserved
loop-balance-preserved c distinct ts are =
    let fixed = c.args.bytes.now in
    let first = first_sums (map allowance_of c.args.sums.now) in
    totals_next (map name_of c.args.sums.now) (are_totals fixed first) (is_total fixed first) (λ t ts. refl) ts c.args.balances.now c.loop-balance.balance-index
    c.balance-item.result c.loop-balance-test.true c.balance-item.is are (λ t is. c.in_ok-is_total.ensures c.if-not-branch.false distinct t is)
    (c.loop-balance.invariant distinct ts are)

pub returns : goal.returns
returns c h distinct ts are =
    let fixed = c.args.bytes.now in
    let first = first_sums (map allowance_of c.args.sums.now) in
    totals_end (map name_of c.args.sums.now) (are_totals fixed first) (is_total fixed first) (λ t ts. refl) ts c.args.balances.now c.loop-balance.balance-index (omega arith) are
    refl (c.loop-balance.invariant distinct ts are)
