use Rattle.std.proofs.Common.{sym, subst, arith}
use Rattle.prove_forms.specs.model_sums.specs.Writes.{off_after}
use Rattle.prove_forms.specs.Forms.{OptionalsAre}
use Rattle.prove_sums.proofs.WalkLemmas.{Offs, walk_end, walk_next, walk_stop, written_each}
use Rattle.prove_sums.proofs.writes.offs_after.Goals as goal

pub returns-in_default : goal.returns-in_default
returns-in_default c names ts fs g are offs by =
    let F = off_after c.args.at c.args.n g in
    subst (λ (x : Offs). OptionalsAre c.loop-balance.after.items x) (sym (written_each c.args.at c.args.n g ts fs))
    (walk_stop F names ts fs _ c.loop-balance.rest.now c.loop-balance.after.items c.in_default.ensures (c.loop-balance.invariant names ts fs g are offs by))

pub loop-balance-preserved : goal.loop-balance-preserved
loop-balance-preserved c names ts fs g are offs by =
    walk_next (off_after c.args.at c.args.n g) names ts fs c.args.balances.now c.loop-balance.balance-index c.balance-item.result c.loop-balance.rest.now c.in-Some.left.now
    c.in-Some.off.now c.loop-balance.after.items c.add_off.new.offs.items c.in_ok-next.next c.balance-item.is (omega arith) c.in-Some.ensures
    (λ t f i o. c.in_ok-next.ensures names t f g i o by) c.in_ok-add_off.ensures (c.loop-balance.invariant names ts fs g are offs by)

pub returns : goal.returns
returns c names ts fs g are offs by =
    subst (λ (x : Offs). OptionalsAre c.loop-balance.after.items x) (sym (written_each c.args.at c.args.n g ts fs))
    (walk_end (off_after c.args.at c.args.n g) names ts fs c.args.balances.now c.loop-balance.balance-index c.loop-balance.rest.now c.loop-balance.after.items (omega arith)
    (c.loop-balance.invariant names ts fs g are offs by))
