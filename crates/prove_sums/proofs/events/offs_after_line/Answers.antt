use Rattle.std.proofs.Common.{sym, subst, arith}
use Rattle.std.specs.Prelude.{map}
use Rattle.prove_forms.specs.model_sums.specs.Events.{off_after_line}
use Rattle.lab_app_rules.specs.Rules.{name_of}
use Rattle.prove_forms.specs.Forms.{OptionalsAre}
use Rattle.prove_sums.proofs.WalkLemmas.{Offs, line_each, walk_end, walk_next, walk_stop}
use Rattle.prove_sums.proofs.events.offs_after_line.Goals as goal

pub returns-in_default : goal.returns-in_default
returns-in_default c ts k fs g are move offs =
    subst (λ (x : Offs). OptionalsAre c.loop-balance.after.items x) (sym (line_each k g ts fs))
    (walk_stop (λ t o. off_after_line t.n k g t.terms o) (map name_of c.args.named.now) ts fs _ c.loop-balance.rest.now c.loop-balance.after.items c.in_default.ensures
    (c.loop-balance.invariant ts k fs g are move offs))

pub loop-balance-preserved : goal.loop-balance-preserved
loop-balance-preserved c ts k fs g are move offs =
    walk_next (λ t o. off_after_line t.n k g t.terms o) (map name_of c.args.named.now) ts fs c.args.balances.now c.loop-balance.balance-index c.balance-item.result
    c.loop-balance.rest.now c.in-Some.left.now c.in-Some.off.now c.loop-balance.after.items c.add_off.new.offs.items c.in_ok-next.next c.balance-item.is (omega arith)
    c.in-Some.ensures (λ t f i o. c.in_ok-next.ensures t k f g i move o) c.in_ok-add_off.ensures (c.loop-balance.invariant ts k fs g are move offs)

pub returns : goal.returns
returns c ts k fs g are move offs =
    subst (λ (x : Offs). OptionalsAre c.loop-balance.after.items x) (sym (line_each k g ts fs))
    (walk_end (λ t o. off_after_line t.n k g t.terms o) (map name_of c.args.named.now) ts fs c.args.balances.now c.loop-balance.balance-index c.loop-balance.rest.now
    c.loop-balance.after.items (omega arith) (c.loop-balance.invariant ts k fs g are move offs))
