use Rattle.std.proofs.Common.{◌∙◌, Bool, cond, None, ap, sym, subst, arith, ℕ}
use Rattle.prove_facts.specs.model_prove.specs.Reach.{some_reached}
use Rattle.prove_forms.specs.Forms.{OptionalIs, OptionalsAre}
use Rattle.prove_scenes.specs.Scenes.{frame_to}
use Rattle.prove_works.specs.Reaches.{reach_value}
use Rattle.prove_sums.proofs.WalkLemmas.{Offs, reached_each, walk_end, walk_next, walk_stop}
use Rattle.prove_sums.proofs.coarse.offs_not_reached.Goals as goal

pub returns-in_default : goal.returns-in_default
returns-in_default c names ts fs are offs =
    let f = frame_to c.args.scene.now c.args.dt in
    let r = reach_value c.args.reach.now in
    subst (λ (x : Offs). OptionalsAre c.loop-balance.left.items x) (sym (reached_each f r ts fs))
    (walk_stop (λ t o. cond (some_reached f r t.at t.n) None o) names ts fs _ c.loop-balance.rest.now c.loop-balance.left.items c.in_default.ensures
    (c.loop-balance.invariant names ts fs are offs))

pub loop-balance-preserved : goal.loop-balance-preserved
loop-balance-preserved c names ts fs are offs =
    let f = frame_to c.args.scene.now c.args.dt in
    let r = reach_value c.args.reach.now in
    walk_next (λ t o. cond (some_reached f r t.at t.n) None o) names ts fs c.args.balances.now c.loop-balance.balance-index c.balance-item.result c.loop-balance.rest.now
    c.in-Some.more.now c.in-Some.off.now c.loop-balance.left.items c.add_off.new.offs.items c.in_ok-next.next c.balance-item.is (omega arith) c.in-Some.ensures
    (λ t o i p. subst (λ (b : Bool). OptionalIs c.in_ok-next.next (cond b None o))
    (c.some_reached-reached.ensures ∙ ap (λ (a : ℕ). some_reached f r a c.balance-item.result.n) (sym i.at) ∙ ap (λ (n : ℕ). some_reached f r t.at n) (sym i.n)) (c.in_ok-next.ensures o p))
    c.in_ok-add_off.ensures (c.loop-balance.invariant names ts fs are offs)

pub returns : goal.returns
returns c names ts fs are offs =
    let f = frame_to c.args.scene.now c.args.dt in
    let r = reach_value c.args.reach.now in
    subst (λ (x : Offs). OptionalsAre c.loop-balance.left.items x) (sym (reached_each f r ts fs))
    (walk_end (λ t o. cond (some_reached f r t.at t.n) None o) names ts fs c.args.balances.now c.loop-balance.balance-index c.loop-balance.rest.now c.loop-balance.left.items
    (omega arith) (c.loop-balance.invariant names ts fs are offs))
