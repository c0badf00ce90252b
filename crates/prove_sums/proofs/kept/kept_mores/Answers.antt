use Rattle.std.proofs.Common.{subst, arith}
use Rattle.prove_sums.specs.Kept.{if_kept, is_kept}
use Rattle.prove_sums.specs.Values.{MoresAre}
use Rattle.prove_sums.proofs.MoreLemmas.{Mores, flat_end, flat_next, kept_all}
use Rattle.prove_sums.proofs.kept.kept_mores.Goals as goal

pub loop-more-preserved : goal.loop-more-preserved
loop-more-preserved c rs are =
    let k = if_kept c.args.kept.now in
    flat_next k rs c.args.mores.now c.loop-more.more-index c.more-item.result c.loop-more.left.items c.add_any.new.mores.items c.more-item.is (omega arith)
    (λ r qs i a. c.in_ok-add_any.ensures qs (k r) a (c.in_ok-copy.ensures r i)) (c.loop-more.invariant rs are)

pub returns : goal.returns
returns c rs are =
    let k = if_kept c.args.kept.now in
    subst (λ (x : Mores). MoresAre c.loop-more.left.items x) (kept_all (is_kept c.args.kept.now) rs)
    (flat_end k rs c.args.mores.now c.loop-more.more-index c.loop-more.left.items (omega arith) (c.loop-more.invariant rs are))
