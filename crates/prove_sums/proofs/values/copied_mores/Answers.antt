use Rattle.std.proofs.Common.{◌∷◌, [], subst, arith}
use Rattle.prove_sums.specs.Values.{MoresAre}
use Rattle.prove_sums.proofs.MoreLemmas.{Mores, alone_all, flat_end, flat_next}
use Rattle.prove_sums.proofs.values.copied_mores.Goals as goal

pub loop-more-preserved : goal.loop-more-preserved
loop-more-preserved c rs are =
    flat_next (λ r. r ∷ []) rs c.args.mores.now c.loop-more.more-index c.more-item.result c.loop-more.copies.items c.add_more.new.mores.items c.more-item.is (omega arith)
    (λ r qs i a. c.in_ok-add_more.ensures qs r a (c.in_ok-copy.ensures r i)) (c.loop-more.invariant rs are)

pub returns : goal.returns
returns c rs are =
    subst (λ (x : Mores). MoresAre c.loop-more.copies.items x) (alone_all rs)
    (flat_end (λ r. r ∷ []) rs c.args.mores.now c.loop-more.more-index c.loop-more.copies.items (omega arith) (c.loop-more.invariant rs are))
