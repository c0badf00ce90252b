use Rattle.std.proofs.Common.{arith}
use Rattle.prove_forms.specs.model_sums.specs.Writes.{more_after}
use Rattle.prove_sums.proofs.MoreLemmas.{flat_end, flat_next}
use Rattle.prove_sums.proofs.writes.mores_after.Goals as goal

pub loop-more-preserved : goal.loop-more-preserved
loop-more-preserved c rs g are by =
    flat_next (more_after c.args.at c.args.n g) rs c.args.mores.now c.loop-more.more-index c.more-item.result c.loop-more.after.items c.add_any.new.mores.items c.more-item.is
    (omega arith) (λ r qs i a. c.in_ok-add_any.ensures qs (more_after c.args.at c.args.n g r) a (c.in_ok-next.ensures r g i by)) (c.loop-more.invariant rs g are by)

pub returns : goal.returns
returns c rs g are by =
    flat_end (more_after c.args.at c.args.n g) rs c.args.mores.now c.loop-more.more-index c.loop-more.after.items (omega arith) (c.loop-more.invariant rs g are by)
