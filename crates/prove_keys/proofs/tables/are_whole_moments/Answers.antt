use Rattle.prove_keys.specs.Tables.{IsWholeMoment}
use Rattle.prove_keys.proofs.ListLemmas.{all_next}
use Rattle.prove_keys.proofs.tables.are_whole_moments.Goals as goal

pub loop-key-preserved : goal.loop-key-preserved
loop-key-preserved c =
    all_next (IsWholeMoment c.args.names) c.args.keys.now c.loop-key.key-index c.key-item.result c.loop-key-test.true c.key-item.is
    (c.is_whole_moment.ensures c.if-not-is_whole_moment.false) c.loop-key.invariant
