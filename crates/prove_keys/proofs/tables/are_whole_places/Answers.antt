use Rattle.prove_keys.specs.Tables.{IsWholePlace}
use Rattle.prove_keys.proofs.ListLemmas.{all_next}
use Rattle.prove_keys.proofs.tables.are_whole_places.Goals as goal

pub loop-key-preserved : goal.loop-key-preserved
loop-key-preserved c =
    all_next (IsWholePlace c.args.names c.args.classes) c.args.keys.now c.loop-key.key-index c.key-item.result c.loop-key-test.true c.key-item.is
    (c.is_whole_place.ensures c.if-not-is_whole_place.false) c.loop-key.invariant
