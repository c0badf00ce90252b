use Rattle.std.proofs.Common.{◌++◌, ◌∷◌, []}
use Rattle.desk_draft.specs.Sources.{source_value, sources_value}
use Rattle.desk_draft.proofs.LoadLemmas.{named_more}
use Rattle.desk_draft.proofs.verdict.Loads.new.Goals as goal

pub loop-source-preserved : goal.loop-source-preserved
loop-source-preserved c =
    let so = c.loop-source.invariant in (
      so.0 ++ source_value c.source-item.result ∷ [],
      c.in_ok-put_source.ensures so.0 so.1,
      named_more so.0 (sources_value c.args.sources.now) c.args.sources.now c.loop-source.source-index c.source-item.result c.loop-source-test.true c.source-item.is so.2,
    )
