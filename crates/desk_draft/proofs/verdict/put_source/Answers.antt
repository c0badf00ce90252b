use Rattle.desk_draft.specs.Loads.{source_under}
use Rattle.desk_draft.specs.Sources.{source_value}
use Rattle.desk_draft.proofs.LoadLemmas.{source_there}
use Rattle.desk_draft.proofs.verdict.put_source.Goals as goal

pub returns-in-Some : goal.returns-in-Some
returns-in-Some c = λ l h name.
    source_there l name.now (source_value c.args.source.now) (source_value c.in-Some.field-0.now) (source_under c.args.by_name.now name) (c.in-Some.ensures l h) (h name)
