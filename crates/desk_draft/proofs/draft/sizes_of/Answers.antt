use Rattle.desk_draft.proofs.DraftLemmas.{sizes_stand}
use Rattle.desk_draft.proofs.draft.sizes_of.Goals as goal

pub returns : goal.returns
returns c = λ t h. sizes_stand c.args.section.now t c.static_size.result h (c.static_size.ensures t.scope.names)
