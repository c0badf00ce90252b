use Rattle.std.proofs.Common.{refl}
use Rattle.desk_draft.proofs.LoadLemmas.{source_new}
use Rattle.desk_draft.proofs.verdict.insert_source.Goals as goal

pub returns : goal.returns
returns c = λ l n h q. source_new l c.args.source.now.name.now q.now c.args.source _ _ refl (c.in_ok-insert.ensures.updates.0 q) n (h q)
