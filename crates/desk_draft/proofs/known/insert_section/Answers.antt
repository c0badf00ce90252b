use Rattle.desk_draft.proofs.SectionLemmas.{section_new}
use Rattle.desk_draft.proofs.known.insert_section.Goals as goal

pub returns : goal.returns
returns c = λ l n h q. section_new l c.args.name.now q.now c.args.sizes _ _ (c.in_ok-insert.ensures.updates.0 q) n (h q)
