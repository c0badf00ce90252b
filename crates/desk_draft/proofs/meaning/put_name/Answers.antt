use Rattle.desk_draft.proofs.NameLemmas.{name_found}
use Rattle.desk_draft.proofs.meaning.put_name.Goals as goal

pub returns : goal.returns
returns c = λ l h q. name_found c.args.name.now q.now c.args.meaning _ _ _ l (c.in_ok-insert.ensures.updates.0 q) (h q)
