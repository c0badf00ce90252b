use Rattle.desk_draft.proofs.RuleLemmas.{scope_found}
use Rattle.desk_draft.proofs.known.put_scope.Goals as goal

pub returns : goal.returns
returns c = λ l n h k q. scope_found c.args.name.now q.now c.args.names n _ _ l (c.in_ok-insert.ensures.updates.0 q) k (h q)
