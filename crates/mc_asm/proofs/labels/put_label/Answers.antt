use Rattle.std.proofs.Common.{◌∙◌}
use Rattle.mc_asm.proofs.PassLemmas.{label_found}
use Rattle.mc_asm.proofs.labels.put_label.Goals as goal

pub returns-in-Ok-clause-put : goal.returns-in-Ok-clause-put
returns-in-Ok-clause-put c = λ l h q. rw c.in-Some.is (c.in-Ok.ensures.updates.0 q ∙ label_found c.in-Some.label.now q.now c.args.place _ l (h q))
