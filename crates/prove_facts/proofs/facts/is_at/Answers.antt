use Rattle.std.proofs.Common.{sym, arith}
use Rattle.prove_facts.proofs.FactLemmas.{starts_here}
use Rattle.prove_facts.proofs.facts.is_at.Goals as goal

pub returns-then-place-list : goal.returns-then-place-list
returns-then-place-list c = sym (starts_here c.args.list.now c.args.place c.args.at _ (omega arith))
