use Rattle.std.proofs.Common.{◌∙◌, sym, arith}
use Rattle.prove_facts.proofs.SetLemmas.{in_values}
use Rattle.prove_works.proofs.lists.has.Goals as goal

pub returns : goal.returns
returns c = c.has.ensures ∙ sym (in_values c.args.values.now.words c.args.value (omega arith))
