use Rattle.std.proofs.Common.{◌∙◌, sym}
use Rattle.prove_facts.proofs.SetLemmas.{full_if, full_bits}
use Rattle.prove_facts.proofs.values.Values.is_all.Goals as goal

pub returns-clause-values : goal.returns-clause-values
returns-clause-values c e v h =
    full_bits c.args.self.now.words v (sym (c.is_empty.ensures.set ∙ full_if c.not.result.words c.args.self.now.words c.not.ensures) ∙ e) h

pub returns-clause-set : goal.returns-clause-set
returns-clause-set c = c.is_empty.ensures.set ∙ full_if c.not.result.words c.args.self.now.words c.not.ensures
