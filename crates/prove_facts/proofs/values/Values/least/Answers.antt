use Rattle.std.proofs.Common.{◌∙◌, sym, ap}
use Rattle.prove_facts.specs.Sets.{least_value}
use Rattle.model_prove.specs.Sets as sets
use Rattle.prove_facts.proofs.LeastLemmas.{four_values}
use Rattle.prove_facts.proofs.values.Values.least.Goals as goal

pub returns : goal.returns
returns c = c.least_of.ensures ∙ ap (λ (s : sets.Set). least_value s) (sym (four_values c.args.self.now.words))
