use Rattle.std.proofs.Common.{◌∙◌, sym}
use Rattle.prove_facts.specs.Sets.{set_of}
use Rattle.prove_facts.proofs.SetLemmas.{only_is, only_none}
use Rattle.prove_facts.proofs.values.Values.only.Goals as goal

pub returns-then-count-eq1 : goal.returns-then-count-eq1
returns-then-count-eq1 c = c.least.ensures ∙ only_is (set_of c.args.self.now) (sym c.count.ensures ∙ c.if-count-eq1.true)

pub returns-else-count-eq1 : goal.returns-else-count-eq1
returns-else-count-eq1 c = sym (only_none (set_of c.args.self.now) (λ e. c.if-count-eq1.false (c.count.ensures ∙ e)))
