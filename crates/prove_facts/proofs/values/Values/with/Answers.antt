use Rattle.std.proofs.Common.{◌∙◌, ap, Bool}
use Rattle.std.specs.Prelude.{◌||◌}
use Rattle.prove_facts.specs.Sets.{has_value}
use Rattle.prove_facts.proofs.values.Values.with.Goals as goal

pub returns : goal.returns
returns c v h = c.or.ensures.values v h ∙ ap (λ (b : Bool). has_value c.args.self.now v || b) (c.one.ensures.values v h)
