use Rattle.prove_facts.proofs.BitLemmas.{range_test}
use Rattle.std.proofs.Common.{◌∙◌, ap, Bool, ◌+◌}
use Rattle.std.specs.Prelude.{◌&&◌, not, nat_lt}
use Rattle.prove_facts.specs.Sets.{has_value}
use Rattle.prove_facts.proofs.values.Values.range.Goals as goal

pub returns : goal.returns
returns c v h =
    c.and.ensures.values v h ∙ ap (λ (b : Bool). b && has_value c.not.result v) (c.below.ensures v h)
    ∙ ap (λ (b : Bool). nat_lt v (c.args.high + 1) && b) (c.not.ensures v h ∙ ap not (c.below-2.ensures v h)) ∙ range_test v c.args.low c.args.high
