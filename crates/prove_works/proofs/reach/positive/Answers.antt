use Rattle.std.proofs.Common.{◌∙◌}
use Rattle.std.specs.Prelude.{nat_lt}
use Rattle.prove_works.proofs.SetSteps.{filter_values, positive_range}
use Rattle.prove_works.proofs.reach.positive.Goals as goal

pub returns : goal.returns
returns c =
    c.and.ensures.set ∙ filter_values c.args.values.now c.range.result (λ v. nat_lt 0 v) (λ v l. c.range.ensures v l ∙ positive_range v l)
