use Rattle.std.proofs.Common.{◌∙◌, ap}
use Rattle.model_prove.specs.Sets as sets
use Rattle.model_prove.specs.Facts.{values_at}
use Rattle.prove_facts.specs.Facts.{facts_of}
use Rattle.prove_facts.proofs.packed.is_one_covered.Goals as goal

pub returns : goal.returns
returns c s =
    c.is_covered.ensures s (ap (λ (w : sets.Set). sets.is_full w) c.one.ensures.set)
    ∙ ap (λ (w : sets.Set). sets.is_subset (values_at (facts_of c.args.rest.now) c.args.one.now.at) w) c.one.ensures.set
