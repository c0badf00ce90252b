use Rattle.std.proofs.Common.{◌∙◌, ap}
use Rattle.prove_facts.specs.model_prove.specs.Steps as steps
use Rattle.prove_spots.specs.Grounds.{Ground, spot_of}
use Rattle.prove_works.specs.Searches.{sets_of}
use Rattle.prove_works.proofs.worked.written_over.Goals as goal

pub returns : goal.returns
returns c s a =
    c.in_ok-written.ensures c.if-not-branch.false s a
    ∙ ap (λ (p : steps.Spot). steps.written c.args.at (sets_of c.args.values.now) p)
    (c.set_bytes.ensures.spot s a ∙ ap (λ (g : Ground). steps.with_facts (spot_of s a g) c.args.facts) c.in_ok-after.ensures)
