use Rattle.std.proofs.Common.{◌∙◌, ap}
use Rattle.prove_facts.specs.model_prove.specs.Steps as steps
use Rattle.prove_facts.specs.Sets.{set_of}
use Rattle.prove_works.specs.Searches.{sets_of}
use Rattle.prove_works.proofs.searched.searched_in.Goals as goal

pub returns-in-Some : goal.returns-in-Some
returns-in-Some c s a =
    (rw c.in-Some.is at c.in_ok-spots.ensures) s a
    ∙ ap (λ (p : steps.Spot). steps.searched (set_of c.args.values.now) (sets_of c.args.table.now) p) (c.in_ok-below.ensures s a)
