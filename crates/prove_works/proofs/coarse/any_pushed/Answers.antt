use Rattle.std.specs.Prelude.{List, map}
use Rattle.std.proofs.Common.{◌∙◌, ap}
use Rattle.prove_facts.specs.declared.values.Values.{Values}
use Rattle.prove_facts.specs.Sets.{set_of}
use Rattle.prove_facts.specs.model_prove.specs.Steps as steps
use Rattle.prove_spots.specs.Grounds.{spot_of}
use Rattle.prove_works.proofs.SpotLemmas.{changed}
use Rattle.prove_works.proofs.coarse.any_pushed.Goals as goal

pub returns : goal.returns
returns c s a =
    changed (λ vs p. steps.pushed vs p) s a (spot_of s a c.pushed.new.self) c.in_ok-after.after c.args.spot.now (map set_of c.as_slice.result.now) (steps.any_bytes c.args.n)
    (c.in_ok-pushed.ensures c.if-not-branch.false s a)
    (ap (λ (l : List Values). map set_of l) c.as_slice.ensures.value ∙ c.in_ok-list.ensures) c.in_ok-after.ensures
