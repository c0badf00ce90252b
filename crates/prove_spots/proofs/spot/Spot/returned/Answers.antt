use Rattle.std.proofs.Common.{map}
use Rattle.prove_facts.specs.model_prove.specs.Steps as steps
use Rattle.prove_facts.specs.Sets.{set_of}
use Rattle.prove_keys.specs.Keys.{call_of}
use Rattle.prove_spots.proofs.SpotLemmas.{done_from, popped_is}
use Rattle.prove_spots.proofs.spot.Spot.returned.Goals as goal

pub returns-in-Some : goal.returns-in-Some
returns-in-Some c =
    let old = c.args.self.now in
    let left = c.newest.new.self in
    let ss = map set_of c.args.values.now in
    let h = c.in-Some.ensures.some in
    done_from c.came_back.result c.came_back.new.self left old (steps.returned (call_of c.in-Some.call) left.calls c.args.to ss) (steps.returned_by old.calls c.args.to ss)
    (λ s a. popped_is s a old left ss (call_of c.in-Some.call) c.args.to h.0 h.1) c.came_back.ensures
