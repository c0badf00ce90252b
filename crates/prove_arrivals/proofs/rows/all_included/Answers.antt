use Rattle.std.proofs.Common.{List, map, flat_map}
use Rattle.prove_facts.specs.model_prove.specs.Arrivals.{Arrival}
use Rattle.prove_facts.specs.model_prove.specs.Steps as steps
use Rattle.prove_scenes.specs.ShapeValues.{next_value}
use Rattle.prove_arrivals.specs.Following.{followed, late_arrivals, leads, spot_before}
use Rattle.prove_arrivals.specs.Subjects.{spot_in, tables_in}
use Rattle.prove_arrivals.proofs.AllowedLemmas.{on_turn}
use Rattle.prove_arrivals.proofs.IncludedLemmas.{both_included, mapped_included}
use Rattle.prove_arrivals.proofs.rows.all_included.Goals as goal

pub returns : goal.returns
returns c =
    let u = c.args.subject.now in
    let r = c.args.row.now in
    let amounts = c.args.amounts.now in
    let places = c.args.places.now in
    on_turn c.follow_all.result u r amounts (λ names s i. flat_map (followed names s i u r amounts) places)
    (λ names s i. leads s i c.args.late r.writes (next_value r.next) (spot_before names u r amounts) (map (spot_in names u r.begun amounts) places))
    (λ names s i o t h.
    let follow : steps.Spot → List Arrival = λ q. steps.follows s i r.writes (next_value r.next) (spot_before names u r amounts) (steps.settled_spot s q) in
    both_included (tables_in names u) (late_arrivals s c.args.late (spot_before names u r amounts)) (flat_map follow (map (spot_in names u r.begun amounts) places))
    (c.in_ok-late_included.ensures c.if-not-branch.false names s o) (mapped_included (tables_in names u) follow (spot_in names u r.begun amounts) places h))
    c.follow_all.ensures
