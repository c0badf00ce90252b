use Rattle.std.proofs.Common.{ℕ, map, length, ◌-◌, sym, ap, ◌∙◌}
use Rattle.std.proofs.lemmas.List.{length-map}
use Rattle.prove_facts.specs.model_prove.specs.Steps as steps
use Rattle.prove_facts.specs.Sets.{set_of}
use Rattle.prove_scenes.specs.ShapeValues.{act_value}
use Rattle.prove_scenes.specs.declared.shapes.Act.{Act}
use Rattle.prove_spots.specs.Grounds.{spot_of}
use Rattle.prove_spots.proofs.SpotLemmas.{done_always}
use Rattle.prove_spots.proofs.spot.Spot.acted.Goals as goal

pub returns-in-Pushes : goal.returns-in-Pushes
returns-in-Pushes c =
    let old = c.args.self.now in
    let ss = map set_of c.args.values.now in
    done_always c.pushed.result c.pushed.new.self old c.args.fixed (steps.pushed ss) (λ x. steps.acted x (act_value c.args.act.now) ss)
    (λ x s a. ap (λ (t : Act). steps.acted x (act_value t) ss (spot_of s a old)) (sym c.in-Pushes.is)) c.pushed.ensures

pub returns-in-Replaces : goal.returns-in-Replaces
returns-in-Replaces c =
    let old = c.args.self.now in
    let values = c.args.values.now in
    let ss = map set_of values in
    done_always c.replaced.result c.replaced.new.self old c.args.fixed (steps.written (old.dt - length values) ss) (λ x. steps.acted x (act_value c.args.act.now) ss)
    (λ x s a. ap (λ (n : ℕ). steps.written (old.dt - n) ss (spot_of s a old)) (sym (length-map values set_of)) ∙ ap (λ (t : Act). steps.acted x (act_value t) ss (spot_of s a old)) (sym c.in-Replaces.is))
    c.replaced.ensures

pub returns-in-Writes : goal.returns-in-Writes
returns-in-Writes c =
    let old = c.args.self.now in
    let ss = map set_of c.args.values.now in
    done_always c.written.result c.written.new.self old c.args.fixed (steps.written c.in-Writes.at ss) (λ x. steps.acted x (act_value c.args.act.now) ss)
    (λ x s a. ap (λ (t : Act). steps.acted x (act_value t) ss (spot_of s a old)) (sym c.in-Writes.is)) c.written.ensures
