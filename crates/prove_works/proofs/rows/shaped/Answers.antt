use Rattle.std.specs.Prelude.{map}
use Rattle.std.proofs.Common.{◌∙◌, ap}
use Rattle.prove_facts.specs.model_prove.specs.Steps as steps
use Rattle.prove_facts.specs.Sets.{set_of}
use Rattle.prove_scenes.specs.ShapeValues.{act_value}
use Rattle.prove_spots.specs.Grounds.{spot_of}
use Rattle.prove_works.proofs.SpotLemmas.{alone}
use Rattle.prove_works.proofs.rows.shaped.Goals as goal

pub returns : goal.returns
returns c x s a e =
    alone (spot_of s a) c.in_ok-one.field-0.items c.with_flags.new.self
    (steps.with_flags c.args.shape.now.flags (steps.acted x (act_value c.args.shape.now.act) (map set_of c.args.values.now) (steps.lowered c.args.shape.now.dt (spot_of s a c.args.spot.now))))
    c.in_ok-one.ensures
    (c.with_flags.ensures s a
    ∙ ap (λ (p : steps.Spot). steps.with_flags c.args.shape.now.flags p)
    (c.in_ok-acted.ensures c.if-not-branch.false x s a e
    ∙ ap (λ (p : steps.Spot). steps.acted x (act_value c.args.shape.now.act) (map set_of c.args.values.now) p) (c.in_ok-after.ensures s a)))
