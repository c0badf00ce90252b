use Rattle.std.specs.Prelude.{map}
use Rattle.std.proofs.Common.{◌∙◌, ap, sym}
use Rattle.prove_facts.specs.model_prove.specs.Compares.{Compare}
use Rattle.prove_facts.specs.model_prove.specs.Steps as steps
use Rattle.prove_scenes.specs.Works.{digitwise_value, operand_value}
use Rattle.prove_spots.specs.Grounds.{spot_of}
use Rattle.prove_works.specs.Numbers.{flags_of}
use Rattle.prove_works.proofs.WorkLemmas.{way_allowed}
use Rattle.prove_works.proofs.worked.add_way.Goals as goal

pub returns-in_ok-done-in-Some-true : goal.returns-in_ok-done-in-Some-true
returns-in_ok-done-in-Some-true c e s a =
    way_allowed (digitwise_value c.args.digitwise.now) c.args.dt (spot_of s a c.args.spot.now) c.args.way.now
    (map (spot_of s a) c.args.spots.now.items) (map (spot_of s a) c.add_narrowed.new.spots.items)
    (c.is_even.ensures c.if-not-is_even.false) (sym c.is_skipped.ensures ∙ c.if-is_skipped.false)
    (sym c.in-Some-true.field-0-test ∙ c.in-Some-true.ensures
    ∙ ap (λ (k : Compare). steps.allows k (digitwise_value c.args.digitwise.now) (operand_value c.args.digitwise.now.operand) (flags_of c.args.way.now.c c.args.way.now.z)) c.last.ensures)
    (c.in_ok-done-in-Some-true.ensures e s a)
