use Rattle.std.proofs.Common.{◌∙◌, ap}
use Rattle.prove_facts.specs.model_prove.specs.Splits.{Scene, with_values}
use Rattle.prove_spots.specs.Grounds.{spot_of}
use Rattle.prove_steps.proofs.StepLemmas.{from_some}
use Rattle.prove_steps.proofs.scenes.scene_with.Goals as goal

pub returns : goal.returns
returns c =
    λ app s a sized.
    c.in_ok-set_bytes.ensures.set c.if-not-branch.false
    ∙ ap (λ (e : Scene). with_values e c.args.choice.now) (
    c.go.ensures
    ∙ ap (λ (e : Scene). record e { frame = record e.frame { at = c.args.next } })
    ((from_some _ _ _ c.in-Some.is c.in_ok-scene.ensures) app (spot_of s a c.args.spot.now).key sized (c.registers_of.ensures s a)))
