use Rattle.std.specs.Prelude.{true, false, [], ◌∷◌, map}
use Rattle.std.proofs.Common.{◌∙◌, ap}
use Rattle.prove_facts.specs.model_prove.specs.Steps as steps
use Rattle.prove_spots.specs.Grounds.{Ground, spot_of}
use Rattle.prove_works.specs.Numbers.{flags_of}
use Rattle.prove_works.proofs.SpotLemmas.{three_of}
use Rattle.prove_works.proofs.coarse.comparing.Goals as goal

pub returns : goal.returns
returns c s a =
    three_of (spot_of s a) c.new-spots.result.items (map (spot_of s a) c.add_flagged.new.spots.items) (map (spot_of s a) c.add_flagged-2.new.spots.items)
    (map (spot_of s a) c.add_flagged-3.new.spots.items)
    (steps.flagged true (flags_of true false) (spot_of s a c.uncompared.new.self)) (steps.flagged true (flags_of false true) (spot_of s a c.uncompared.new.self))
    (steps.flagged true (flags_of false false) (spot_of s a c.uncompared.new.self))
    c.new-spots.ensures.items (c.in_ok-add_flagged.ensures s a) (c.in_ok-add_flagged-2.ensures s a) (c.in_ok-add_flagged-3.ensures s a)
    ∙ ap (λ (p : steps.Spot). steps.flagged true (flags_of true false) p ∷ steps.flagged true (flags_of false true) p ∷ steps.flagged true (flags_of false false) p ∷ [])
    (c.uncompared.ensures s a ∙ ap (λ (g : Ground). steps.uncompared (spot_of s a g)) c.in_ok-base.ensures)
