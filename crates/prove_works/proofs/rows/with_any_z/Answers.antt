use Rattle.std.specs.Prelude.{true, false, [], ◌∷◌, map}
use Rattle.std.proofs.Common.{◌∙◌, ap}
use Rattle.prove_facts.specs.model_prove.specs.Steps as steps
use Rattle.prove_spots.specs.Grounds.{spot_of}
use Rattle.prove_works.specs.Numbers.{flags_of}
use Rattle.prove_works.proofs.SpotLemmas.{two_of}
use Rattle.prove_works.proofs.rows.with_any_z.Goals as goal

pub returns : goal.returns
returns c s a =
    two_of (spot_of s a) c.new-spots.result.items (map (spot_of s a) c.add_flagged.new.spots.items) (map (spot_of s a) c.add_flagged-2.new.spots.items)
    (steps.flagged false (flags_of false true) (spot_of s a c.in_ok-base.base)) (steps.flagged false (flags_of false false) (spot_of s a c.in_ok-base.base))
    c.new-spots.ensures.items (c.in_ok-add_flagged.ensures s a) (c.in_ok-add_flagged-2.ensures s a)
    ∙ ap (λ (p : steps.Spot). steps.flagged false (flags_of false true) p ∷ steps.flagged false (flags_of false false) p ∷ []) (c.in_ok-base.ensures s a)
