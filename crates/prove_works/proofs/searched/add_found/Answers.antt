use Rattle.std.specs.Prelude.{false, map, [], ◌∷◌}
use Rattle.std.proofs.Common.{◌∙◌, ap}
use Rattle.prove_facts.specs.model_prove.specs.Sets.{Set}
use Rattle.prove_facts.specs.model_prove.specs.Steps as steps
use Rattle.prove_facts.specs.Sets.{set_of}
use Rattle.prove_spots.specs.Grounds.{spot_of}
use Rattle.prove_works.specs.Numbers.{flags_of}
use Rattle.prove_works.proofs.SpotLemmas.{one_more, changed}
use Rattle.prove_works.proofs.searched.add_found.Goals as goal

pub returns : goal.returns
returns c e s a =
    one_more (spot_of s a) c.args.spots.now.items c.push.new.list.items c.flagged.new.self (steps.found c.args.z c.args.index (spot_of s a c.args.spot.now))
    c.in_ok-push.ensures
    (c.flagged.ensures s a
    ∙ ap (λ (p : steps.Spot). steps.flagged false (flags_of false c.args.z) p)
    (changed (λ vs p. steps.pushed vs p) s a (spot_of s a c.pushed.new.self) c.in_ok-after.after c.args.spot.now (map set_of (c.one.result ∷ [])) ((c.args.index ∷ []) ∷ [])
    (c.in_ok-pushed.ensures c.if-not-branch.false s a) (ap (λ (v : Set). v ∷ []) c.one.ensures.set) c.in_ok-after.ensures))
