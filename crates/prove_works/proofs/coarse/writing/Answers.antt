use Rattle.std.specs.Prelude.{ℕ, List, map}
use Rattle.std.proofs.Common.{◌∙◌, ap}
use Rattle.prove_facts.specs.model_prove.specs.Keys.{Call}
use Rattle.prove_facts.specs.model_prove.specs.Reach as known
use Rattle.prove_facts.specs.model_prove.specs.Steps as steps
use Rattle.prove_scenes.specs.Scenes.{frame_to}
use Rattle.prove_spots.specs.Grounds.{spot_of}
use Rattle.prove_works.specs.Reaches.{reach_value, calls_from}
use Rattle.prove_works.proofs.SpotLemmas.{by_calls}
use Rattle.prove_works.proofs.coarse.writing.Goals as goal

pub returns : goal.returns
returns c s a =
    let f = frame_to c.args.scene.now c.args.dt in
    let r = reach_value c.args.reach.now in
    let calls = c.calls-calls.result.now in
    let place = λ (ks : List Call). steps.with_flags c.args.flags (steps.reached_spot f r (spot_of s a c.args.spot.now) ks) in
    c.in_ok-spots.ensures s a
    ∙ by_calls place calls c.as_slice.result.now
    ∙ ap (λ (l : List ℕ). map place (calls_from calls l)) c.as_slice.ensures.value
    ∙ ap (λ (l : List (List Call)). map place l) c.in_ok-list.ensures
    ∙ ap (λ (l : List Call). map place (known.calls_hit f r l)) c.calls-calls.ensures
