use Rattle.std.specs.Prelude.{List}
use Rattle.std.proofs.Common.{◌∙◌, ap}
use Rattle.prove_facts.specs.model_prove.specs.Compares.{Compare}
use Rattle.prove_facts.specs.model_prove.specs.Facts.{Facts}
use Rattle.prove_facts.specs.model_prove.specs.Reach as known
use Rattle.prove_facts.specs.model_prove.specs.Steps as steps
use Rattle.prove_keys.specs.declared.keys.Call.{Call}
use Rattle.prove_keys.specs.Compares.{said}
use Rattle.prove_keys.specs.Keys.{calls_of}
use Rattle.prove_scenes.specs.Scenes.{frame_to}
use Rattle.prove_works.specs.Reaches.{reach_value}
use Rattle.prove_works.proofs.SpotLemmas.{reached_is}
use Rattle.prove_works.proofs.coarse.reached.Goals as goal

pub returns : goal.returns
returns c s a =
    let f = frame_to c.args.scene.now c.args.dt in
    let r = reach_value c.args.reach.now in
    c.with_flags.ensures s a
    ∙ ap (λ (p : steps.Spot). steps.with_flags c.args.flags p)
    (reached_is f r s a c.args.spot.now c.in_ok-after.after c.set_calls.new.self c.set_bytes.new.self c.set_last.new.self
    (calls_of c.in_ok-from_slice.field-0.items) (calls_of c.args.calls.now) c.in_ok-facts_not_reached.field-0 (said c.last_not_reached.result)
    c.in_ok-after.ensures c.set_calls.ensures c.set_bytes.ensures.ground c.set_last.ensures
    (ap (λ (l : List Call). calls_of l) c.in_ok-from_slice.ensures.items)
    (c.in_ok-facts_not_reached.ensures ∙ ap (λ (g : Facts). known.facts_not_reached f r g) c.bytes.ensures)
    (c.last_not_reached.ensures ∙ ap (λ (k : Compare). known.compare_not_reached f r k) c.last.ensures))
