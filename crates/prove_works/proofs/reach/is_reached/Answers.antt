use Rattle.std.proofs.Common.{◌≡◌, ◌∙◌, ℕ, sym, ap, arith}
use Rattle.prove_scenes.specs.Scenes.{frame_to}
use Rattle.prove_works.specs.Reaches.{reach_value, reaches_below}
use Rattle.prove_works.proofs.ReachLemmas.{reached_is, reached_here}
use Rattle.prove_works.proofs.reach.is_reached.Goals as goal

pub returns-then-reaches : goal.returns-then-reaches
returns-then-reaches c =
    sym (reached_here (frame_to c.args.scene.now c.args.dt) c.args.reach.now c.args.at c.loop-before.before (omega arith) (sym c.reaches.ensures ∙ c.if-reaches.true))

pub returns : goal.returns
returns c =
    let f = frame_to c.args.scene.now c.args.dt in
    let e : 255 ≡ c.loop-before.before = omega arith in
    sym (sym (reached_is f c.args.reach.now c.args.at) ∙ ap (λ (k : ℕ). reaches_below f (reach_value c.args.reach.now) c.args.at k) e ∙ c.loop-before.invariant)
