use Rattle.std.proofs.Common.{◌≡◌, drop}
use Rattle.model_prove.specs.Splits.{with_values}
use Rattle.prove_scenes.proofs.scene.Scene.set_bytes.Given as goal

-- with what is left set from here, the scene is the first with all set
abbrev pub invariant-loop-at : goal.invariant-loop-at
invariant-loop-at l = with_values l.self (drop l.at-index l.bytes) ≡ with_values l.fn.self l.bytes
