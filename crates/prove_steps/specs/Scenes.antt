-- The scene of a place after its fetch.
use Rattle.std.specs.Prelude.{ℕ}
use Rattle.model_device.specs.Card.{App}
use Rattle.mc_isa.specs.model_machine.specs.Chain.{frame_at}
use Rattle.prove_facts.specs.model_prove.specs.Keys.{PlaceKey}
use Rattle.prove_facts.specs.model_prove.specs.Splits.{Scene, stand_in}

-- the scene of a place after a fetch that ended at an address
abbrev pub scene_after : App → PlaceKey → ℕ → Scene
scene_after app k next =
    let e = stand_in app k in
    record e { frame = frame_at e.frame next }
