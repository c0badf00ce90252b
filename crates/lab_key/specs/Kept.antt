-- When a card is kept with a number.
use Rattle.std.specs.Prelude.{◌≡◌, ℕ, Bool, List, Vec, length, slice_get, Option, Some, None}
use Rattle.std.specs.declared.alloc.Global.{Global}
use Rattle.std.specs.List.{IsDistinct}
use Rattle.std.specs.Map.{keys_of}
use Rattle.law_explore.specs.model_device.specs.Image.{image_with}
use Rattle.law_explore.specs.model_device.specs.PowerUp.{Base, OnCard, AtFault}
use Rattle.law_explore.specs.model_play.specs.Play as play
use Rattle.mc_store.specs.Power.{base_of_words}
use Rattle.mc_script.specs.declared.live.Live.{Live}
use Rattle.lab_key.specs.declared.key.CardKey.{CardKey}
use Rattle.lab_key.specs.declared.key.PlaceKey.{PlaceKey}
use Rattle.lab_key.specs.declared.key.Stage.{Stage}
use Rattle.lab_key.specs.contracts.key.PlaceKeyPartialEq.TheImpl as place_test
use Rattle.lab_key.specs.contracts.key.StagePartialEq.TheImpl as stage_test
use Rattle.lab_key.specs.declared.kept.Saved.{Saved}
use Rattle.lab_key.specs.declared.kept.Rosters.{Rosters}
use Rattle.lab_key.specs.Shown.{IsShown}
use Rattle.lab_key.specs.KeyOf.{KeyOf}

-- a base that a device with this root can have: a card of its size, or the fault of the root
abbrev pub IsOfDevice : List (List ℕ) → Base → Type 0
IsOfDevice root (OnCard c) = c.size ≡ length root
IsOfDevice root (AtFault cause place) = AtFault cause place ≡ base_of_words root

-- whether two stages are equal, by the test of the code
abbrev pub stage_eq : Stage → Stage → Bool
stage_eq = (stage_test.ghosts).eq

-- whether two keys of cards that are kept are equal, by the test of the code
abbrev pub place_key_eq : PlaceKey → PlaceKey → Bool
place_key_eq = (place_test.ghosts).eq

-- the whole key of a card that is kept, of its stage and its own key
abbrev pub key_with : Stage → PlaceKey → CardKey
key_with s k = record { roster = s.roster; statics = k.statics; live = s.live }

-- A card is kept with a number: its stage and its key are those of the base and of what runs, and the words that are kept
-- with what ran on the stage show them on a device with this root. No two stages and no two cards have one key.
pub record IsKeptCard (root : List (List ℕ)) (r : Rosters) (n : ℕ) (b : Base) (l : play.Live) : Type 0 where
  pub stage : Stage
  pub live : Live
  pub key : PlaceKey
  pub words : Vec (ℕ × List ℕ) Global
  pub entry : slice_get r.cards.entries n ≡ Some (key, words)
  pub staged : slice_get r.stages.entries key.stage ≡ Some (stage, live)
  pub is_key : KeyOf r.rosters.keys (key_with stage key) b l
  pub shows : IsShown (image_with root words.items) live b l
  pub device : IsOfDevice root b
  pub distinct : IsDistinct place_key_eq (keys_of r.cards.entries)
  pub distinct_stages : IsDistinct stage_eq (keys_of r.stages.entries)

-- what was saved of a card that is kept
abbrev pub IsSavedOf : List (List ℕ) → Base → play.Live → Option Saved → Type 0
IsSavedOf root b l None = ⊥
IsSavedOf root b l (Some s) = IsShown (image_with root s.words.now) s.live.now b l
