-- What the key of a card is for, as a statement.
use Rattle.std.specs.Prelude.{◌≡◌, ℕ, ◌&&◌, ◌==◌, List}
use Rattle.law_explore.specs.model_device.specs.PowerUp.{Base}
use Rattle.law_explore.specs.model_play.specs.Play.{Live}
use Rattle.law_explore.specs.States as model
use Rattle.law_explore.specs.States.{is_same_base, is_same_live, is_same_state}
use Rattle.lab_branch.specs.declared.roster.Roster.{Roster}
use Rattle.lab_key.specs.declared.key.CardKey.{CardKey}
use Rattle.lab_key.specs.declared.kept.Rosters.{Rosters}
use Rattle.lab_key.specs.KeyOf.{KeyOf, AreOfOneDevice, card_key_eq}
use Rattle.lab_key.specs.declared.state.CardState.{CardState}
use Rattle.lab_key.specs.Kept.{IsKeptCard}
use Rattle.lab_key.specs.KeptStates.{IsKeptState, card_state_eq}

-- keys that were read on one device are equal exactly if they are those of one card
abbrev pub KeyLaw : Type 0
KeyLaw = (rosters : List Roster) (k j : CardKey) (b c : Base) (l m : Live) → KeyOf rosters k b l → KeyOf rosters j c m → AreOfOneDevice b c
    → card_key_eq k j ≡ (is_same_base b c && is_same_live l m)

-- cards that are kept have one number exactly if they are one
abbrev pub NumberLaw : Type 0
NumberLaw = (root : List (List ℕ)) (r : Rosters) (n i : ℕ) (b c : Base) (l m : Live) → IsKeptCard root r n b l → IsKeptCard root r i c m
    → (n == i) ≡ (is_same_base b c && is_same_live l m)

-- states that are kept are equal exactly if they are one
abbrev pub StateLaw : Type 0
StateLaw = (root : List (List ℕ)) (budget : ℕ) (names : List (List ℕ)) (r : Rosters) (s t : CardState) (c d : model.CardState)
    → IsKeptState root budget names r s c → IsKeptState root budget names r t d → card_state_eq s t ≡ is_same_state c d
