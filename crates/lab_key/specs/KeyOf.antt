-- When a key is that of a base and of what runs on it.
use Rattle.std.specs.Prelude.{◌≡◌, ⊤, ℕ, Bool, List, []}
use Rattle.std.specs.List.{IsDistinct}
use Rattle.law_explore.specs.model_device.specs.Card.{App}
use Rattle.law_explore.specs.model_device.specs.PowerUp.{Base, OnCard, AtFault}
use Rattle.law_explore.specs.model_play.specs.Play as play
use Rattle.lab_branch.specs.declared.roster.Roster.{Roster}
use Rattle.lab_branch.specs.Rosters.{roster_eq}
use Rattle.lab_key.specs.declared.key.CardKey.{CardKey}
use Rattle.lab_key.specs.contracts.key.CardKeyPartialEq.TheImpl as card_key
use Rattle.lab_key.specs.Shown.{IsKeptBase}
use Rattle.lab_key.specs.Keys.{KeyShows}

-- the applications of a base, and none of a fault
abbrev pub apps_of_base : Base → List (List ℕ × App)
apps_of_base (OnCard c) = c.apps
apps_of_base (AtFault cause place) = []

-- A key is that of a base and of what runs on it. The rosters, each with its number, are distinct.
pub record KeyOf (rosters : List Roster) (k : CardKey) (b : Base) (l : play.Live) : Type 0 where
  pub shows : KeyShows rosters k (apps_of_base b) l
  pub base : IsKeptBase l b
  pub distinct : IsDistinct roster_eq rosters

-- whether two keys are equal, by the test of the code
abbrev pub card_key_eq : CardKey → CardKey → Bool
card_key_eq = (card_key.ghosts).eq

-- bases of one device: cards of one size, or one fault
abbrev pub AreOfOneDevice : Base → Base → Type 0
AreOfOneDevice (OnCard c) (OnCard d) = c.size ≡ d.size
AreOfOneDevice (AtFault cause place) (AtFault other at) = AtFault cause place ≡ AtFault other at
AreOfOneDevice (OnCard c) (AtFault cause place) = ⊤
AreOfOneDevice (AtFault cause place) (OnCard c) = ⊤
