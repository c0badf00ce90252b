-- The number of header words that a creation or a deletion changes.
use Rattle.std.specs.Prelude.{ℕ, ◌+◌, ◌≤◌, List, length}
use Rattle.model_card.specs.model_device.specs.Bytes.{insert, remove}
use Rattle.model_card.specs.model_device.specs.Card.{App, Card}
use Rattle.model_card.specs.model_device.specs.Layout.{step_of}

-- a creation or a deletion changes at most four header words more than there are applications: the root, its own
-- header, and the gaps, of which there is at most one more than there are applications
pub record ChangesFewHeaders (c : Card) (name : List ℕ) (app : App) : Type 0 where
  pub created : length (step_of c (record c { apps = insert c.apps name app })) ≤ length c.apps + 4
  pub deleted : length (step_of c (record c { apps = remove c.apps name })) ≤ length c.apps + 4

-- every creation and deletion on every card changes few header words
abbrev pub FewHeadersLaw : Type 0
FewHeadersLaw = (c : Card) (name : List ℕ) (app : App) → ChangesFewHeaders c name app
