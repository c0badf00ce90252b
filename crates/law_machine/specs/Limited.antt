-- Applications within the limits.
use Rattle.std.specs.Prelude.{◌≡◌, ℕ, ◌≤◌, List, length, Option, Some, None}
use Rattle.model_card.specs.model_device.specs.Bytes.{lookup}
use Rattle.model_card.specs.model_device.specs.Card.{App}
use Rattle.model_card.specs.model_device.specs.Limits.{most_static}

-- the number of session bytes of an application, 0 if it is not there
abbrev pub session_in : Option App → ℕ
session_in None = 0
session_in (Some a) = a.session

-- each application keeps to the most static bytes
abbrev pub AreLimited : List (List ℕ × App) → Type 0
AreLimited map = (name : List ℕ) (a : App) → lookup map name ≡ Some a → length a.fixed ≤ most_static
