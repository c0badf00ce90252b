-- The number of writes of a recovery.
use Rattle.std.proofs.Common.{◌≡◌, ℕ, ◌≤◌, List, [], ◌∷◌, length, refl, length-append}
use Rattle.model_device.specs.Image.{Journal, gate, shut_word, Look, Refused, Closed, Pending, look_j, debt, owed_j}
use Rattle.model_device.specs.Stopped.{owed_writes}
use Rattle.model_device.proofs.LookLemmas.{owed_few}

-- there are as many writes that recovery still has to make as the debt states
pub as_many : (l : Look) → length (owed_writes l) ≡ debt l
as_many (Refused p) = refl
as_many Closed = refl
as_many (Pending j ps) = length-append ps ((gate j, shut_word) ∷ [])

pub at_most_65 : (j : Journal) (m : List (List ℕ)) → owed_j j m ≤ 65
at_most_65 j m = owed_few j m (look_j j m) refl
