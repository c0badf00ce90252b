-- What the code found in a journal, as a look of the definitions.
use Rattle.std.specs.Prelude.{◌≡◌, ℕ, ◌≤◌, List, Result, Ok, Err}
use Rattle.arrayvec.specs.ArrayVec.{ArrayVec}
use Rattle.mc_words.specs.model_device.specs.Image.{Journal, Look, Refused, Closed, Pending, targets, look_by_targets, look_j}
use Rattle.mc_gate.specs.declared.look.Found.{Found}
use Rattle.mc_gate.specs.declared.look.Found.TheVariants.{Closed as FoundClosed, Bad as FoundBad, Pending as FoundPending}

-- the look at journal j that the code found
abbrev pub look_of : Journal → Found → Look
look_of j FoundClosed = Closed
look_of j (FoundBad place) = Refused place
look_of j (FoundPending list) = Pending j list.items

-- the targets that were read, or the place of the first bad target word
abbrev pub target_list : Result (ArrayVec ℕ) ℕ → Result (List ℕ) ℕ
target_list (Ok targets) = Ok targets.items
target_list (Err place) = Err place

-- a head that holds the number of pairs, at most 64, so that the targets decide what the journal holds
abbrev pub HasCount : Journal → List (List ℕ) → ℕ → Type 0
HasCount j m count = (look_j j m ≡ look_by_targets j m (targets j m count)) × (count ≤ 64)
