use Rattle.std.proofs.Common.{◌≡◌, ◌⊎◌, ◌<◌, ℕ, length, [], drop}
use Rattle.std.specs.Prelude.{slice_index_or}
use Rattle.lab_branch.specs.Branches.{IsListed}
use Rattle.lab_branch.proofs.branch.copy_at.Given as goal

-- what is left to copy makes the words of the device of those that the list and the words before have
abbrev pub invariant-loop-place : goal.invariant-loop-place
invariant-loop-place l =
    record {
      len : length l.words ≡ length l.device.words;
      end : length l.words ≡ length l.fn.words;
      left : (i : ℕ) → i < length l.device.words → IsListed i l.places ⊎ (slice_index_or l.device.words i [] ≡ slice_index_or l.fn.words i [])
          → IsListed i (drop l.place-index l.places) ⊎ (slice_index_or l.device.words i [] ≡ slice_index_or l.words i []);
    }
