use Rattle.std.proofs.Common.{◌≡◌, ◌⊎◌, ◌<◌, ℕ, length, [], drop}
use Rattle.std.specs.Prelude.{slice_index_or}
use Rattle.lab_branch.specs.Branches.{IsListed}
use Rattle.lab_branch.proofs.branch.put_at.Given as goal

-- what is left to set makes the words of the root of those that the list and the words before have
abbrev pub invariant-loop-place : goal.invariant-loop-place
invariant-loop-place l =
    record {
      len : length l.words ≡ length l.device.words;
      end : length l.device.words ≡ length l.fn.device.words;
      left : (i : ℕ) → i < length l.words → IsListed i l.places ⊎ (slice_index_or l.fn.device.words i [] ≡ slice_index_or l.words i [])
          → IsListed i (drop l.place-index l.places) ⊎ (slice_index_or l.device.words i [] ≡ slice_index_or l.words i []);
      cut : l.device.cut ≡ l.fn.device.cut;
      worn : l.device.worn ≡ l.fn.device.worn;
    }
