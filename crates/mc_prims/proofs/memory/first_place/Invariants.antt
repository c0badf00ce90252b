use Rattle.std.proofs.Common.{◌≡◌, ◌==◌, ◌<◌, ℕ, false, get_or}
use Rattle.mc_prims.proofs.memory.first_place.Given as goal

-- the byte is at no index before this one
abbrev pub invariant-loop-b : goal.invariant-loop-b
invariant-loop-b l =
    record {
      place : l.place ≡ l.b-index;
      before : (k : ℕ) → k < l.b-index → (get_or l.bytes k 0 == l.value) ≡ false;
    }
