use Rattle.std.proofs.Common.{◌≡◌, ◌≤◌, drop, take}
use Rattle.prove_facts.specs.model_prove.specs.Keys.{calls_before}
use Rattle.prove_keys.specs.Keys.{calls_of}
use Rattle.prove_spots.specs.Losses.{IsOrdered, is_lost}
use Rattle.prove_spots.proofs.calls.lost_calls.Given as goal

-- of the calls so far this number is lost
abbrev pub invariant-loop-index : goal.invariant-loop-index
invariant-loop-index l =
    record {
      ordered : IsOrdered l.loss;
      bound : l.lost ≤ l.index;
      kept : calls_of (drop l.lost (take l.index l.calls)) ≡ calls_before (is_lost l.loss) (calls_of (take l.index l.calls));
    }
