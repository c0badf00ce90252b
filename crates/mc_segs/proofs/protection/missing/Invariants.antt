use Rattle.std.proofs.Common.{◌≡◌, ◌+◌, ◌-◌, ◌≤◌}
use Rattle.mc_words.specs.model_device.specs.Pieces.{not_pending}
use Rattle.mc_segs.proofs.protection.missing.Given as goal

abbrev pub invariant-loop-number : goal.invariant-loop-number
invariant-loop-number l =
    record {
      value : l.missing + not_pending l.number (l.first + l.count - l.number) l.pending ≡ not_pending l.first l.count l.pending;
      bound : l.missing + l.first ≤ l.number;
    }
