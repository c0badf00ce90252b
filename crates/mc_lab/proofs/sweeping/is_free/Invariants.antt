use Rattle.std.proofs.Common.{◌≡◌, ◌≤◌}
use Rattle.mc_lab.proofs.SweepDecks.{is_free_at}
use Rattle.mc_lab.proofs.sweeping.is_free.Given as goal

-- no line from here on says whether a stop is armed
abbrev pub invariant-loop-left : goal.invariant-loop-left
invariant-loop-left l =
    record {
      within : l.left ≤ l.at;
      same : is_free_at l.deck l.at ≡ is_free_at l.deck l.left;
    }

abbrev pub decreases-loop-left : goal.decreases-loop-left
decreases-loop-left l = l.left
