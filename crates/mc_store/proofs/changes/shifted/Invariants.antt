use Rattle.std.proofs.Common.{◌≡◌, ◌+◌, ◌≤◌, ◌++◌, length, drop}
use Rattle.std.specs.List.{AllByRecursion}
use Rattle.mc_store.specs.CommitLaws.{placed_words}
use Rattle.mc_store.proofs.changes.shifted.Given as goal

-- what is there and what is left are all of them
abbrev pub invariant-loop-number : goal.invariant-loop-number
invariant-loop-number l =
    record {
      all : l.targets.items ++ placed_words l.first (drop l.number-index l.list) ≡ placed_words l.first l.list;
      size : length l.targets.items ≡ l.number-index;
      within : AllByRecursion (λ w. l.first + w.0 ≤ 65535) (drop l.number-index l.list);
    }
