use Rattle.std.proofs.Common.{◌≡◌, length}
use Rattle.mc_check.specs.Searching.{Searches, StaySeen, IsSeen, remaining_work}
use Rattle.mc_check.proofs.bases.Search.find.Given as goal

abbrev pub invariant-loop-last : goal.invariant-loop-last
invariant-loop-last l = record {
  len : length l.self.progress.items ≡ length l.fn.self.progress.items;
  searches : Searches l.calls l.self.progress.items l.self.stack.items;
  seen : StaySeen l.fn.self.progress.items l.self.progress.items;
  this : IsSeen l.self.progress.items l.routine;
}

abbrev pub decreases-loop-last : goal.decreases-loop-last
decreases-loop-last l = remaining_work l.self.progress.items l.self.stack.items
