use Rattle.std.proofs.Common.{◌≡◌, [], length}
use Rattle.mc_check.specs.Searching.{Searches}
use Rattle.mc_check.proofs.SearchFound.{SeenUpTo}
use Rattle.mc_check.proofs.bases.bases_by.Given as goal

abbrev pub invariant-loop-call : goal.invariant-loop-call
invariant-loop-call l = record {
  len : length l.search.progress.items ≡ l.len;
  stack : l.search.stack.items ≡ [];
  searches : Searches l.calls l.search.progress.items [];
  seen : SeenUpTo l.calls l.search.progress.items l.call-index;
}
