use Rattle.mc_check.proofs.CallList.{ListsUpTo}
use Rattle.mc_check.proofs.calls.list_calls.Given as goal

abbrev pub invariant-loop-place : goal.invariant-loop-place
invariant-loop-place l = ListsUpTo l.code l.table l.place l.calls.items
