use Rattle.std.proofs.Common.{◌≡◌, ◌++◌}
use Rattle.prove_patterns.proofs.reaching.append.Given as goal

-- those so far are appended
abbrev pub invariant-loop-opens : goal.invariant-loop-opens
invariant-loop-opens l = l.many.items ≡ l.initial.many.items ++ l.yielded
