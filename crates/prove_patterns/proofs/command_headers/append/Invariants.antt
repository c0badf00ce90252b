use Rattle.std.proofs.Common.{◌≡◌, ◌++◌}
use Rattle.prove_patterns.proofs.command_headers.append.Given as goal

-- those so far are appended
abbrev pub invariant-loop-header : goal.invariant-loop-header
invariant-loop-header l = l.headers.items ≡ l.initial.headers.items ++ l.yielded
