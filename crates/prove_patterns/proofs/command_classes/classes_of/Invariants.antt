use Rattle.std.proofs.Common.{◌≡◌, ◌≤◌, ℕ, [], vec_len}
use Rattle.prove_patterns.specs.Headers.{headers_of}
use Rattle.prove_patterns.specs.Classes.{class_values, classes_onto}
use Rattle.prove_patterns.proofs.command_classes.classes_of.Given as goal

-- the headers that are left with what is there are all
abbrev pub invariant-loop-header : goal.invariant-loop-header
invariant-loop-header l =
    (n : ℕ) → 10000 ≤ n → classes_onto n (headers_of l.headers.items) (class_values l.classes.items) ≡ classes_onto n (headers_of l.initial.headers.items) []

abbrev pub decreases-loop-header : goal.decreases-loop-header
decreases-loop-header l = vec_len l.headers
