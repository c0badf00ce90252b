use Rattle.std.proofs.Common.{◌≡◌, true}
use Rattle.prove_report.specs.Reports.{is_of_lines}
use Rattle.prove_report.proofs.text.add_breaks.Given as goal

-- the text so far has whole lines
abbrev pub invariant-loop-broken : goal.invariant-loop-broken
invariant-loop-broken l = is_of_lines l.text.items ≡ true
