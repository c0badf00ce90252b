use Rattle.std.proofs.Common.{◌≡◌, true}
use Rattle.prove_report.specs.Reports.{is_of_lines}
use Rattle.prove_report.proofs.text.add_unknown.Given as goal

-- the text so far has whole lines
abbrev pub invariant-loop-at : goal.invariant-loop-at
invariant-loop-at l = is_of_lines l.text.items ≡ true
