use Rattle.std.proofs.Common.{◌≡◌, true}
use Rattle.prove_report.specs.Reports.{is_of_lines}
use Rattle.prove_report.proofs.text.add_moments.Given as goal

-- the text so far has whole lines
abbrev pub invariant-loop-key : goal.invariant-loop-key
invariant-loop-key l = is_of_lines l.text.items ≡ true
