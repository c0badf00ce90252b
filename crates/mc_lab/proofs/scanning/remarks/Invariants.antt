use Rattle.std.proofs.Common.{◌≡◌, ◌+◌, ◌≤◌, length}
use Rattle.mc_lab.specs.Remarked.{line_value, remark_values}
use Rattle.mc_lab.specs.Scanning.{scanned}
use Rattle.mc_lab.proofs.RemarkLemmas.{with_left}
use Rattle.mc_lab.proofs.scanning.remarks.Given as goal

-- the remarks found and those that are left are all
abbrev pub invariant-loop-line : goal.invariant-loop-line
invariant-loop-line l = record {
  all : with_left l.mark (remark_values l.found.items) l.inside (line_value l.above) (l.number + 1) l.rest ≡ scanned l.mark l.fn.text;
  few : l.number + length l.rest ≤ length l.fn.text;
}

abbrev pub decreases-loop-line : goal.decreases-loop-line
decreases-loop-line l = length l.rest
