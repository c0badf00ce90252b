use Rattle.std.proofs.Common.{◌≡◌, ◌+◌, ◌*◌, ◌≤◌, drop}
use Rattle.desk_cover.specs.Records.{count_run}
use Rattle.desk_cover.proofs.lcov.count_run.Given as goal

-- with what is left from here it is the number of all
abbrev pub invariant-loop-line : goal.invariant-loop-line
invariant-loop-line l =
    record {
      all : l.count + count_run (drop l.line-index l.lines) ≡ count_run l.lines;
      most : l.count ≤ 2 * l.line-index;
    }
