use Rattle.std.proofs.Common.{◌≡◌, length}
use Rattle.std.specs.Prelude.{map}
use Rattle.desk_cover.specs.Counting.{line_by}
use Rattle.desk_cover.proofs.ListLemmas.{map_rest}
use Rattle.desk_cover.proofs.covering.count.Given as goal

-- the lines from an index on are still to be counted
abbrev pub invariant-loop-i : goal.invariant-loop-i
invariant-loop-i l =
    record {
      size : length l.lines ≡ length l.fn.lines;
      rest : map_rest (line_by l.section l.at l.flags.c l.flags.z) l.i l.lines ≡ map (line_by l.section l.at l.flags.c l.flags.z) l.fn.lines;
    }
