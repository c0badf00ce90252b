use Rattle.std.proofs.Common.{◌≡◌, ◌≤◌, drop, length}
use Rattle.desk_draft.specs.Declarations.{gives_later}
use Rattle.desk_draft.specs.Views.{gives_later_each, line_texts}
use Rattle.desk_draft.proofs.line.gives_later.Given as goal

-- the lines from this one on are judged
abbrev pub invariant-loop-i : goal.invariant-loop-i
invariant-loop-i l =
    record {
      all : length l.later.items ≡ length l.lines;
      within : l.i ≤ length l.lines;
      given : l.given ≡ gives_later (drop l.i (line_texts l.lines));
      judged : drop l.i l.later.items ≡ gives_later_each (drop l.i (line_texts l.lines));
    }

abbrev pub decreases-loop-i : goal.decreases-loop-i
decreases-loop-i l = l.i
