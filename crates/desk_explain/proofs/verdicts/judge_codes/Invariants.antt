use Rattle.std.proofs.Common.{ℕ, Bool, true, List, drop}
use Rattle.desk_draft.specs.Loads.{desk_value}
use Rattle.desk_explain.specs.Explained.{causes, JudgesCodes}
use Rattle.desk_explain.proofs.verdicts.judge_codes.Given as goal

-- what the lines that are left judge from here, all lines judge from the start
abbrev pub invariant-loop-i : goal.invariant-loop-i
invariant-loop-i l = (after : Bool × List (ℕ × List ℕ)) → JudgesCodes (desk_value l.desk) (drop l.i l.desk.deck) (l.passes, causes l.entries.items) after → JudgesCodes (desk_value l.desk) l.desk.deck (true, causes l.fn.entries.items) after
