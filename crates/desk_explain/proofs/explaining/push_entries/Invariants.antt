use Rattle.std.proofs.Common.{◌≡◌, ◌++◌, drop}
use Rattle.desk_explain.specs.Explained.{entry_lines}
use Rattle.desk_explain.proofs.explaining.push_entries.Given as goal

-- the text so far, followed by the lines that are left, is the old text with all lines
abbrev pub invariant-loop-entry : goal.invariant-loop-entry
invariant-loop-entry l = l.text.items ++ entry_lines l.name (drop l.entry-index l.entries) ≡ l.fn.text.items ++ entry_lines l.name l.entries
