use Rattle.std.proofs.Common.{◌≡◌, drop}
use Rattle.desk_explain.specs.Explained.{has_entry}
use Rattle.desk_explain.proofs.verdicts.is_known.Given as goal

-- the entries that are left say it just if all do
abbrev pub invariant-loop-entry : goal.invariant-loop-entry
invariant-loop-entry l = has_entry l.number l.word (drop l.entry-index l.entries) ≡ has_entry l.number l.word l.entries
