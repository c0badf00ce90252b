use Rattle.std.proofs.Common.{◌≡◌, ◌++◌, ◌+◌, ◌≤◌, drop, length}
use Rattle.law_explore.specs.model_events.specs.Matching.{plain}
use Rattle.lab_rules.proofs.pattern.plain_into.Given as goal

-- the text so far and what is left of it make the whole
abbrev pub invariant-loop-character : goal.invariant-loop-character
invariant-loop-character g l = record {
  text : l.into.items ++ plain (drop l.character-index l.text) ≡ l.fn.into.items ++ plain l.fn.text;
  room : length l.into.items + length (drop l.character-index l.text) ≤ g.row.N;
}
