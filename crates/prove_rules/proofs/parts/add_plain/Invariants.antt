use Rattle.std.proofs.Common.{◌≡◌, ◌++◌, drop}
use Rattle.model_rule_text.specs.model_events.specs.Matching.{plain}
use Rattle.prove_rules.proofs.parts.add_plain.Given as goal

-- the text so far and what is left of it make the whole
abbrev pub invariant-loop-character : goal.invariant-loop-character
invariant-loop-character l = l.into.items ++ plain (drop l.character-index l.field) ≡ l.fn.into.items ++ plain l.fn.field
