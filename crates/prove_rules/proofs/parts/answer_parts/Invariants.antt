use Rattle.std.proofs.Common.{length}
use Rattle.mc_text.specs.model_text.specs.Text.{fields}
use Rattle.model_rule_text.specs.Reading.{gives_words}
use Rattle.prove_rules.proofs.PartLemmas.{PartsLeft}
use Rattle.prove_rules.proofs.parts.answer_parts.Given as goal

-- the fields so far, and those that are left, are those of the text
abbrev pub invariant-loop-field : goal.invariant-loop-field
invariant-loop-field l = PartsLeft gives_words (fields l.fn.text) (fields l.rest) l.pattern.items

abbrev pub decreases-loop-field : goal.decreases-loop-field
decreases-loop-field l = length l.rest
