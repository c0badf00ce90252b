use Rattle.std.proofs.Common.{length}
use Rattle.mc_text.specs.model_text.specs.Text.{fields}
use Rattle.law_explore.specs.Rules.{effect_words}
use Rattle.lab_rules.proofs.PartLemmas.{PartsLeft}
use Rattle.lab_rules.proofs.parts.effect_parts.Given as goal

-- the fields so far, and those that are left, are those of the text
abbrev pub invariant-loop-field : goal.invariant-loop-field
invariant-loop-field l = PartsLeft effect_words (fields l.fn.text) (fields l.rest) l.pattern.items

abbrev pub decreases-loop-field : goal.decreases-loop-field
decreases-loop-field l = length l.rest
