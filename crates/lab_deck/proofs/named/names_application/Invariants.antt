use Rattle.std.proofs.Common.{◌≡◌, false, length}
use Rattle.std.specs.Prelude.{codes}
use Rattle.law_histories.specs.model_text.specs.Text.{lines}
use Rattle.law_histories.specs.Histories.{has_rule_of}
use Rattle.lab_deck.proofs.named.names_application.Given as goal

-- a rule among the lines that are left is one among all
abbrev pub invariant-loop-line : goal.invariant-loop-line
invariant-loop-line l = has_rule_of (codes "app") l.inside (lines l.rest) ≡ has_rule_of (codes "app") false (lines l.fn.text)

abbrev pub decreases-loop-line : goal.decreases-loop-line
decreases-loop-line l = length l.rest
