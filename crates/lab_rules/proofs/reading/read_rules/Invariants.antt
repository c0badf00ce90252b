use Rattle.std.proofs.Common.{◌+◌, ◌≤◌, length}
use Rattle.mc_text.specs.model_text.specs.Text.{lines}
use Rattle.law_explore.specs.Rules.{rules_read}
use Rattle.lab_rules.proofs.ReadLemmas.{RulesLeft}
use Rattle.lab_rules.proofs.reading.read_rules.Given as goal

-- the rules so far, with those of the lines that are left, are all
abbrev pub invariant-loop-line : goal.invariant-loop-line
invariant-loop-line l = record {
  left : RulesLeft l.rules.moves.items l.rules.allowances.items l.rules.ons.items l.inside (l.number + 1) l.rest (rules_read l.fn.text);
  few : l.number + length (lines l.rest) ≤ 20000;
}

abbrev pub decreases-loop-line : goal.decreases-loop-line
decreases-loop-line l = length l.rest
