use Rattle.std.proofs.Common.{◌+◌, ◌≤◌, length}
use Rattle.mc_text.specs.model_text.specs.Text.{lines}
use Rattle.prove_rules.specs.Lines.{lines_read}
use Rattle.prove_rules.specs.Loads.{loads_in}
use Rattle.prove_rules.proofs.ReadLemmas.{RulesLeft}
use Rattle.prove_rules.proofs.reading.read_lines.Given as goal

-- the rules so far, with those of the lines that are left, are all
abbrev pub invariant-loop-line : goal.invariant-loop-line
invariant-loop-line l = record {
  left : RulesLeft (loads_in l.fn.source.text.now l.fn.source.deck.now) l.rules l.inside (l.number + 1) l.rest (lines_read l.fn.source.text.now l.fn.source.deck.now);
  few : l.number + length (lines l.rest) ≤ 20000;
}

abbrev pub decreases-loop-line : goal.decreases-loop-line
decreases-loop-line l = length l.rest
