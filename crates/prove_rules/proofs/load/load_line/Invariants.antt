use Rattle.std.proofs.Common.{◌≡◌, ◌+◌, ◌≤◌, false, length}
use Rattle.mc_text.specs.model_text.specs.Text.{lines, with_numbers}
use Rattle.model_rule_text.specs.Reading.{load_names}
use Rattle.prove_rules.specs.Loads.{first_named}
use Rattle.prove_rules.proofs.load.load_line.Given as goal

-- the first line of the name among those that are left is the first of all
abbrev pub invariant-loop-line : goal.invariant-loop-line
invariant-loop-line l = record {
  first : first_named (load_names l.inside (with_numbers (l.number + 1) (lines l.rest))) l.name ≡ first_named (load_names false (with_numbers 1 (lines l.fn.text))) l.fn.name;
  few : l.number + length (lines l.rest) ≤ 20000;
}

abbrev pub decreases-loop-line : goal.decreases-loop-line
decreases-loop-line l = length l.rest
