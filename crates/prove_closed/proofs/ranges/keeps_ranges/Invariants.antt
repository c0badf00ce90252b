use Rattle.std.proofs.Common.{◌≡◌, true, drop, map}
use Rattle.prove_facts.specs.model_prove.specs.Tables.{keeps_ranges}
use Rattle.lab_app_rules.specs.Rules.{range_of}
use Rattle.prove_closed.proofs.ranges.keeps_ranges.Given as goal

-- if the ranges that are left are kept, all are
abbrev pub invariant-loop-line : goal.invariant-loop-line
invariant-loop-line l =
    keeps_ranges (map range_of (drop l.line-index l.lines)) l.facts ≡ true → keeps_ranges (map range_of l.lines) l.facts ≡ true
