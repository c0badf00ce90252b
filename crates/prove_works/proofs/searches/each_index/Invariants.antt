use Rattle.std.proofs.Common.{◌≡◌, ◌-◌, length, drop}
use Rattle.prove_facts.specs.model_prove.specs.Steps as steps
use Rattle.prove_facts.specs.Sets.{set_of}
use Rattle.prove_works.specs.Searches.{sets_of}
use Rattle.prove_works.proofs.searches.each_index.Given as goal

-- the indices of the last values
abbrev pub invariant-loop-passed : goal.invariant-loop-passed
invariant-loop-passed l = set_of l.found ≡ steps.each_index (drop (length l.list - l.passed) l.list) (sets_of l.table)
