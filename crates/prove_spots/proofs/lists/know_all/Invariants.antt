use Rattle.std.proofs.Common.{◌≡◌, ◌+◌, map, drop}
use Rattle.prove_facts.specs.model_prove.specs.Facts.{know_all}
use Rattle.prove_facts.specs.Sets.{set_of}
use Rattle.prove_spots.proofs.lists.know_all.Given as goal

-- what is known so far, with the bytes that are left, is what is known with all
abbrev pub invariant-loop-index : goal.invariant-loop-index
invariant-loop-index l = know_all (l.at + l.index) (map set_of (drop l.index l.list)) l.facts ≡ know_all l.at (map set_of l.list) l.fn.facts
