use Rattle.std.proofs.Common.{◌≡◌, ◌++◌, drop, flat_map}
use Rattle.prove_facts.specs.model_prove.specs.Texts.{after_bytes}
use Rattle.prove_facts.specs.Sets.{set_of}
use Rattle.prove_patterns.specs.Opens.{many_of}
use Rattle.prove_patterns.proofs.reaching.each_after_bytes.Given as goal

-- those so far, and those of the rest, are all
abbrev pub invariant-loop-opens : goal.invariant-loop-opens
invariant-loop-opens l =
    many_of l.many.items ++ flat_map (after_bytes (set_of l.set)) (many_of (drop l.opens-index l.from)) ≡ flat_map (after_bytes (set_of l.set)) (many_of l.from)
