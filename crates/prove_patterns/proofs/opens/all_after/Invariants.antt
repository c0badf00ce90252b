use Rattle.std.proofs.Common.{◌≡◌, ◌++◌, map, drop}
use Rattle.prove_facts.specs.model_prove.specs.Texts.{after_text}
use Rattle.prove_patterns.specs.Ways.{byte_digits}
use Rattle.prove_patterns.specs.Opens.{opens_of}
use Rattle.prove_patterns.proofs.opens.all_after.Given as goal

-- those so far, and those of the rest, are all
abbrev pub invariant-loop-open : goal.invariant-loop-open
invariant-loop-open l =
    opens_of l.after.items ++ map (after_text (byte_digits l.byte)) (opens_of (drop l.open-index l.opens)) ≡ map (after_text (byte_digits l.byte)) (opens_of l.opens)
