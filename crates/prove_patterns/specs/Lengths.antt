-- Lengths of a reply, as the definition has them.
use Rattle.prove_facts.specs.model_prove.specs.Arrivals as known
use Rattle.prove_patterns.specs.declared.lengths.Lengths.{Lengths}

-- which lengths are possible
abbrev pub lengths_value : Lengths → known.Lengths
lengths_value l = record { some = l.some; fitting = l.fitting; too_long = l.too_long }
