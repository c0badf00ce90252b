-- Searches of a table for a byte.
use Rattle.std.specs.Prelude.{List, map}
use Rattle.prove_facts.specs.model_prove.specs.Sets.{Set}
use Rattle.prove_facts.specs.declared.values.Values.{Values}
use Rattle.prove_facts.specs.Sets.{set_of}

-- the sets of bytes
abbrev pub sets_of : List Values → List Set
sets_of vs = map set_of vs
