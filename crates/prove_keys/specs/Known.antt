-- What is known at a place, as the definition has it.
use Rattle.std.specs.Prelude.{◌≡◌, ℕ, Bool, true, false}
use Rattle.prove_facts.specs.model_prove.specs.Facts.{Facts, within}
use Rattle.prove_facts.specs.model_prove.specs.Compares.{Compare}
use Rattle.prove_facts.specs.model_prove.specs.Keys as known
use Rattle.prove_keys.specs.declared.known.Known.{Known}
use Rattle.prove_keys.specs.declared.known.PackedKnown.{PackedKnown}
use Rattle.prove_keys.specs.Compares.{compare_of}

-- the facts of all bytes that are held in little room
abbrev pub packed_bytes : PackedKnown → Facts
packed_bytes p = p.read

-- the facts of the static bytes as power would leave them, which are held under protection
abbrev pub packed_kept : PackedKnown → Facts
packed_kept p = p.kept

-- the last compare that is held
abbrev pub packed_compare : PackedKnown → Compare
packed_compare p = compare_of p.last

-- in little room the same is held
pub record HoldsAlike (p : PackedKnown) (k : Known) : Type 0 where
  pub bytes : k.read ≡ packed_bytes p
  pub kept : k.kept ≡ packed_kept p
  pub compare : compare_of k.last ≡ packed_compare p

-- The facts of the static bytes as power would leave them: those that are held, or without protection those of the
-- bytes that are read.
abbrev pub kept_of : Bool → ℕ → Facts → Facts → Facts
kept_of true fixed bytes kept = kept
kept_of false fixed bytes kept = within 0 fixed bytes

-- what is known without protection, by the number of static bytes
abbrev pub settled_of : ℕ → Facts → Compare → known.Known
settled_of fixed bytes compare = record { bytes = bytes; kept = within 0 fixed bytes; compare = compare }

-- what is held, at a place under protection or not
abbrev pub known_of : Bool → ℕ → PackedKnown → known.Known
known_of protected fixed p =
    record { bytes = packed_bytes p; kept = kept_of protected fixed (packed_bytes p) (packed_kept p); compare = packed_compare p }
