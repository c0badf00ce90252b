-- What a packing of the first facts of a list keeps.
use Rattle.std.specs.Prelude.{◌≡◌, [], ◌∷◌, ⊤}
use Rattle.model_prove.specs.Facts as known
use Rattle.prove_facts.specs.Facts.{AreSparse, AreBelow}
use Rattle.prove_facts.specs.Packed.{among, AreApart}

-- facts are below the first of those that are left
abbrev pub AreBefore : known.Facts → known.Facts → Type 0
AreBefore [] f = ⊤
AreBefore (e ∷ more) f = AreBelow e.0 f

-- facts of one value and others are the first of a list, of which the last are left
pub record Packs (first more ones sets : known.Facts) : Type 0 where
  pub ones_sparse : AreSparse 0 ones
  pub sets_sparse : AreSparse 0 sets
  pub apart : AreApart ones sets
  pub ones_before : AreBefore more ones
  pub sets_before : AreBefore more sets
  pub same : among ones sets ≡ first
