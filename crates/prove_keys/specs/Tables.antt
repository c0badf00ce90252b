-- The tables, as the definition has them: each key once, in the order in which it was found.
use Rattle.std.specs.Prelude.{◌≡◌, ℕ, ◌<◌, Bool, List, [], ◌∷◌, length, get_or, ⊤}
use Rattle.std.specs.List.{AllByRecursion}
use Rattle.prove_facts.specs.model_prove.specs.Facts.{Facts}
use Rattle.prove_facts.specs.model_prove.specs.Keys as known
use Rattle.prove_keys.specs.declared.keys.Begun.{Begun}
use Rattle.prove_keys.specs.declared.keys.Begun.TheVariants.{Delegated, Class}
use Rattle.prove_keys.specs.declared.keys.MomentKey.{MomentKey}
use Rattle.prove_keys.specs.declared.keys.PlaceKey.{PlaceKey}
use Rattle.prove_keys.specs.declared.known.PackedKnown.{PackedKnown}
use Rattle.prove_keys.specs.declared.tables.Tables.{Tables}
use Rattle.prove_keys.specs.Keys.{moment_of, place_of}
use Rattle.prove_keys.specs.Known.{known_of}

-- moments with their facts
abbrev pub moments_of : List (List ℕ) → List MomentKey → List Facts → List (known.MomentKey × Facts)
moments_of names [] fs = []
moments_of names (k ∷ ks) [] = []
moments_of names (k ∷ ks) (f ∷ fs) = (moment_of names k, f) ∷ moments_of names ks fs

-- places with what is known there; `fixed` is the number of static bytes
abbrev pub places_of : List (List ℕ) → List (List Bool) → ℕ → List PlaceKey → List PackedKnown → List (known.PlaceKey × known.Known)
places_of names classes fixed [] ps = []
places_of names classes fixed (k ∷ ks) [] = []
places_of names classes fixed (k ∷ ks) (p ∷ ps) =
    (place_of names classes k, known_of k.registers.protected fixed p) ∷ places_of names classes fixed ks ps

-- both tables, with the names of the allowances, the classes of commands and the number of static bytes
abbrev pub tables_of : List (List ℕ) → List (List Bool) → ℕ → Tables → known.Tables
tables_of names classes fixed t =
    record { moments = moments_of names t.moments.keys t.facts.items; places = places_of names classes fixed t.places.keys t.known.items }

-- ---- keys with as many amounts as there are allowances, and with classes that there are

-- a frame began by a delegation or by a command of one of n classes
abbrev pub IsOneOf : ℕ → Begun → Type 0
IsOneOf n Delegated = ⊤
IsOneOf n (Class k) = k < n

-- a moment has an amount for each of n allowances
abbrev pub IsWholeMoment : ℕ → MomentKey → Type 0
IsWholeMoment n k = length k.amounts.items ≡ n

-- a place has an amount for each of n allowances, and is of one of m classes or of a delegation
abbrev pub IsWholePlace : ℕ → ℕ → PlaceKey → Type 0
IsWholePlace n m k = (length k.amounts.items ≡ n) × IsOneOf m k.begun

-- every key of both tables is whole
pub record AreWhole (n m : ℕ) (t : Tables) : Type 0 where
  pub moments : AllByRecursion (IsWholeMoment n) t.moments.keys
  pub places : AllByRecursion (IsWholePlace n m) t.places.keys

-- no two classes of commands are equal
abbrev pub AreDistinct : List (List Bool) → Type 0
AreDistinct classes = (i j : ℕ) → i < length classes → j < length classes → get_or classes i [] ≡ get_or classes j [] → i ≡ j
