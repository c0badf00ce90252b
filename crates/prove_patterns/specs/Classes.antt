-- Classes of commands, as the definition has them.
use Rattle.std.specs.Prelude.{ℕ, zero, suc, cond, Bool, List, [], ◌∷◌, map}
use Rattle.prove_facts.specs.model_prove.specs.Sets.{Set}
use Rattle.prove_facts.specs.model_prove.specs.Keys.{same_lists}
use Rattle.prove_facts.specs.model_prove.specs.Digits.{same}
use Rattle.prove_facts.specs.model_prove.specs.Texts.{after_any}
use Rattle.prove_facts.specs.model_prove.specs.Between as between
use Rattle.prove_facts.specs.model_prove.specs.Between.{union_all, with_classes}
use Rattle.prove_facts.specs.Sets.{set_of}
use Rattle.prove_patterns.specs.declared.command_classes.Class.{Class}

-- a class
abbrev pub class_value : Class → between.Class
class_value c = record { matches = c.matches.items; sets = map set_of c.sets.items }

-- classes
abbrev pub class_values : List Class → List between.Class
class_values cs = map class_value cs

-- the number of classes before the first of the same lines
abbrev pub class_place : List Bool → List between.Class → ℕ
class_place m [] = 0
class_place m (d ∷ ds) = cond (same_lists same m d.matches) 0 (suc (class_place m ds))

-- classes with the sets of one more in the one at a place
abbrev pub class_joined : ℕ → List Set → List between.Class → List between.Class
class_joined n sets [] = []
class_joined zero sets (d ∷ ds) = record { matches = d.matches; sets = union_all sets d.sets } ∷ ds
class_joined (suc n) sets (d ∷ ds) = d ∷ class_joined n sets ds

-- classes with those of some headers, with a search of some rounds
unfoldable pub classes_onto : ℕ → List between.Header → List between.Class → List between.Class
classes_onto n [] cs = cs
classes_onto n (h ∷ hs) cs = with_classes h.sets (after_any n (h.left ∷ [])) (classes_onto n hs cs)
