-- What a way of an operation leads to.
use Rattle.std.specs.Prelude.{◌≡◌, ℕ, cond, not, ◌&&◌, List, [], ◌∷◌, map, length, Option, Some, None}
use Rattle.prove_facts.specs.model_prove.specs.Sets.{Set}
use Rattle.prove_facts.specs.model_prove.specs.Facts.{Facts}
use Rattle.prove_facts.specs.model_prove.specs.Compares.{Compare}
use Rattle.prove_facts.specs.model_prove.specs.Digits.{Flags, Digits}
use Rattle.prove_facts.specs.model_prove.specs.Work.{Digitwise}
use Rattle.prove_facts.specs.model_prove.specs.Steps as steps
use Rattle.prove_digits.specs.declared.digits.Way.{Way}
use Rattle.prove_works.specs.Narrowing.{sets_narrowed}

-- a way has as many bytes of each operand and of the result
abbrev pub IsEven : Way → Type 0
IsEven w = (length w.x.items ≡ length w.y.items) × (length w.x.items ≡ length w.r.items)

-- a place with these facts and this last compare
abbrev pub narrowed_spot : Facts → Compare → steps.Spot → steps.Spot
narrowed_spot f c p = record p { known = record p.known { bytes = f; compare = c } }

-- the place after an operation that ends with these flags, with these sets of the result and facts of the operands
abbrev pub worked_spot : Digitwise → Flags → List Set → Facts → steps.Spot → steps.Spot
worked_spot d f rs facts p =
    cond d.written (steps.written d.at rs (steps.with_facts p facts))
    (narrowed_spot facts (steps.compare_after d f p.known.compare) p)

-- that place, if values are left
abbrev pub worked_if : Digitwise → Flags → List Set → Option Facts → steps.Spot → List steps.Spot
worked_if d f rs None p = []
worked_if d f rs (Some facts) p = worked_spot d f rs facts p ∷ []

-- the places after an operation that ends with these flags, with these sets of both operands and of the result
abbrev pub sets_worked : Digitwise → Flags → List Set → List Set → List Set → steps.Spot → List steps.Spot
sets_worked d f xs ys rs p = worked_if d f rs (sets_narrowed d xs ys p.known.bytes) p

-- the places after an operation along a way, with DT at most a number; rows without a carry end with none
abbrev pub way_spots : Digitwise → ℕ → steps.Spot → Flags × List Digits → List steps.Spot
way_spots d dt p w =
    cond (not d.carries && w.0.c) [] (
    cond (steps.allows p.known.compare d d.operand w.0)
    (map (steps.lowered dt) (map (steps.flagged d.carries w.0)
    (steps.worked_at d w.0 w.1 (steps.narrowed_operands d w.1 p.known.bytes) p)))
    []
    )
