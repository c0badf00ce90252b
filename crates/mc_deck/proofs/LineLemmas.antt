-- Owned lines, and the lines of the grammar that they are.
use Rattle.std.proofs.Common.{◌≡◌, ℕ, zero, suc, ◌<◌, List, [], ◌∷◌, ◌++◌, length, arith, refl, ap}
use Rattle.std.specs.Prelude.{slice_index_or}
use Rattle.std.specs.List.{AllByRecursion}
use Rattle.mc_deck.specs.declared.unit.OwnedUnit.{OwnedUnit}
use Rattle.mc_deck.specs.declared.line.OwnedLine.{OwnedLine}
use Rattle.mc_deck.specs.Lines.{grammar_line, said_lines, unit_at, no_unit, owned_parts, GoodLine}

-- an element, whatever the default beyond the list
pub at_place : (us : List OwnedUnit) (i : ℕ) (d : OwnedUnit) → i < length us → slice_index_or us i d ≡ slice_index_or us i no_unit
at_place [] i d h = absurd (omega (arith, h))
at_place (u ∷ us) zero d h = refl
at_place (u ∷ us) (suc i) d h = at_place us i d (omega (arith, h))

-- the line at a place is good
pub good_in : (us : List OwnedUnit) (ls : List (ℕ × OwnedLine)) (i : ℕ) (d : ℕ × OwnedLine) → i < length (said_lines us ls) → AllByRecursion (λ l. GoodLine l.1) (said_lines us ls) → GoodLine (grammar_line us (slice_index_or ls i d).1)
good_in us [] i d h a = absurd (omega (arith, h))
good_in us (l ∷ ls) zero d h a = a.0
good_in us (l ∷ ls) (suc i) d h a = good_in us ls i d (omega (arith, h)) a.1

-- ---- one more unit

pub unit_front : (us : List OwnedUnit) (u : OwnedUnit) (i : ℕ) → i < length us → unit_at (us ++ u ∷ []) i ≡ unit_at us i
unit_front [] u i h = absurd (omega (arith, h))
unit_front (v ∷ us) u zero h = refl
unit_front (v ∷ us) u (suc i) h = unit_front us u i (omega (arith, h))

pub unit_last : (us : List OwnedUnit) (u : OwnedUnit) → unit_at (us ++ u ∷ []) (length us) ≡ owned_parts u
unit_last [] u = refl
unit_last (v ∷ us) u = unit_last us u

pub one_longer : (us : List OwnedUnit) (u : OwnedUnit) → length (us ++ u ∷ []) ≡ suc (length us)
one_longer [] u = refl
one_longer (v ∷ us) u = ap suc (one_longer us u)
