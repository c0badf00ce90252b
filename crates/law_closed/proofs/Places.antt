-- The test of an application's code is right: a delegation begins at some place exactly if the test finds one.
use Rattle.std.proofs.Common.{◌≡◌, ℕ, zero, suc, Bool, true, false, List, [], ◌∷◌, drop, Result, Ok, Err, refl, sym, ap, ◌∙◌, inl, inr, ◌⊎◌}
use Rattle.std.specs.Prelude.{◌↔◌, not, ◌&&◌, ◌||◌}
use Rattle.std.proofs.lemmas.Bool.{false_from_ne_true, or_left, or_right}
use Rattle.law_family.specs.model_device.specs.Card.{App}
use Rattle.law_family.specs.model_device.proofs.BoolLemmas.{and_false}
use Rattle.law_family.specs.model_machine.specs.declared.instruction.DecodeFault.{DecodeFault}
use Rattle.law_family.specs.model_machine.specs.declared.instruction.Ins.{Ins}
use Rattle.law_family.specs.model_machine.specs.Code.{front, from_place, instruction_at}
use Rattle.law_family.specs.model_machine.specs.Primitives.{DelegateTo, is_denied}
use Rattle.law_closed.specs.Delegations.{is_decoded_delegation, HasNoDelegation, CannotDelegate, begins_delegation, has_delegation, can_delegate}

-- ---- places

placed : (at : ℕ) (r : Result (Ins × ℕ) DecodeFault) → is_decoded_delegation (from_place at r) ≡ is_decoded_delegation r
placed at (Ok i) = refl
placed at (Err e) = refl

at_place : (code : List ℕ) (at : ℕ) → is_decoded_delegation (instruction_at code at) ≡ begins_delegation (drop at code)
unfolding begins_delegation
at_place code at = placed at (front (drop at code))

none_in_empty : begins_delegation [] ≡ false
unfolding begins_delegation
none_in_empty = refl

from_drop : (at : ℕ) (code : List ℕ) → begins_delegation (drop at code) ≡ true → has_delegation code ≡ true
from_drop zero [] h = absurd (cc (sym none_in_empty ∙ h))
from_drop (suc n) [] h = absurd (cc (sym none_in_empty ∙ h))
from_drop zero (b ∷ bs) h = or_left (begins_delegation (b ∷ bs)) (has_delegation bs) h
from_drop (suc n) (b ∷ bs) h = or_right (begins_delegation (b ∷ bs)) (has_delegation bs) (from_drop n bs h)

-- a delegation at some place of the code is found by the test
pub has_from_place : (code : List ℕ) (at : ℕ) → is_decoded_delegation (instruction_at code at) ≡ true → has_delegation code ≡ true
has_from_place code at h = from_drop at code (sym (at_place code at) ∙ h)

-- a place at which a delegation begins
abbrev Place : List ℕ → Type 0
Place code = (at : ℕ) × (begins_delegation (drop at code) ≡ true)

found_place : (code : List ℕ) → has_delegation code ≡ true → Place code
found_place [] h = absurd (cc h)
found_place (b ∷ bs) h = by (begins_delegation (b ∷ bs)) refl h (λ k. found_place bs k)
  where
    by : (x : Bool) → begins_delegation (b ∷ bs) ≡ x → (x || has_delegation bs) ≡ true → (has_delegation bs ≡ true → Place bs) → Place (b ∷ bs)
    by true e h rest = (zero, e)
    by false e h rest = let later : Place bs = rest h in (suc later.0, later.1)

-- ---- applications

none_if_not : (code : List ℕ) → has_delegation code ≡ false → HasNoDelegation code
none_if_not code h at = false_from_ne_true (is_decoded_delegation (instruction_at code at)) (λ e. cc (sym h ∙ has_from_place code at e))

not_if_none : (code : List ℕ) → HasNoDelegation code → has_delegation code ≡ false
not_if_none code none = false_from_ne_true (has_delegation code) (λ h. let place : Place code = found_place code h in cc (sym (none place.0) ∙ at_place code place.0 ∙ place.1))

cannot_by : (deny : ℕ) (code : List ℕ) (b : Bool) → is_denied deny DelegateTo ≡ b → (not b && has_delegation code) ≡ false → (is_denied deny DelegateTo ≡ true) ⊎ HasNoDelegation code
cannot_by deny code true e h = inl e
cannot_by deny code false e h = inr (none_if_not code h)

cannot : (a : App) → can_delegate a ≡ false → CannotDelegate a
cannot a h = cannot_by a.deny a.code (is_denied a.deny DelegateTo) refl h

can_not : (a : App) → CannotDelegate a → can_delegate a ≡ false
can_not a (inl denied) = ap (λ (b : Bool). not b && has_delegation a.code) denied
can_not a (inr none) = ap (λ (b : Bool). not (is_denied a.deny DelegateTo) && b) (not_if_none a.code none) ∙ and_false (not (is_denied a.deny DelegateTo))

-- the test of an application fails exactly if it cannot delegate
pub test_law : (a : App) → can_delegate a ≡ false ↔ CannotDelegate a
test_law a = (cannot a, can_not a)

-- an application with the primitive at a place, which is not denied
pub can_by_place : (a : App) (at : ℕ) → is_decoded_delegation (instruction_at a.code at) ≡ true → is_denied a.deny DelegateTo ≡ false → can_delegate a ≡ true
can_by_place a at has free = ap (λ (b : Bool). not b && has_delegation a.code) free ∙ has_from_place a.code at has
