-- Which applications can delegate: those with the primitive at a place of their code, and an access list that does not
-- deny it.
use Rattle.std.specs.Prelude.{◌≡◌, ◌⊎◌, ℕ, Bool, true, false, not, ◌&&◌, ◌||◌, List, [], ◌∷◌, Option, Some, Result, Ok, Err}
use Rattle.std.specs.List.{AllByRecursion}
use Rattle.law_family.specs.model_device.specs.Bytes.{has_name, lookup}
use Rattle.law_family.specs.model_device.specs.Card.{App}
use Rattle.law_family.specs.model_machine.specs.declared.instruction.DecodeFault.{DecodeFault}
use Rattle.law_family.specs.model_machine.specs.declared.instruction.Ins.{Ins}
use Rattle.law_family.specs.model_machine.specs.declared.instruction.Ins.TheVariants as ins
use Rattle.law_family.specs.model_machine.specs.Code.{front, instruction_at}
use Rattle.law_family.specs.model_machine.specs.Primitives.{Primitive, DelegateTo, primitive, is_denied}

-- ---- code

-- whether a primitive is the one that delegates
abbrev pub is_delegate : Option Primitive → Bool
is_delegate (Some DelegateTo) = true
is_delegate _ = false

-- whether an instruction is that primitive
abbrev pub is_delegation : Ins → Bool
is_delegation (ins.Prim set number args) = is_delegate (primitive set number)
is_delegation _ = false

-- whether what was decoded is such an instruction
abbrev pub is_decoded_delegation : Result (Ins × ℕ) DecodeFault → Bool
is_decoded_delegation (Ok i) = is_delegation i.0
is_decoded_delegation (Err e) = false

-- no such instruction begins at any place of the code
abbrev pub HasNoDelegation : List ℕ → Type 0
HasNoDelegation code = (at : ℕ) → is_decoded_delegation (instruction_at code at) ≡ false

-- the access list denies the primitive, or no instruction of the code is it, whatever place is jumped to
abbrev pub CannotDelegate : App → Type 0
CannotDelegate a = (is_denied a.deny DelegateTo ≡ true) ⊎ HasNoDelegation a.code

-- ---- a test

-- whether the instruction at the front of bytes is such an instruction
unfoldable pub begins_delegation : List ℕ → Bool
begins_delegation bytes = is_decoded_delegation (front bytes)

-- whether one begins at some place of the code
abbrev pub has_delegation : List ℕ → Bool
has_delegation [] = false
has_delegation (b ∷ bs) = begins_delegation (b ∷ bs) || has_delegation bs

-- whether an application can delegate
abbrev pub can_delegate : App → Bool
can_delegate a = not (is_denied a.deny DelegateTo) && has_delegation a.code

-- ---- maps

-- a name of an application that can delegate
pub record CanCall (map : List (List ℕ × App)) (n : List ℕ) : Type 0 where
  pub app : App
  pub found : lookup map n ≡ Some app
  pub can : can_delegate app ≡ true

-- of these applications none outside the family can delegate; with the empty family, none at all
abbrev pub NoneOutsideCan : List (List ℕ) → List (List ℕ × App) → Type 0
NoneOutsideCan K = AllByRecursion (λ e. has_name e.0 K ≡ false → can_delegate e.1 ≡ false)
