-- The commands of the card manager by name. A new command is a case of `Order`, `order_of`, `HasIns` and `managed`.
use Rattle.std.specs.Prelude.{◌≡◌, ℕ, cond, ◌==◌, List, Option, ⊤}
use Rattle.model_card.specs.declared.card.Part.{Part}
use Rattle.model_card.specs.declared.card.Part.TheVariants as part
use Rattle.model_card.specs.declared.card.Sizes.{Sizes}
use Rattle.model_card.specs.model_machine.specs.Apdu.{ApduParts}
use Rattle.model_card.specs.model_device.specs.Card.{App}
use Rattle.model_card.specs.Manager.{SessionState, Managed, Declines, open_load, load_part, create, delete}

-- a command of class BE: OPEN, LOAD for a section, CREATE, DELETE, or none of them
pub data Order : Type 0 where
  Opens : Order
  Loads : (part : Part) → Order
  Creates : Order
  Deletes : Order
  Unknown : Order

-- the command by its INS
abbrev pub order_of : ℕ → Order
order_of ins =
    cond (ins == 0x12) Opens (
    cond (ins == 0x24) (Loads part.Code) (
    cond (ins == 0x26) (Loads part.Data) (
    cond (ins == 0x20) (Loads part.Dir) (
    cond (ins == 0x22) (Loads part.Fci) (cond (ins == 0x16) Creates (cond (ins == 0x18) Deletes Unknown))
    )
    )
    )
    )

-- the INS of a LOAD for a section
abbrev pub ins_of_part : Part → ℕ
ins_of_part part.Code = 0x24
ins_of_part part.Data = 0x26
ins_of_part part.Dir = 0x20
ins_of_part part.Fci = 0x22

-- whether this is the INS of a command; `Unknown` has any
abbrev pub HasIns : Order → ℕ → Type 0
HasIns Opens ins = ins ≡ 0x12
HasIns (Loads p) ins = ins ≡ ins_of_part p
HasIns Creates ins = ins ≡ 0x16
HasIns Deletes ins = ins ≡ 0x18
HasIns Unknown ins = ⊤

-- the answer to a command
abbrev pub managed : Order → (Sizes → Option ℕ) → List (List ℕ × App) → SessionState → ApduParts → Managed
managed Opens room map session_state a = open_load room map session_state a
managed (Loads p) room map session_state a = load_part p session_state a
managed Creates room map session_state a = create map session_state a
managed Deletes room map session_state a = delete map session_state a
managed Unknown room map session_state a = Declines 0x6D00
