-- The number of words that each atomic write of a command to an application touches.
use Rattle.std.specs.Prelude.{◌≡◌, ℕ, ◌≤◌, List, length, Ok}
use Rattle.std.specs.List.{AllByRecursion}
use Rattle.model_card.specs.model_machine.specs.declared.instruction.Ins.{Ins}
use Rattle.model_card.specs.model_device.specs.Bytes.{lookup}
use Rattle.model_card.specs.model_machine.specs.Apdu.{ApduParts}
use Rattle.model_card.specs.model_machine.specs.Code.{Shaped, instruction_at}
use Rattle.model_card.specs.model_device.specs.Card.{App}
use Rattle.model_card.specs.model_machine.specs.Chain.{code_in, run}
use Rattle.law_machine.specs.Limited.{AreLimited}

-- applications that keep to the most static bytes, and code of bytes: the operands of each instruction in it are in
-- their ranges
pub record AreCoded (map : List (List ℕ × App)) : Type 0 where
  pub limited : AreLimited map
  pub shaped : (name : List ℕ) (at : ℕ) (i : Ins) (next : ℕ) → instruction_at (code_in (lookup map name)) at ≡ Ok (i, next) → Shaped i

-- each atomic write of a command to an application with a name of at most 16 bytes touches at most 64 words
abbrev pub FewRunsLaw : Type 0
FewRunsLaw =
    (map : List (List ℕ × App)) (first session : List ℕ) (apdu : ApduParts) (budget : ℕ)
    → AreCoded map → length first ≤ 16 → AllByRecursion (λ w. w.words ≤ 64) (run map first session apdu budget).writes
