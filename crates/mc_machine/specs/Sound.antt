-- Chains whose frames match their applications as a run begins them: their pending pieces lie in their static segments.
use Rattle.std.specs.Prelude.{◌≡◌, ℕ, ◌≤◌, List, ◌∷◌, length, Some}
use Rattle.std.specs.List.{AllByRecursion}
use Rattle.law_machine.specs.model_device.specs.Card.{App}
use Rattle.law_machine.specs.model_machine.specs.Frame.{Frame}
use Rattle.law_machine.specs.model_machine.specs.Chain.{Chain}
use Rattle.mc_bank.specs.Bank.{app_of}
use Rattle.law_machine.specs.law_rows.specs.Keeping.{PiecesWithin}

-- A frame of one of the given applications: its static segment is as long as the application's, its pending pieces lie
-- in it, and it has the number of session bytes of the application.
pub record IsSoundFrame (apps : List (List ℕ × App)) (f : Frame) : Type 0 where
  pub fixed : length f.fixed ≡ length (app_of apps (Some f.name)).fixed
  pub pieces : PiecesWithin (length f.fixed) f.pieces
  pub session : f.session ≡ (app_of apps (Some f.name)).session
  pub held : f.session ≤ length f.dyn

-- each frame of a chain is sound on the applications of the chain
abbrev pub IsSoundChain : Chain → Type 0
IsSoundChain ch = AllByRecursion (IsSoundFrame ch.map) (ch.frame ∷ ch.below)
