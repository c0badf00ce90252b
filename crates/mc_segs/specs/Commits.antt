-- A frame on a bank after a commit.
use Rattle.std.specs.Prelude.{◌≡◌, ℕ, List, Option}
use Rattle.mc_bank.specs.Bank.{BankState, name_or}
use Rattle.mc_segs.specs.HeldFrames.{Held, FitsBank, app_under}

-- after a commit the frame's application has the static bytes l and its old name, and the frame fits the bank
pub record IsCommitted (s s' : BankState) (named named' : ℕ → Option (List ℕ)) (h : Held) (l : List ℕ) : Type 0 where
  pub fixed : (app_under s' named' h).fixed ≡ l
  pub name : name_or (named' h.slot) ≡ name_or (named h.slot)
  pub fits : FitsBank s' named' h
