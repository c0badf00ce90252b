-- What a watcher may look at of a card between two turns, and the full turn that it sees.
use Rattle.std.specs.Prelude.{◌≡◌, ℕ, zero, suc, false, List, [], IfSome}
use Rattle.mc_words.specs.model_device.specs.Device.{DeviceState}
use Rattle.mc_arith.specs.model_machine.specs.Frame.{Frame}
use Rattle.mc_arith.specs.model_machine.specs.Chain.{Chain, turn_of_chain, turn_without_budget}
use Rattle.mc_bank.specs.Bank.{app_of, name_or}
use Rattle.desk_draft.specs.FullTurns.{FullTurn, surrounded, full_turn}
use Rattle.mc_segs.specs.HeldFrames.{Held, FitsBank, frame_with}
use Rattle.mc_card.specs.declared.card.Card.{Card}
use Rattle.mc_card.specs.Parts.{view_in}

module _ {N : Type 0} (state : N → DeviceState) where
  -- a frame fits the bank of a card, which takes changes
  pub record FrameRuns (c : Card N) (h : Held) : Type 0 where
    pub going : (view_in state c).state.stopped ≡ false
    pub fits : FitsBank (view_in state c).state (view_in state c).named h

  -- the name of the application of a frame on a card, and its code
  abbrev pub name_in : Card N → Held → List ℕ
  name_in c h = name_or ((view_in state c).named h.slot)

  -- the code of that application
  abbrev pub code_on : Card N → Held → List ℕ
  code_on c h = (app_of (view_in state c).state.apps ((view_in state c).named h.slot)).code

  -- the machine's frame on a card
  abbrev pub frame_in : Card N → Held → Frame
  frame_in c h = frame_with (view_in state c).state (view_in state c).named h

  -- a card before or after a turn: the running frame fits its bank, if a command runs
  abbrev pub IsWatched : Card N → Type 0
  IsWatched c = IfSome c.chain (λ h. FrameRuns c h.running)

-- the full turn of a chain with this much of the budget left
abbrev pub full_turn_of : ℕ → Chain → FullTurn
full_turn_of zero ch = surrounded ch (turn_without_budget ch).turn (ch.frame, [])
full_turn_of (suc n) ch = full_turn ch (turn_of_chain ch).turn
