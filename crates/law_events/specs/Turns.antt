-- What the turn of a chain shows of its event, and the protection of frames, turn by turn.
use Rattle.std.specs.Prelude.{◌≡◌, ℕ, ◌+◌, Bool, false, List, length, get_or, slice_set, Option, Some, None}
use Rattle.law_promise.specs.model_events.specs.Amounts.{turn_text}
use Rattle.law_promise.specs.model_events.specs.Deeds.{Deed}
use Rattle.law_promise.specs.model_events.specs.model_machine.specs.declared.instruction.Ins.{Ins}
use Rattle.law_promise.specs.model_events.specs.model_machine.specs.declared.machine.Abend.TheVariants.{A07}
use Rattle.law_promise.specs.model_events.specs.model_machine.specs.Chain.{Abended, Chain, Outcome, Turn, turn_of}
use Rattle.law_steps.specs.Registers.{protection_after_mode}
use Rattle.model_rules.specs.Happenings.{Event, Did, Failed}
use Rattle.model_rules.specs.Keeping.{line_of_deed, mode_of}

-- an instruction that was done is that of a turn of a chain
pub record IsDeed (ch : Chain) (t : Turn) (d : Deed) : Type 0 where
  pub frame : d.frame ≡ ch.frame
  pub public : d.public ≡ ch.public
  pub ins : t.ins ≡ Some d.ins
  pub text : turn_text t ≡ line_of_deed d

-- What a turn of the application shows, by its end: an instruction that was done, or one that abended. A turn without an
-- instruction that ends with 07 is no event: the budget is spent.
abbrev pub Shows : Chain → Turn → Option Outcome → Option Event → Type 0
Shows ch t (Some (Abended c)) None = (t.ins ≡ None) × (c ≡ A07)
Shows ch t (Some (Abended c)) (Some (Failed at cause)) = (cause ≡ c) × (t.ins ≡ None → c ≡ A07 → ⊥)
Shows ch t (Some (Abended c)) (Some e) = ⊥
Shows ch t end (Some (Did d)) = IsDeed ch t d
Shows ch t end e = ⊥

-- the mode that an instruction gives the protection, if there is one
abbrev pub mode_in : Option Ins → Option ℕ
mode_in None = None
mode_in (Some i) = mode_of i

-- Protection by depth after a turn, from that before it, the depth of the frame that ran it and its instruction: a frame
-- that is one deeper was called, and its protection is off.
abbrev pub opens_by : ℕ → Option Ins → List Bool → List Bool
opens_by k i os = slice_set (slice_set os k (protection_after_mode (mode_in i) (get_or os k false))) (k + 1) false

-- the same of the turn of a chain
abbrev pub opens_seen : ℕ → Chain → List Bool → List Bool
opens_seen n ch os = opens_by (length ch.below) (turn_of n ch).turn.ins os
