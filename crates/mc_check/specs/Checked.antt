-- The property of accepted code in every run.
use Rattle.std.specs.Prelude.{◌≡◌, ◌≤◌, ◌+◌, ℕ, zero, suc, Bool, true, false, List, length, Option, Some, None}
use Rattle.law_family.specs.model_machine.specs.declared.machine.Abend.{Abend}
use Rattle.law_family.specs.model_machine.specs.declared.machine.Abend.TheVariants.{A01, A02, A04, A05}
use Rattle.law_family.specs.model_device.specs.Bytes.{lookup}
use Rattle.law_family.specs.model_machine.specs.Apdu.{ApduParts}
use Rattle.law_family.specs.model_device.specs.Card.{App}
use Rattle.law_family.specs.model_machine.specs.Frame.{dynamic_base}
use Rattle.law_family.specs.model_machine.specs.Chain.{Chain, Turn, Outcome, Reply, Abended, Follows, Continues, Ends, turn_of, start}
use Rattle.law_family.specs.law_machine.specs.Limited.{session_in, AreLimited}

-- whether an abend is one with which accepted code ends no turn: 01, 02, 04 or 05
abbrev pub is_excluded : Abend → Bool
is_excluded A01 = true
is_excluded A02 = true
is_excluded A04 = true
is_excluded A05 = true
is_excluded _ = false

-- whether a turn ends the chain with an excluded abend
abbrev pub ends_excluded : Option Outcome → Bool
ends_excluded None = false
ends_excluded (Some (Reply body sw)) = false
ends_excluded (Some (Abended cause)) = is_excluded cause

-- the running frame is one of an application with the given code and number of session bytes
pub record RunsCode (bytes : List ℕ) (size : ℕ) (ch : Chain) : Type 0 where
  pub app : App
  pub there : lookup ch.map ch.frame.name ≡ Some app
  pub code : app.code ≡ bytes
  pub session : app.session ≡ size

-- a turn that ends with no excluded abend, and at which DT is at most `most` bytes above its floor
pub record IsCalm (session most : ℕ) (turn : Turn) : Type 0 where
  pub end : ends_excluded turn.end ≡ false
  pub dt : turn.dt ≤ dynamic_base + session + most

-- a property of the chain that goes on, if one does
abbrev pub OnFollows : Follows → (Chain → Type 0) → Type 0
OnFollows (Continues ch) holds = holds ch
OnFollows (Ends o) holds = Unit {0}

-- each turn of a run with the given budget in a frame of an application with the given code is calm
unfoldable pub RunsCalmly : List ℕ → ℕ → ℕ → ℕ → Chain → Type 0
RunsCalmly code session most zero ch = RunsCode code session ch → IsCalm session most (turn_of zero ch).turn
RunsCalmly code session most (suc n) ch =
    (RunsCode code session ch → IsCalm session most (turn_of (suc n) ch).turn) × OnFollows (turn_of (suc n) ch).follows (λ c. RunsCalmly code session most n c)

-- On every card, for every command with every session bytes, each turn in a frame of an application with this code is
-- calm.
abbrev pub IsChecked : List ℕ → ℕ → ℕ → Type 0
IsChecked code session most =
    (map : List (List ℕ × App)) (first body : List ℕ) (apdu : ApduParts) (budget : ℕ)
    → AreLimited map → length body ≡ session_in (lookup map first)
    → RunsCalmly code session most budget (start map first body apdu)
