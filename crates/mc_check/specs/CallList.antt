-- The calls between the routines of code as a list, and the bases by that list.
use Rattle.std.specs.Prelude.{◌≡◌, ◌<◌, ◌≤◌, ◌+◌, ℕ, List, length, slice_get, slice_index, Option, Some, None, Result, Ok, Err}
use Rattle.law_family.specs.model_machine.specs.declared.instruction.Ins.{Ins}
use Rattle.law_family.specs.model_machine.specs.declared.instruction.DecodeFault.{DecodeFault}
use Rattle.law_family.specs.model_text.specs.declared.checker.CheckCause.TheVariants.{Recursive}
use Rattle.model_stack.specs.StackRows.{call_target}
use Rattle.model_stack.specs.StackShape.{Routine, Main, At, fact, Reached, IsAt, Calls}
use Rattle.mc_check.specs.Table.{routine_of, IsGoodFact}
use Rattle.mc_check.specs.declared.calls.Call.{Call}
use Rattle.mc_check.specs.declared.table.Entry.{Entry}
use Rattle.mc_check.specs.declared.table.Fault.{Fault}
use Rattle.mc_check.specs.declared.table.Fault.TheVariants.{NoMemory, Refused}
use Rattle.mc_check.specs.declared.table.Routine.TheVariants as owner

-- ---- the list

-- the target of the call that was decoded, if it is one
abbrev pub target_of : Result (Ins × ℕ) DecodeFault → Option ℕ
target_of (Ok p) = call_target p.0
target_of (Err e) = None

-- the call of an entry at a place
abbrev pub call_of : ℕ → Entry → ℕ → Call
call_of p e q = record { place = p; caller = e.routine; height = e.height; target = q }

-- the list has a call by this routine, at this height, of the routine at q
pub record ListsCall (calls : List Call) (r : Routine) (h q : ℕ) : Type 0 where
  pub at : ℕ
  pub call : Call
  pub there : slice_get calls at ≡ Some call
  pub caller : routine_of call.caller ≡ r
  pub height : call.height ≡ h
  pub target : call.target ≡ q

-- some call of the list is one of the routine at q
abbrev pub IsCalled : List Call → ℕ → Type 0
IsCalled calls q = (r : Routine) × (h : ℕ) × ListsCall calls r h q

-- a call that the code has
pub record IsCall (code : List ℕ) (c : Call) : Type 0 where
  pub reached : Reached code (fact (routine_of c.caller) c.place c.height)
  pub good : IsGoodFact code (fact (routine_of c.caller) c.place c.height)
  pub ins : Ins
  pub stands : IsAt code c.place ins
  pub target : call_target ins ≡ Some c.target

-- each target is a place of code of `len` bytes, each height is below 65,536, and each caller but main is called itself
pub record AreClosed (len : ℕ) (calls : List Call) : Type 0 where
  pub inside : (k : ℕ) (c : Call) → slice_get calls k ≡ Some c → c.target < len
  pub heights : (k : ℕ) (c : Call) → slice_get calls k ≡ Some c → c.height ≤ 65535
  pub callers : (k : ℕ) (c : Call) (p : ℕ) → slice_get calls k ≡ Some c → c.caller ≡ owner.At p → IsCalled calls p

-- the list has the calls of the code, and no others
pub record AreCalls (code : List ℕ) (calls : List Call) : Type 0 where
  pub closed : AreClosed (length code) calls
  pub each : (k : ℕ) (c : Call) → slice_get calls k ≡ Some c → IsCall code c
  pub all : (r : Routine) (h q : ℕ) → Calls code r h q → ListsCall calls r h q

-- ---- bases by the list

-- LB of a routine may lie this far above the floor, by the listed calls from main to it
pub data DepthIn (calls : List Call) : Routine → ℕ → Type 0 where
  main : DepthIn calls Main 0
  called : {r : Routine} {b h q : ℕ} → DepthIn calls r b → ListsCall calls r h q → DepthIn calls (At q) (b + h + 4)

-- a routine reaches another one by listed calls, or is it
pub data EntersIn (calls : List Call) : Routine → Routine → Type 0 where
  same : {r : Routine} → EntersIn calls r r
  further : {r s : Routine} {h q : ℕ} → ListsCall calls r h q → EntersIn calls (At q) s → EntersIn calls r s

-- the greatest depth of the routine at q
pub record IsBaseIn (calls : List Call) (q b : ℕ) : Type 0 where
  pub reached : DepthIn calls (At q) b
  pub greatest : (d : ℕ) → DepthIn calls (At q) d → d ≤ b

-- the list has the bases of the routines that are called, by their places in code of `len` bytes
pub record AreBasesIn (len : ℕ) (calls : List Call) (bases : List ℕ) : Type 0 where
  pub size : length bases ≡ len
  pub each : (q : ℕ) → IsCalled calls q → IsBaseIn calls q (slice_index bases q)

-- a listed call by which its routine reaches itself
pub record ClosesRing (calls : List Call) (c : Call) : Type 0 where
  pub at : ℕ
  pub there : slice_get calls at ≡ Some c
  pub enters : EntersIn calls (At c.target) (routine_of c.caller)

-- ---- faults

-- a fault is out of memory, or has the place of a call by which its routine reaches itself
abbrev pub IsRing : List Call → Fault → Type 0
IsRing calls NoMemory = Unit {0}
IsRing calls (Refused r) = (c : Call) × ClosesRing calls c × (r.place ≡ c.place) × (r.cause ≡ Recursive)
