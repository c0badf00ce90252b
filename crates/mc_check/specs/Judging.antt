-- The results of the last pass over the table.
use Rattle.std.specs.Prelude.{ℕ, ◌≡◌, ◌+◌, ◌<◌, Bool, true, false, cond, nat_lt, List, slice_get, Option, Some, Result, Ok, Err}
use Rattle.law_family.specs.model_text.specs.declared.checker.CheckCause.TheVariants.{Deep, Wild}
use Rattle.law_family.specs.model_machine.specs.declared.instruction.DecodeFault.{DecodeFault}
use Rattle.law_family.specs.model_machine.specs.declared.instruction.Ins.{Ins}
use Rattle.law_family.specs.model_machine.specs.Code.{instruction_at}
use Rattle.model_stack.specs.StackRows.{is_call, is_plain, writing}
use Rattle.model_stack.specs.StackShape.{Routine, Main, At}
use Rattle.mc_check.specs.declared.table.Entry.{Entry}
use Rattle.mc_check.specs.declared.table.Refusal.{Refusal}

-- whether the instruction at a place is a call
abbrev pub calls_at : Result (Ins × ℕ) DecodeFault → Bool
calls_at (Ok p) = is_call p.0
calls_at (Err fault) = false

-- whether the instruction at a place writes at no address that is not plain
abbrev pub plain_at : ℕ → ℕ → Result (Ins × ℕ) DecodeFault → Bool
plain_at session height (Ok p) = is_plain session height (writing p.0)
plain_at session height (Err fault) = true

-- the height of the stack above its floor at a place, or the rule that is broken there
abbrev pub depth_of : ℕ → ℕ → ℕ → ℕ → Bool → Result ℕ Refusal
depth_of session place base height wild =
    cond (nat_lt 512 (session + base + height)) (Err (record { place = place; cause = Deep }))
    (cond wild (Err (record { place = place; cause = Wild })) (Ok (base + height)))

-- a routine that begins at one of the first n places
abbrev pub BeginsWithin : ℕ → Routine → Type 0
BeginsWithin n Main = Unit {0}
BeginsWithin n (At q) = q < n

-- the table has a fact at the place
abbrev pub HasFactAt : List (Option Entry) → ℕ → Type 0
HasFactAt t p = (e : Entry) × (slice_get t p ≡ Some (Some e))

-- the table has a call at some place
abbrev pub HasCall : List ℕ → List (Option Entry) → Type 0
HasCall code t = (p : ℕ) × HasFactAt t p × (calls_at (instruction_at code p) ≡ true)

-- the table has no call at its first n places
abbrev pub HasNoCall : List ℕ → List (Option Entry) → ℕ → Type 0
HasNoCall code t n = (p : ℕ) → p < n → HasFactAt t p → calls_at (instruction_at code p) ≡ false
