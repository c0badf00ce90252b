-- The checker's table of facts, one a place, against the facts of the stack shape.
use Rattle.std.specs.Prelude.{◌≡◌, ℕ, List, length, slice_get, slice_index, Option, Some}
use Rattle.law_family.specs.model_machine.specs.declared.instruction.Ins.{Ins}
use Rattle.model_stack.specs.StackShape.{Routine, Main, At, Fact, fact, Stands, look, Reached, Refuses, Differs, TakesMore, NoRecursion, IsBase}
use Rattle.mc_check.specs.declared.table.Entry.{Entry}
use Rattle.mc_check.specs.declared.table.Fault.{Fault}
use Rattle.mc_check.specs.declared.table.Fault.TheVariants.{NoMemory, Refused}
use Rattle.mc_check.specs.declared.table.Refusal.{Refusal}
use Rattle.mc_check.specs.declared.table.Routine.{Routine as Owner}
use Rattle.mc_check.specs.declared.table.Routine.TheVariants as owner

-- the routine that an entry names
abbrev pub routine_of : Owner → Routine
routine_of owner.Main = Main
routine_of (owner.At p) = At p

-- the fact of an entry at a place
abbrev pub fact_of : ℕ → Entry → Fact
fact_of p e = fact (routine_of e.routine) p e.height

-- the fact is in the table
abbrev pub IsIn : List (Option Entry) → Fact → Type 0
IsIn t f = (e : Entry) × (slice_get t f.place ≡ Some (Some e)) × (fact_of f.place e ≡ f)

-- a fact breaks no rule by itself
abbrev pub IsGoodFact : List ℕ → Fact → Type 0
IsGoodFact code f = (i : Ins) × (next : ℕ) × (look code f ≡ Stands i next)

-- each fact of the table is reached, and good by itself
abbrev pub IsSoundTable : List ℕ → List (Option Entry) → Type 0
IsSoundTable code t = (f : Fact) → IsIn t f → Reached code f × IsGoodFact code f

-- The table of all facts: none breaks a rule by itself, no two have the same place, no two returns of a routine differ,
-- and each CALL finds the bytes that its routine takes.
pub record IsWholeTable (code : List ℕ) (t : List (Option Entry)) : Type 0 where
  pub size : length t ≡ length code
  pub sound : IsSoundTable code t
  pub all : (f : Fact) → Reached code f → IsIn t f
  pub returns : (f : Fact) → Reached code f → Differs code f → ⊥
  pub takes : (f : Fact) → Reached code f → TakesMore code f → ⊥

-- a refusal of code with the given number of session bytes: the rule of its cause is broken at its place
abbrev pub IsRefusalOf : List ℕ → ℕ → Refusal → Type 0
IsRefusalOf code session r = Refuses code session r.place r.cause

-- a fault that is due: out of memory, or a refusal whatever the session bytes are
abbrev pub IsFaultDue : List ℕ → Fault → Type 0
IsFaultDue code NoMemory = Unit {0}
IsFaultDue code (Refused r) = (session : ℕ) → IsRefusalOf code session r

-- the base of a routine in a list of bases by place
abbrev pub base_in : List ℕ → Routine → ℕ
base_in bases Main = 0
base_in bases (At q) = slice_index bases q

-- no routine reaches itself, and the list has the bases of the routines that are reached
pub record AreBases (code : List ℕ) (bases : List ℕ) : Type 0 where
  pub size : length bases ≡ length code
  pub sound : NoRecursion code
  pub each : (f : Fact) → Reached code f → IsBase code f.routine (base_in bases f.routine)
