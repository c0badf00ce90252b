-- The search for all facts: the invariant of its tables while it runs, and the facts that are still to be followed.
use Rattle.std.specs.Prelude.{◌≡◌, ◌⊎◌, ◌<◌, ◌≤◌, ◌+◌, ◌-◌, ◌*◌, ℕ, true, List, [], ◌∷◌, length, slice_get, Option, Some, None}
use Rattle.law_family.specs.model_machine.specs.declared.instruction.Ins.{Ins}
use Rattle.law_family.specs.model_machine.specs.Code.{Shaped}
use Rattle.model_stack.specs.StackRows.{height_after, counts, goes_on, jump_target, call_target, is_conditional}
use Rattle.model_stack.specs.StackShape.{Routine, Main, At, Fact, fact, Stands, look, ReturnsWith}
use Rattle.mc_check.specs.declared.table.Entry.{Entry}
use Rattle.mc_check.specs.declared.shape.Counts.{Counts as Pair}
use Rattle.mc_check.specs.declared.closing.Closing.{Closing}
use Rattle.mc_check.specs.declared.closing.Found.{Found}
use Rattle.mc_check.specs.Table.{fact_of, IsIn, IsSoundTable}

-- ---- what was found

-- the fact that was found
abbrev pub found_fact : Found → Fact
found_fact found = fact_of found.place found.entry

-- the instruction of a found fact is the one at its place, and breaks no rule by itself
pub record IsFound (code : List ℕ) (found : Found) : Type 0 where
  pub stands : look code (found_fact found) ≡ Stands found.seen.ins found.seen.next
  pub shaped : Shaped found.seen.ins

-- ---- the tables

-- the tables of the search: the facts by their places, the counts of routines by theirs, and the places whose facts are
-- not followed yet
pub record Tables : Type 0 where
  pub table : List (Option Entry)
  pub counts : List (Option Pair)
  pub work : List ℕ

-- the tables that the code's search has
abbrev pub tables_of : Closing → Tables
tables_of c = record { table = c.table.items; counts = c.counts.items; work = c.work.items }

-- a place is in a list of places
abbrev pub IsAmong : List ℕ → ℕ → Type 0
IsAmong [] place = ⊥
IsAmong (p ∷ ps) place = (p ≡ place) ⊎ IsAmong ps place

-- the number of places without a fact
abbrev pub free : List (Option Entry) → ℕ
free [] = 0
free (None ∷ t) = free t + 1
free (Some e ∷ t) = free t

-- the most work that is left: each free place may get a fact, and then that fact is followed
abbrev pub remaining_work : Tables → ℕ
remaining_work s = 2 * free s.table + length s.work

-- a routine has a return with the given counts
pub record IsReal (code : List ℕ) (routine : ℕ) (c : Pair) : Type 0 where
  pub counts : ReturnsWith code (At routine) c.less c.more
  pub less : c.less ≤ 255

-- each fact is reached and good, each routine's counts are those of one of its returns, and all places are in the code
pub record IsFit (code : List ℕ) (s : Tables) : Type 0 where
  pub size : length s.table ≡ length code
  pub counts_size : length s.counts ≡ length code
  pub sound : IsSoundTable code s.table
  pub real : (routine : ℕ) (c : Pair) → slice_get s.counts routine ≡ Some (Some c) → IsReal code routine c
  pub places : (place : ℕ) → IsAmong s.work place → place < length code

-- ---- what follows from a fact

-- the successors of a fact that do not depend on counts are in the table
pub record HasSuccessors (t : List (Option Entry)) (f : Fact) (i : Ins) (next : ℕ) : Type 0 where
  pub goes : call_target i ≡ None → goes_on i ≡ true → IsIn t (fact f.routine next (height_after i f.height))
  pub jumps : (to : ℕ) → jump_target i next ≡ Some (Some to) → IsIn t (fact f.routine to f.height)
  pub calls : (q : ℕ) → call_target i ≡ Some q → IsIn t (fact (At q) q 0)
  pub passes : (q : ℕ) → call_target i ≡ Some q → is_conditional i ≡ true → IsIn t (fact f.routine next f.height)

-- the successor of a CALL whose routine has the counts: the bytes that are taken are there, and the fact after the CALL
-- is in the table
pub record ComesBack (t : List (Option Entry)) (f : Fact) (next less more : ℕ) : Type 0 where
  pub enough : less ≤ f.height
  pub back : f.height ≤ 512 → IsIn t (fact f.routine next (f.height - less + more))

-- the successor of a fact, if it is a CALL of the routine, is in the table
abbrev pub ComesBackFrom : List ℕ → List (Option Entry) → ℕ → Pair → Fact → Type 0
ComesBackFrom code t routine c f = (i : Ins) (next : ℕ) → look code f ≡ Stands i next → call_target i ≡ Some routine → ComesBack t f next c.less c.more

-- the counts of a routine are in the list
abbrev pub HasCounts : List (Option Pair) → Routine → ℕ → ℕ → Type 0
HasCounts cs Main less more = ⊥
HasCounts cs (At routine) less more = slice_get cs routine ≡ Some (Some (record { less = less; more = more }))

-- all that follows from a fact is in the tables
pub record IsFollowed (t : List (Option Entry)) (cs : List (Option Pair)) (f : Fact) (i : Ins) (next : ℕ) : Type 0 where
  pub leads : f.height ≤ 512 → HasSuccessors t f i next
  pub back : (routine : ℕ) (c : Pair) → call_target i ≡ Some routine → slice_get cs routine ≡ Some (Some c) → ComesBack t f next c.less c.more
  pub counted : (less more : ℕ) → counts i ≡ Some (less, more) → HasCounts cs f.routine less more

-- all that follows from a fact with its instruction is in the tables
abbrev pub IsClosed : List ℕ → List (Option Entry) → List (Option Pair) → Fact → Type 0
IsClosed code t cs f = (i : Ins) (next : ℕ) → look code f ≡ Stands i next → IsFollowed t cs f i next

-- ---- the search

-- the first fact is there, and each fact is closed or waits
pub record ClosedOrWaiting (code : List ℕ) (waiting : List ℕ) (s : Tables) : Type 0 where
  pub fit : IsFit code s
  pub first : IsIn s.table (fact Main 0 0)
  pub closed : (f : Fact) → IsIn s.table f → IsClosed code s.table s.counts f ⊎ IsAmong waiting f.place

-- facts were added to the tables, and wait to be followed
pub record AddsFacts (old new : Tables) : Type 0 where
  pub kept : (f : Fact) → IsIn old.table f → IsIn new.table f
  pub counts : new.counts ≡ old.counts
  pub waiting : (place : ℕ) → IsAmong old.work place → IsAmong new.work place
  pub fresh : (f : Fact) → IsIn new.table f → IsIn old.table f ⊎ IsAmong new.work f.place
  pub left : remaining_work new ≤ remaining_work old
