-- The law of rows for sums: at a place of tables, of whose frame what is known for sums is so, what a closed table of sums
-- compares with the places that follow is so of what the row leaves, before its event is counted.
use Rattle.std.specs.Prelude.{◌≡◌, ℕ, ◌+◌, ◌≤◌, true, List, length, Ok, ⊤}
use Rattle.std.specs.List.{AllByRecursion}
use Rattle.law_sums.specs.model_machine.specs.declared.instruction.Ins.{Ins}
use Rattle.law_sums.specs.model_machine.specs.Code.{instruction_at}
use Rattle.law_sums.specs.model_machine.specs.Frame.{Frame, Effect}
use Rattle.law_sums.specs.model_machine.specs.Primitives.{Around, Then, Goes, Exits, Delegates, Done}
use Rattle.law_sums.specs.model_machine.specs.Row.{row}
use Rattle.law_sums.specs.model_machine.specs.Chain.{frame_at}
use Rattle.law_sums.specs.model_machine.specs.Shapes.{Shape}
use Rattle.law_sums.specs.law_rows.specs.Keeping.{OnDone}
use Rattle.law_sums.specs.law_promise.specs.Outline.{Entry, FitsEntry}
use Rattle.law_sums.specs.law_promise.specs.Domain.{IsDelegator}
use Rattle.law_sums.specs.model_rules.specs.Rules.{Total}
use Rattle.law_sums.specs.model_rules.specs.Happenings.{Event, History}
use Rattle.law_sums.specs.model_rules.specs.Keeping.{Standing, mode_of}
use Rattle.law_sums.specs.model_prove.specs.Keys.{Tables}
use Rattle.law_sums.specs.model_prove.specs.Splits.{Scene}
use Rattle.law_sums.specs.model_prove.specs.Arrivals.{Setting, static_size}
use Rattle.law_sums.specs.model_prove.specs.Steps.{Spot, place_arrivals}
use Rattle.law_sums.specs.model_rules.specs.Loadable.{IsLoadable}
use Rattle.law_prove_closed.specs.law_prove.specs.Coverings.{frame_memory, IsPlace, key_of}
use Rattle.law_sums.specs.model_sums.specs.Sums.{Sums, SumsTable}
use Rattle.law_sums.specs.model_sums.specs.Says.{Holds, SumsHold}
use Rattle.law_sums.specs.model_sums.specs.Closed.{row_closed, fetched_closed}
use Rattle.law_sums.specs.TurnLaws.{row_sums}

-- ---- what comes next

-- DT after an exit is that of its shape, and the flags are those before it
pub record LeavesAs (h : Shape) (f : Frame) (e : Effect) : Type 0 where
  pub dt : e.frame.dt ≡ h.dt
  pub c : e.frame.c ≡ f.c
  pub z : e.frame.z ≡ f.z

-- what comes next is a delegation, whatever the name is
abbrev pub IsDelegation : Then → Type 0
IsDelegation Goes = ⊥
IsDelegation Exits = ⊥
IsDelegation (Delegates n) = ⊤

-- what comes after a row, as its shape has it
abbrev pub ComesNext : Then → Shape → Frame → Effect → Type 0
ComesNext Goes h f e = h.next ≡ Goes
ComesNext Exits h f e = (h.next ≡ Exits) × LeavesAs h f e
ComesNext (Delegates n) h f e = IsDelegation h.next

-- ---- a row that is done

-- A row that is done at a place of this key, with what is known there: in some scene, and of some shape, what closed
-- tables of sums compare with the places to which the outcomes lead is so of the bytes that the row leaves and of the
-- sums before its event; of those that power would leave where what waits is dropped.
pub record SumsMove (s : Setting) (u : SumsTable) (p : Spot) (i : Ins) (before : Sums) (x : Standing) (f : Frame) (first : List ℕ) (d : Done) : Type 0 where
  pub scene : Scene
  pub shape : Shape
  pub after : Sums
  pub holds : Holds s.rules.totals after first (frame_memory d.effect.frame d.effect.public) (row_sums f.protected (mode_of i) x)
  pub next : ComesNext d.next shape f d.effect
  pub closed : row_closed s u (record { ins = i; scene = scene; spot = p; sums = before }) shape after (place_arrivals s p.key p.known) ≡ true

-- the place of a frame with what tables know there
abbrev pub spot_at : (s : Setting) (t : Tables) (e : Entry Event) (h : History) (f : Frame) (public : List ℕ) → IsPlace s t e h f public → Spot
spot_at s t e h f public p = record { key = key_of s t e h f public p; known = p.known }

-- the blocks of totals are static bytes
abbrev pub AreStatic : Setting → List Total → Type 0
AreStatic s ts = AllByRecursion (λ t. t.at + t.n ≤ static_size s) ts

-- Of an instruction at a place of any tables of facts, whose outcomes a table of sums has: if what is known for sums
-- before it holds, then so does what is known after it, unless it abends.
abbrev pub SumRowLaw : Ins → Type 0
SumRowLaw i =
    (s : Setting) (t : Tables) (u : SumsTable) → IsLoadable s.app → AreStatic s s.rules.totals
    → (e : Entry Event) (h : History) (f : Frame) (public : List ℕ) (x : Around) (next : ℕ) (p : IsPlace s t e h f public) → FitsEntry e x → IsDelegator x.delegator → 1041 ≤ length public
    → instruction_at s.app.code f.at ≡ Ok (i, next)
    → (before : Sums) (k : SumsHold s.rules.totals before f.protected (frame_memory f public) f.fixed p.standing)
    → fetched_closed s u (spot_at s t e h f public p) before (Ok (i, next)) ≡ true
    → OnDone (row i (frame_at f next) public x) (SumsMove s u (spot_at s t e h f public p) i before p.standing f k.first)

-- of each instruction
abbrev pub AllSumRowsLaw : Type 0
AllSumRowsLaw = (i : Ins) → SumRowLaw i
