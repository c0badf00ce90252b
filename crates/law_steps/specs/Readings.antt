-- What a frame reads before and after a turn, and the runs of addresses whose bytes differ.
use Rattle.std.specs.Prelude.{ℕ, zero, suc, ◌-◌, cond, ◌==◌, List, [], ◌++◌, length, take, Result, Ok, Err}
use Rattle.law_family.specs.model_device.specs.Bytes.{lookup}
use Rattle.law_family.specs.model_machine.specs.declared.instruction.Ins.{Ins}
use Rattle.law_family.specs.model_machine.specs.declared.instruction.DecodeFault.{DecodeFault}
use Rattle.law_family.specs.model_machine.specs.Code.{instruction_at}
use Rattle.law_family.specs.model_machine.specs.Frame.{Frame, Effect, dynamic_base, public_base, static_bytes}
use Rattle.law_family.specs.model_machine.specs.Primitives.{Then, Goes, Exits, Delegates}
use Rattle.law_family.specs.model_machine.specs.Row.{RowEnd, Abends, Does, row}
use Rattle.law_family.specs.model_machine.specs.Chain.{Chain, Follows, Continues, Ends, Reply, Abended, around, chain_after_effect, code_in, follows, frame_at}
use Rattle.law_steps.specs.Runs.{changes}

-- ---- readings

-- the bytes that an application reads: its static bytes with those that wait for a commit over them, its dynamic bytes
-- below DT, and the public bytes
pub record Reading : Type 0 where
  pub fixed : List ℕ
  pub dynamic : List ℕ
  pub public : List ℕ

-- the dynamic bytes below DT
abbrev pub dynamic_bytes : Frame → List ℕ
dynamic_bytes f = take (f.dt - dynamic_base) f.dyn

-- what a frame reads
abbrev pub reading_of : Frame → List ℕ → Reading
reading_of f public = record { fixed = take (length f.fixed) (static_bytes f); dynamic = dynamic_bytes f; public = public }

-- what a frame reads that has ended: what waited for a commit is dropped
abbrev pub last_reading : Frame → List ℕ → Reading
last_reading f public = record { fixed = f.fixed; dynamic = dynamic_bytes f; public = public }

-- the reading of no frame: each byte that it has not counts as zero
abbrev pub no_reading : Reading
no_reading = record { fixed = []; dynamic = []; public = [] }

-- ---- after a turn

-- what the frame that exits reads last
abbrev pub exit_reading : Chain → Effect → Follows → Reading
exit_reading ch e (Continues next) = last_reading e.frame e.public
exit_reading ch e (Ends (Reply body sw)) = last_reading e.frame e.public
exit_reading ch e (Ends (Abended cause)) = last_reading ch.frame ch.public

-- the public bytes after a turn
abbrev pub public_after : Effect → Follows → List ℕ
public_after e (Continues next) = next.public
public_after e (Ends o) = e.public

-- what the frame that ran a turn reads after it, by what the frame does then and what the chain does
abbrev pub done_reading : Chain → Effect → Then → Follows → Reading
done_reading ch e Goes next = reading_of e.frame e.public
done_reading ch e (Delegates name) next = reading_of e.frame (public_after e next)
done_reading ch e Exits next = exit_reading ch e next

-- what it reads after an instruction, by the end of its row
abbrev pub row_reading : Chain → RowEnd → Reading
row_reading ch (Abends cause) = last_reading ch.frame ch.public
row_reading ch (Does d) = done_reading ch d.effect d.next (follows (chain_after_effect ch d.effect) d.next)

-- what it reads after a fetch
abbrev pub fetch_reading : Chain → Result (Ins × ℕ) DecodeFault → Reading
fetch_reading ch (Err e) = last_reading ch.frame ch.public
fetch_reading ch (Ok i) = row_reading ch (row i.0 (frame_at ch.frame i.1) ch.public (around ch))

-- What the frame that ran a turn reads after it. The turn of a chain whose budget is spent abends. After an abend it
-- reads what it read before, without what waited.
unfoldable pub reading_after : ℕ → Chain → Reading
unfolding row
reading_after zero ch = last_reading ch.frame ch.public
reading_after (suc n) ch = fetch_reading ch (instruction_at (code_in (lookup ch.map ch.frame.name)) ch.frame.at)

-- ---- what differs

-- the longest runs of addresses whose bytes differ, in the static segment, then the dynamic one, then the public one
abbrev pub sets_between : Reading → Reading → List (ℕ × List ℕ)
sets_between old new = changes 0 old.fixed new.fixed ++ changes dynamic_base old.dynamic new.dynamic ++ changes public_base old.public new.public

-- the runs that a turn changes
abbrev pub turn_sets : ℕ → Chain → List (ℕ × List ℕ)
turn_sets n ch = sets_between (reading_of ch.frame ch.public) (reading_after n ch)

-- the runs of a frame that begins which are not zero; the public bytes are shown with the first frame alone
abbrev pub first_sets : ℕ → Frame → List ℕ → List (ℕ × List ℕ)
first_sets depth f public = sets_between no_reading (reading_of f (cond (depth == 1) public []))
