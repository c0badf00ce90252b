-- The device writes of turns, counted in their line.
use Rattle.std.specs.Prelude.{ℕ, ◌+◌, Bool, cond, ◌==◌, min, nat_lt, List, Option, Some, None}
use Rattle.law_steps.specs.Writes.{now_of, waits_of, writes_of_words}
use Rattle.mc_machine.specs.declared.outcome.BriefTurn.{BriefTurn}
use Rattle.desk_steps.specs.declared.shot.Shot.{Shot}
use Rattle.desk_steps.specs.Shots.{span_seen}
use Rattle.desk_steps.specs.Turning.{end_of}

-- the number of the last device write of a line, after some more; the last number stands for all after it
abbrev pub count_after : ℕ → ℕ → ℕ
count_after before count = min (before + count) 4294967295

-- the first and the last of some device writes after others of their line, if there are some
abbrev pub writes_after : ℕ → ℕ → Option (ℕ × ℕ)
writes_after before count = cond (count == 0) None (Some (count_after before 1, count_after before count))

-- ---- by the shots before and after a turn

-- the number of device writes of a turn, by protection and by the words that wait
abbrev pub moves_by_shots : BriefTurn → Shot → Shot → Bool → List ℕ → ℕ
moves_by_shots t before after on ws = writes_of_words (now_of (end_of t.end) t.ins (span_seen before after (nat_lt 1 t.depth)) on ws)

-- the words that wait after it
abbrev pub waits_by_shots : BriefTurn → Shot → Shot → Bool → List ℕ → List ℕ
waits_by_shots t before after on ws = waits_of (end_of t.end) t.ins (span_seen before after (nat_lt 1 t.depth)) on ws
