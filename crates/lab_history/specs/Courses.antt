-- Which instructions of a line count.
use Rattle.std.specs.Prelude.{ℕ, suc, Bool, true, cond, nat_lt}
use Rattle.lab_history.specs.declared.course.Extent.{Extent}
use Rattle.lab_history.specs.declared.course.Extent.TheVariants as extent

-- Of a line that a stop hit, the number of those that count: the instruction that the stop hit is one of them exactly if
-- its write is durable.
abbrev pub count_of_turns : ℕ → Bool → ℕ
count_of_turns turns durable = cond durable (suc turns) turns

-- whether the instruction with an index counts
abbrev pub has_turn : Extent → ℕ → Bool
has_turn extent.Whole turn = true
has_turn (extent.Stopped turns durable) turn = nat_lt turn (count_of_turns turns durable)
