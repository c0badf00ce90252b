-- A result without its value, and the part of the report that is still to be written.
use Rattle.std.specs.Prelude.{List, ◌++◌, length, ℕ, Result, Ok, Err}
use Rattle.law_explore.specs.model_play.specs.Play.{Step}
use Rattle.mc_lab.specs.Remarks.{Remark}
use Rattle.mc_lab.specs.Expectations.{count_failed, count_text, failed_lines}

-- whether a call succeeded, without its value
abbrev pub done_of : {A E : Type 0} → Result A E → Result (Unit {0}) E
done_of (Ok a) = Ok tt
done_of (Err e) = Err e

-- the rest of a report: the lines of the expectations that are left, and the line of the counts
abbrev pub text_left : List Step → List Remark → List Remark → List ℕ
text_left ts left es = failed_lines ts left ++ count_text (length es) (count_failed ts es)
