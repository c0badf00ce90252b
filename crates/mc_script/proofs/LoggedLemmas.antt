-- The laws of the log of a play.
use Rattle.std.proofs.Common.{arith, ◌≡◌, ℕ, List, [], ◌++◌, Option, None, Result, Ok, Err, refl, subst}
use Rattle.model_play.specs.model_machine.specs.Chain.{Turn}
use Rattle.std.specs.Result.{result_err}
use Rattle.model_play.specs.model_text.specs.TurnText.{turn_lines}
use Rattle.mc_streams.specs.declared.refusals.WriteFault.{WriteFault}
use Rattle.mc_streams.specs.declared.sink.Sink.{Ghosts}
use Rattle.mc_text.specs.Texts.{Sunk, Puts}
use Rattle.mc_text.specs.Logs.{LoggedBy}
use Rattle.mc_text.proofs.TextLemmas.{puts_then}
use Rattle.mc_text.proofs.LogLemmas.{logged_none}
use Rattle.mc_script.specs.declared.writer.Reporting.{Reporting}
use Rattle.mc_script.specs.declared.writer.Reporting.TheVariants.{Results, Turns}
use Rattle.mc_script.specs.declared.writer.Writer.{Writer}
use Rattle.mc_script.specs.Writers.{write_result, reported_turns, WriterKeeps}

-- no line is written of turns if only results are written
none_reported : (t : Reporting) (ts : List Turn) → t ≡ Results → [] ≡ reported_turns t ts
none_reported Results ts is = refl
none_reported Turns ts is = absurd (cc is)

pub keeps_untold : {T : Type 0} (sink : Ghosts T) (w : Writer T) (ts : List Turn) → w.reporting ≡ Results → WriterKeeps sink w ts w
keeps_untold sink w ts is = grind (arith, none_reported, logged_none)

-- a line after the turns of a log that had no fault
pub line_behind : (f g : Option WriteFault) (a b c : Sunk) (ts : List Turn) (line : List ℕ) (r : Result (Unit {0}) WriteFault) → f ≡ None → g ≡ None → LoggedBy f a ts (record { out = b; fault = g }) → Puts b line r c → Puts a (turn_lines ts ++ line) r c
line_behind f g a b c ts line r before after logged puts =
    puts_then c line r (subst (λ (h : Option WriteFault). LoggedBy None a ts (record { out = b; fault = h })) after (subst (λ (h : Option WriteFault). LoggedBy h a ts (record { out = b; fault = g })) before logged)) puts

-- the fault of a result, as the result
pub ended_err : (r : Result (Unit {0}) WriteFault) → write_result (result_err r) ≡ r
ended_err (Ok u) = refl
ended_err (Err f) = refl
