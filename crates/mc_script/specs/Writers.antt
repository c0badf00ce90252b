-- The text of a play, line by line, and the result of writing it.
use Rattle.std.specs.Prelude.{◌≡◌, ℕ, List, [], ◌++◌, Option, Some, None, Result, Ok, Err, refl}
use Rattle.std.proofs.Common.{◌∙◌, ap, subst}
use Rattle.model_play.specs.model_machine.specs.Chain.{Turn}
use Rattle.model_play.specs.Play.{Step}
use Rattle.model_play.specs.Transcript.{line_text}
use Rattle.model_play.specs.TraceText.{shown_turns}
use Rattle.model_play.specs.model_text.specs.TurnText.{turn_lines}
use Rattle.mc_streams.specs.declared.refusals.WriteFault.{WriteFault}
use Rattle.mc_streams.specs.declared.sink.Sink.{Ghosts}
use Rattle.mc_text.specs.Texts.{sunk}
use Rattle.mc_text.specs.Logs.{Logged}
use Rattle.mc_text.specs.Logs as text
use Rattle.mc_text.proofs.LogLemmas.{logged_none, logged_on}
use Rattle.mc_script.specs.declared.writer.Reporting.{Reporting}
use Rattle.mc_script.specs.declared.writer.Reporting.TheVariants.{Results, Turns}
use Rattle.mc_script.specs.declared.writer.Writer.{Writer}

-- ---- texts

-- the result of a writer, by the fault that its sink had
abbrev pub write_result : Option WriteFault → Result (Unit {0}) WriteFault
write_result None = Ok tt
write_result (Some f) = Err f

-- the turns of which a line is written
abbrev pub reported_turns : Reporting → List Turn → List Turn
reported_turns Results ts = []
reported_turns Turns ts = ts

-- the text of turns
abbrev pub turns_text : Reporting → List Turn → List ℕ
turns_text t ts = turn_lines (reported_turns t ts)

-- the text of a line, by the text of its turns
abbrev pub text_by : (List Turn → List ℕ) → Step → List ℕ
text_by f t = f (shown_turns t.turns t.stop) ++ line_text t.number t.result

-- ---- writers

-- the log of a writer, by what its sink took
abbrev pub log_in : {T : Type 0} → Ghosts T → Writer T → text.Log
log_in sink w = record { out = sunk sink w.out.now; fault = w.fault }

-- turns that a writer recorded: it has the same sink as before, with the lines of those turns that it writes
pub record WriterKeeps {T : Type 0} (sink : Ghosts T) (w : Writer T) (ts : List Turn) (x : Writer T) : Type 0 where
  pub lines : Logged (log_in sink w) (reported_turns w.reporting ts) (log_in sink x)
  pub reporting : x.reporting ≡ w.reporting
  pub same : x.out.ghost_name ≡ w.out.ghost_name

-- one writer before and after it wrote something: its sink and what it writes are the same
pub record IsSameWriter {T : Type 0} (w x : Writer T) : Type 0 where
  pub reporting : x.reporting ≡ w.reporting
  pub same : x.out.ghost_name ≡ w.out.ghost_name

-- ---- their laws

pub same_itself : {T : Type 0} (w : Writer T) → IsSameWriter w w
same_itself w = record { reporting = refl; same = refl }

pub same_after : {T : Type 0} (w x y : Writer T) → IsSameWriter w x → IsSameWriter x y → IsSameWriter w y
same_after w x y first rest = record { reporting = rest.reporting ∙ first.reporting; same = rest.same ∙ first.same }

pub same_texts : {T : Type 0} (w x : Writer T) → IsSameWriter w x → text_by (turns_text x.reporting) ≡ text_by (turns_text w.reporting)
same_texts w x h = ap (λ (t : Reporting). text_by (turns_text t)) h.reporting

-- of no turns no line is written
pub reported_none : (t : Reporting) → [] ≡ reported_turns t []
reported_none Results = refl
reported_none Turns = refl

-- the lines of turns after turns are written after theirs
pub reported_behind : (t : Reporting) (ts us : List Turn) → reported_turns t ts ++ reported_turns t us ≡ reported_turns t (ts ++ us)
reported_behind Results ts us = refl
reported_behind Turns ts us = refl

module _ {T : Type 0} (sink : Ghosts T) where
  -- a writer that recorded no turn is unchanged
  pub keeps_none : (w : Writer T) → WriterKeeps sink w [] w
  keeps_none w =
      let log = log_in sink w in
      record { lines = subst (λ (ts : List Turn). Logged log ts log) (reported_none w.reporting) (logged_none log); reporting = refl; same = refl }

  -- turns are recorded after turns
  pub keeps_on : (w x y : Writer T) (ts us : List Turn) → WriterKeeps sink w ts x → WriterKeeps sink x us y → WriterKeeps sink w (ts ++ us) y
  keeps_on w x y ts us first rest =
      let a = log_in sink w in
      let b = log_in sink x in
      let c = log_in sink y in
      let more = subst (λ (t : Reporting). Logged b (reported_turns t us) c) first.reporting rest.lines in
      record {
        lines = subst (λ (vs : List Turn). Logged a vs c) (reported_behind w.reporting ts us) (logged_on a b c (reported_turns w.reporting ts) (reported_turns w.reporting us) first.lines more);
        reporting = rest.reporting ∙ first.reporting;
        same = rest.same ∙ first.same;
      }

  -- a writer that recorded turns is the same
  pub same_kept : (w x : Writer T) (ts : List Turn) → WriterKeeps sink w ts x → IsSameWriter w x
  same_kept w x ts h = record { reporting = h.reporting; same = h.same }
