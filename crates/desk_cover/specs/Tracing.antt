-- The trace of a draft as it is written: the line of a turn by its parts, and a text in a sink that may fail.
use Rattle.std.specs.Prelude.{◌≡◌, ℕ, List, [], ◌∷◌, ◌++◌, codes, decimal, Option, Some, None}
use Rattle.std.proofs.Common.{refl, sym, ap, subst, ◌∙◌, append_assoc}
use Rattle.mc_arith.specs.model_machine.specs.Chain.{Turn}
use Rattle.mc_isa.specs.model_text.specs.TurnText.{turn_line}
use Rattle.mc_streams.specs.declared.refusals.WriteFault.{WriteFault}
use Rattle.mc_streams.specs.declared.sink.Sink.{Ghosts}
use Rattle.mc_text.specs.Logs.{Log}
use Rattle.mc_text.specs.Texts.{sunk, Sunk, Writes, Fails}
use Rattle.mc_text.proofs.TextLemmas.{writes_then, writes_none, fails_then, fails_before}
use Rattle.desk_draft.specs.declared.source.CodeLine.{CodeLine as LineOfCode}
use Rattle.desk_draft.specs.FullTurns.{FullTurn, last_bytes}
use Rattle.desk_draft.specs.Listings.{CodeLine, Source}
use Rattle.desk_draft.specs.Traces.{bytes_or_dash, trace_line, trace_lines, trace_text, with_part}
use Rattle.desk_cover.specs.declared.tracing.Tracer.{Tracer}

-- ---- the line of a turn

-- the number of a line, and its text
abbrev pub line_pair : CodeLine → ℕ × List ℕ
line_pair l = (l.number, l.text)

-- the number of a line of the code, and its text
abbrev pub line_value : LineOfCode → ℕ × List ℕ
line_value l = (l.number, l.text.now)

-- ` ; ` with the number and the text of a source line
abbrev pub source_part_of : ℕ × List ℕ → List ℕ
source_part_of l = codes " ; " ++ decimal l.0 ++ codes " " ++ l.1

-- ` ; ` with the bytes of an operand, and at most the last 8 bytes of a stack
abbrev pub state_part_of : List ℕ → List ℕ → List ℕ
state_part_of operand stack = codes " ; " ++ bytes_or_dash operand ++ codes " " ++ bytes_or_dash (last_bytes 8 stack)

-- the line of a turn with its source line, the bytes of its operand, and its stack
abbrev pub turn_text : Turn → ℕ × List ℕ → List ℕ → List ℕ → List ℕ
turn_text t l operand stack = with_part (turn_line t) (source_part_of l ++ state_part_of operand stack)

-- ---- texts in a sink

-- a text in a log that had no fault before: whole, or a proper prefix of it if the sink failed
abbrev pub TextAs : Option WriteFault → Sunk → List ℕ → Sunk → Type 0
TextAs None a text b = Writes a text b
TextAs (Some f) a text b = Fails a text b

-- a text, by the fault before it: after a fault nothing is written
abbrev pub TextBy : Option WriteFault → Sunk → List ℕ → Log → Type 0
TextBy None a text m = TextAs m.fault a text m.out
TextBy (Some f) a text m = (m.fault ≡ Some f) × (m.out ≡ a)

-- a log l becomes m by a text
abbrev pub AddsText : Log → List ℕ → Log → Type 0
AddsText l text m = TextBy l.fault l.out text m

module _ {T : Type 0} (sink : Ghosts T) where
  -- the log of a tracer, by what its sink took
  abbrev pub log_of : Tracer T → Log
  log_of q = record { out = sunk sink q.out.now; fault = q.fault }

  -- a tracer wrote a text: it has the same sink as before, and the same sections
  pub record Adds (q : Tracer T) (text : List ℕ) (r : Tracer T) : Type 0 where
    pub adds : AddsText (log_of q) text (log_of r)
    pub sections : r.sections.now ≡ q.sections.now
    pub same : r.out.ghost_name ≡ q.out.ghost_name

  -- a tracer wrote the lines of turns
  abbrev pub Traced : Tracer T → List FullTurn → Tracer T → Type 0
  Traced q ts r = Adds q (trace_lines q.sections.now ts) r

-- one tracer before and after it wrote something: its sink and its sections are the same
pub record IsSameTracer {T : Type 0} (q r : Tracer T) : Type 0 where
  pub sections : r.sections.now ≡ q.sections.now
  pub same : r.out.ghost_name ≡ q.out.ghost_name

-- ---- the laws of tracers

pub same_itself : {T : Type 0} (q : Tracer T) → IsSameTracer q q
same_itself q = record { sections = refl; same = refl }

pub same_after : {T : Type 0} (q r s : Tracer T) → IsSameTracer q r → IsSameTracer r s → IsSameTracer q s
same_after q r s first rest = record { sections = rest.sections ∙ first.sections; same = rest.same ∙ first.same }

pub same_texts : {T : Type 0} (q r : Tracer T) → IsSameTracer q r → trace_text r.sections.now ≡ trace_text q.sections.now
same_texts q r h = ap (λ (ss : List Source). trace_text ss) h.sections

-- no text
none_by : (f : Option WriteFault) (a : Sunk) → TextBy f a [] (record { out = a; fault = f })
none_by None a = writes_none a
none_by (Some f) a = (refl, refl)

-- a text followed by another, in a log that had no fault before
as_on : (f : Option WriteFault) (a b : Sunk) (n : Log) (x y : List ℕ) → TextAs f a x b → TextBy f b y n → TextAs n.fault a (x ++ y) n.out
as_on (Some f) a b n x y first rest = subst (λ (g : Option WriteFault). TextAs g a (x ++ y) n.out) (sym rest.0) (subst (λ (o : Sunk). Fails a (x ++ y) o) (sym rest.1) (fails_before y first))
as_on None a b n x y first rest = more n.fault rest
  where
    more : (g : Option WriteFault) → TextAs g b y n.out → TextAs g a (x ++ y) n.out
    more None rest = writes_then first rest
    more (Some g) rest = fails_then first rest

-- a text followed by another
by_on : (f : Option WriteFault) (a : Sunk) (m n : Log) (x y : List ℕ) → TextBy f a x m → TextBy m.fault m.out y n → TextBy f a (x ++ y) n
by_on None a m n x y first rest = as_on m.fault a m.out n x y first rest
by_on (Some f) a m n x y first rest =
    let stays = subst (λ (g : Option WriteFault). TextBy g m.out y n) first.0 rest in
    (stays.0, stays.1 ∙ first.1)

-- the lines of turns followed by others
lines_append : (ss : List Source) (ts us : List FullTurn) → trace_lines ss (ts ++ us) ≡ trace_lines ss ts ++ trace_lines ss us
lines_append ss [] us = refl
lines_append ss (t ∷ ts) us = ap (λ (l : List ℕ). trace_line ss t ++ l) (lines_append ss ts us) ∙ sym (append_assoc (trace_line ss t) (trace_lines ss ts) (trace_lines ss us))

module _ {T : Type 0} (sink : Ghosts T) where
  -- a text after a text
  pub adds_on : (q r s : Tracer T) (x y : List ℕ) → Adds sink q x r → Adds sink r y s → Adds sink q (x ++ y) s
  adds_on q r s x y first rest =
      record {
        adds = by_on q.fault (sunk sink q.out.now) (log_of sink r) (log_of sink s) x y first.adds rest.adds;
        sections = rest.sections ∙ first.sections;
        same = rest.same ∙ first.same;
      }

  -- a tracer that wrote nothing is unchanged
  pub adds_none : (r : Tracer T) → Adds sink r [] r
  adds_none r = record { adds = none_by r.fault (sunk sink r.out.now); sections = refl; same = refl }

  -- a tracer that wrote lines of turns is the same
  pub same_traced : (q r : Tracer T) (ts : List FullTurn) → Traced sink q ts r → IsSameTracer q r
  same_traced q r ts h = record { sections = h.sections; same = h.same }

  -- of no turn no line is written
  pub traced_none : (r : Tracer T) → Traced sink r [] r
  traced_none r = adds_none r

  -- the lines of turns are written after those before them
  pub traced_on : (q r s : Tracer T) (ts us : List FullTurn) → Traced sink q ts r → Traced sink r us s → Traced sink q (ts ++ us) s
  traced_on q r s ts us first rest =
      let here = subst (λ (ss : List Source). Adds sink r (trace_lines ss us) s) first.sections rest in
      subst (λ (l : List ℕ). Adds sink q l s) (sym (lines_append q.sections.now ts us)) (adds_on q r s (trace_lines q.sections.now ts) (trace_lines q.sections.now us) first here)
