-- What is recorded of the instructions of a command: what each of them does to what is counted of one application.
use Rattle.std.specs.Prelude.{ℕ, ◌+◌, Bool, true, false, cond, not, ◌&&◌, ◌||◌, ◌==◌, min, List, [], ◌∷◌, ◌++◌, get_or, is_none, length, slice_get, Option, Some, None}
use Rattle.mc_words.specs.model_device.specs.Bytes.{num}
use Rattle.mc_apdu.specs.model_machine.specs.declared.instruction.Ins.{Ins}
use Rattle.mc_apdu.specs.model_machine.specs.declared.machine.Abend.{Abend}
use Rattle.mc_apdu.specs.model_machine.specs.declared.machine.Abend.TheVariants as abend
use Rattle.mc_apdu.specs.model_machine.specs.Chain.{Chain, Turn, Outcome, Reply, Abended}
use Rattle.law_events.specs.law_promise.specs.model_events.specs.Amounts.{turn_text}
use Rattle.law_events.specs.Events.{event_of}
use Rattle.law_events.specs.Turns.{mode_in, opens_seen}
use Rattle.lab_app_rules.specs.model_rules.specs.Happenings.{Event, Did, Failed, Commanded, Answers, Session, rule_watch}
use Rattle.lab_app_rules.specs.model_rules.specs.Keeping.{line_of_deed, mode_of}
use Rattle.lab_app_rules.specs.declared.rules.Effect.{Effect}
use Rattle.lab_app_rules.specs.declared.rules.Effect.TheVariants as effect
use Rattle.lab_app_rules.specs.declared.rules.Event.TheVariants as event
use Rattle.lab_app_rules.specs.declared.rules.On.{On}
use Rattle.lab_history.specs.declared.course.Deed.{Deed}
use Rattle.lab_history.specs.declared.course.Deed.TheVariants as deed
use Rattle.lab_history.specs.declared.course.Happening.{Happening}
use Rattle.mc_isa.specs.model_text.specs.Listing.{hex_text}
use Rattle.mc_text.specs.model_text.specs.TurnText.{outcome_text}
use Rattle.lab_record.specs.Courses.{answered_from, session_from}
use Rattle.lab_record.specs.Fitting.{amount_of, are_sums, fitting_from}

-- ---- deeds

-- a deed of a course, with the number that a sum is moved by
pub data DeedValue : Type 0 where
  Applies : (line : ℕ) → DeedValue
  Moves : (line : ℕ) (number : ℕ) → DeedValue
  Keeps : DeedValue
  Drops : DeedValue
  Abends : DeedValue

-- the value of a deed
abbrev pub deed_value : Deed → DeedValue
deed_value (deed.On i) = Applies i
deed_value (deed.Sum i number) = Moves i (num number.items)
deed_value deed.Keep = Keeps
deed_value deed.Drop = Drops
deed_value deed.Abend = Abends

-- a deed with the number of turns before it
abbrev pub happening_value : Happening → ℕ × DeedValue
happening_value h = (h.turn, deed_value h.deed)

-- the values of deeds
abbrev pub values_of : List Happening → List (ℕ × DeedValue)
values_of [] = []
values_of (h ∷ hs) = happening_value h ∷ values_of hs

-- ---- what is seen of an instruction

-- the chain before it, with this much of the budget left
pub record Sight : Type 0 where
  pub left : ℕ
  pub chain : Chain

-- what is seen of the instruction of a chain
abbrev pub sight : ℕ → Chain → Sight
sight n ch = record { left = n; chain = ch }

-- ---- a log

-- what was recorded: the number of turns, of which one that abends is one; and the deeds
pub record Log : Type 0 where
  pub turns : ℕ
  pub deeds : List (ℕ × DeedValue)

-- nothing was recorded
abbrev pub no_log : Log
no_log = record { turns = 0; deeds = [] }

-- the rules as a log needs them: the `on` lines, whether there is a sum, and whether no instruction may abend
pub record LogRules : Type 0 where
  pub ons : List On
  pub sums : Bool
  pub never : Bool

-- a log with a deed more
abbrev pub with_deed : DeedValue → Log → Log
with_deed d g = record g { deeds = g.deeds ++ (g.turns, d) ∷ [] }

-- a log after an effect of the `on` line with a number
abbrev pub log_effect : Effect → ℕ → List ℕ → Log → Log
log_effect (effect.Add a) i public g = with_deed (Moves i (amount_of a public)) g
log_effect (effect.Take a) i public g = with_deed (Moves i (amount_of a public)) g
log_effect (effect.Allow k) i public g = with_deed (Applies i) g
log_effect (effect.Spend k) i public g = with_deed (Applies i) g
log_effect (effect.Need k) i public g = with_deed (Applies i) g

-- a log after an `on` line with a number, if there is one
abbrev pub log_on : Option On → ℕ → List ℕ → Log → Log
log_on None i public g = g
log_on (Some o) i public g = log_effect o.effect i public g

-- a log after the `on` lines with these numbers, by the public segment before the instruction
abbrev pub log_lines : List On → List ℕ → List ℕ → Log → Log
log_lines ons public [] g = g
log_lines ons public (i ∷ is) g = log_lines ons public is (log_on (slice_get ons i) i public g)

-- a log after what becomes of what waits, under protection, by the mode that the instruction gives it
abbrev pub log_settled : Option ℕ → Log → Log
log_settled None g = g
log_settled (Some mode) g = cond (mode == 1 || mode == 3) (with_deed Keeps g) (with_deed Drops g)

-- a log after an instruction under protection, or without it, if there are sums
abbrev pub log_sums : Bool → LogRules → List ℕ → List ℕ → Option ℕ → Log → Log
log_sums true r public lines mode g = log_settled mode (log_lines r.ons public lines g)
log_sums false r public lines mode g =
    cond (is_none mode && not (are_sums r.ons lines)) (log_lines r.ons public lines g)
    (with_deed Keeps (log_lines r.ons public lines (with_deed Drops g)))

-- a log after an instruction that the lines with these numbers fit, by whether it was under protection
abbrev pub log_fitting : LogRules → Bool → List ℕ → List ℕ → Option ℕ → Log → Log
log_fitting r on public lines mode g = cond r.sums (log_sums on r public lines mode g) (log_lines r.ons public lines g)

-- the public segment that is seen: that of a log without sums is none
abbrev pub public_seen : LogRules → List ℕ → List ℕ
public_seen r public = cond r.sums public []

-- a log after an instruction that was done, by its line and the mode that it gives the protection
abbrev pub log_done : LogRules → Bool → List ℕ → List ℕ → Option ℕ → Log → Log
log_done r on public text mode g = log_fitting r on (public_seen r public) (fitting_from 0 event.Turn text r.ons) mode g

-- a log after an instruction that abended
abbrev pub log_abend : LogRules → Log → Log
log_abend r g = cond r.never (with_deed Abends g) g

-- a log after the `on` lines with these numbers applied
abbrev pub log_applied : List ℕ → Log → Log
log_applied [] g = g
log_applied (i ∷ is) g = log_applied is (with_deed (Applies i) g)

-- a log after an event, if there is one, by whether protection is on before it
abbrev pub log_event : LogRules → Bool → Option Event → Log → Log
log_event r on None g = g
log_event r on (Some (Did d)) g = log_done r on d.public (line_of_deed d) (mode_of d.ins) g
log_event r on (Some (Failed at cause)) g = log_abend r g
log_event r on (Some (Commanded b)) g = log_applied (fitting_from 0 event.Command (hex_text b) r.ons) g
log_event r on (Some (Answers b o)) g = log_applied (answered_from 0 (hex_text b) (outcome_text o) r.ons) g
log_event r on (Some Session) g = log_applied (session_from 0 r.ons) g

-- a log with one instruction more; the last number stands for all after it
abbrev pub log_counted : Log → Log
log_counted g = record g { turns = min (g.turns + 1) 18446744073709551615 }

-- whether an event is one under protection
abbrev pub is_protected : Option Event → Bool
is_protected (Some (Did d)) = d.frame.protected
is_protected e = false

-- a log after the events of some turns
abbrev pub log_events : LogRules → List (Option Event) → Log → Log
log_events r [] g = g
log_events r (e ∷ es) g = log_events r es (log_counted (log_event r (is_protected e) e g))

-- ---- by the turns alone

-- protection by depth, and a log
pub record Marks : Type 0 where
  pub opens : List Bool
  pub log : Log

-- no protection is on, and nothing was recorded
abbrev pub no_marks : Marks
no_marks = record { opens = false ∷ false ∷ false ∷ false ∷ []; log = no_log }

-- marks after an instruction
abbrev pub log_turn : LogRules → List ℕ → Sight → Marks → Marks
log_turn r name x m =
    record {
      opens = opens_seen x.left x.chain m.opens;
      log = log_counted (log_event r (get_or m.opens (length x.chain.below) false) (event_of (rule_watch name) x.left x.chain) m.log);
    }

-- marks after some instructions
abbrev pub log_turns : LogRules → List ℕ → List Sight → Marks → Marks
log_turns r name [] m = m
log_turns r name (x ∷ xs) m = log_turns r name xs (log_turn r name x m)

-- whether a turn without an instruction ended since the budget is spent
abbrev pub is_spent : Option Ins → Abend → Bool
is_spent None abend.A07 = true
is_spent i c = false

-- a log after a turn of the application by its end
abbrev pub log_end : LogRules → Bool → List ℕ → Turn → Option Outcome → Log → Log
log_end r on public t (Some (Abended c)) g = cond (is_spent t.ins c) g (log_abend r g)
log_end r on public t (Some (Reply body sw)) g = log_done r on public (turn_text t) (mode_in t.ins) g
log_end r on public t None g = log_done r on public (turn_text t) (mode_in t.ins) g

-- a log after a turn, by whether it is one of the application
abbrev pub log_own : Bool → LogRules → Bool → List ℕ → Turn → Log → Log
log_own true r on public t g = log_end r on public t t.end g
log_own false r on public t g = g
