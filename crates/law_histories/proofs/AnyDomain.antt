-- The domain that says nothing: what is covered of it is that the selected application is on the card, and that the
-- application of the rules is as it was created.
use Rattle.std.proofs.Common.{arith, ◌≡◌, ℕ, Bool, true, false, List, Option, Some, None, Result, Ok, Err, refl}
use Rattle.std.specs.Prelude.{⊤, bytes_eq}
use Rattle.law_histories.specs.model_machine.specs.declared.instruction.Ins.{Ins}
use Rattle.law_histories.specs.model_machine.specs.declared.instruction.DecodeFault.{DecodeFault}
use Rattle.law_histories.specs.model_machine.specs.declared.machine.Abend.{Abend}
use Rattle.law_histories.specs.model_machine.specs.Apdu.{ApduParts}
use Rattle.law_histories.specs.model_machine.specs.Frame.{Frame, session_of}
use Rattle.law_histories.specs.model_machine.specs.Primitives.{Around, Then, Done}
use Rattle.law_histories.specs.model_machine.specs.Row.{RowEnd, row}
use Rattle.law_histories.specs.model_machine.specs.Chain.{Outcome, Reply, Abended, frame_at}
use Rattle.law_histories.specs.model_card.specs.Manager.{Selected, is_selected}
use Rattle.law_histories.specs.law_promise.specs.History.{with_event, fetch_cause}
use Rattle.law_histories.specs.law_promise.specs.Outline.{Entry, BySelection, ByDelegation}
use Rattle.law_histories.specs.law_promise.specs.Domain.{Domain, IsSound, AnswerCovered, EndCovered, exit_outcome, ExitCovered, DelegationCovered, NextCovered, WriteCovered, AbendCovered, RowCovered, FetchCovered, SelectedCovered, CoveredIf}
use Rattle.law_histories.specs.model_rules.specs.Rules.{Target}
use Rattle.law_histories.specs.model_rules.specs.Happenings.{Event, History, rule_watch}

-- it says nothing
abbrev pub any_domain : Target → Domain Event
any_domain g =
    record {
      watch = rule_watch g.name;
      app = g.app;
      anywhere = ⊥;
      of_bytes = ⊥;
      gone = λ h. ⊤;
      idle = λ h fixed. ⊤;
      session = λ h fixed session. ⊤;
      at = λ e h f public. ⊤;
      answers = λ a before after sw. ⊤;
    }

module _ (g : Target) where
  ends : (e : Entry Event) (k : History) (fixed session : List ℕ) (outcome : Outcome) → EndCovered (any_domain g) e k fixed session outcome
  ends (BySelection bytes apdu before) k fixed session outcome = tt
  ends ByDelegation k fixed session outcome = tt

  answers : (bytes : List ℕ) (apdu : ApduParts) (before k : History) (outcome : Outcome) → AnswerCovered (any_domain g) bytes apdu before k outcome
  answers bytes apdu before k (Reply body sw) = tt
  answers bytes apdu before k (Abended cause) = tt

  abends : (e : Entry Event) (k : History) (f : Frame) (cause : Abend) → AbendCovered (any_domain g) e k f cause
  abends e k f cause = record { ends = ends e k f.fixed (session_of f) (Abended cause); stops = λ t. absurd t }

  writes : (e : Entry Event) (h k : History) (f : Frame) (d : Done) (ps : Option (List (ℕ × List ℕ))) → WriteCovered (any_domain g) e h k f d ps
  writes e h k f d None = tt
  writes e h k f d (Some ps) = (tt, tt)

  exits : (e : Entry Event) (k : History) (f : Frame) (d : Done) → ExitCovered (any_domain g) e k f d
  exits (BySelection bytes apdu before) k f d = (tt, answers bytes apdu before k (exit_outcome apdu d.effect.public), λ t. absurd t)
  exits ByDelegation k f d = tt

  delegates : (e : Entry Event) (k : History) (f : Frame) → DelegationCovered (any_domain g) e k f
  delegates e k f = record { back = λ p is. tt; abends = λ cause is. ends e k f.fixed (session_of f) (Abended cause); stops = tt }

  goes_next : (e : Entry Event) (k : History) (f : Frame) (d : Done) (n : Then) → NextCovered (any_domain g) e k f d n
  goes_next e k f d n = grind (arith, exits, delegates)

  rows : (e : Entry Event) (h : History) (f : Frame) (public : List ℕ) (depth : ℕ) (i : Ins) (r : RowEnd) → RowCovered (any_domain g) e h f public depth i r
  rows e h f public depth i r = grind (arith, abends, writes, goes_next)

  fetches : (e : Entry Event) (h : History) (f : Frame) (public : List ℕ) (depth : ℕ) (x : Around) (r : Result (Ins × ℕ) DecodeFault) → FetchCovered (any_domain g) e h f public depth x r
  fetches e h f public depth x (Err fault) = abends e (with_event ((rule_watch g.name).of_abend f.at (fetch_cause fault)) h) f (fetch_cause fault)
  fetches e h f public depth x (Ok i) = rows e h f public depth i.0 (row i.0 (frame_at f i.1) public x)

  -- the domain that says nothing is sound
  pub any_sound : IsSound (any_domain g)
  any_sound = grind (arith, fetches, ends)

  -- what is not on the card is not selected
  not_there : (b : Bool) (h : History) (session : List ℕ) → CoveredIf b (any_domain g) h None session → b ≡ false
  not_there true h session x = absurd x
  not_there false h session x = refl

  -- an application that is not on the card is not selected
  pub unselected : (h : History) (s : Option Selected) → SelectedCovered (any_domain g) h None s → is_selected s g.name ≡ false
  unselected h None x = refl
  unselected h (Some s) x = not_there (bytes_eq s.name g.name) h s.session x
