-- Logs of recorders.
use Rattle.std.proofs.Common.{◌≡◌, ◌≢◌, ℕ, zero, suc, ◌+◌, ◌-◌, Bool, true, false, cond, List, [], ◌∷◌, ◌++◌, length, Option, Some, None, Result, Ok, Err, option_map, is_err, arith, refl, sym, ap, subst, ◌∙◌}
use Rattle.std.specs.Prelude.{bytes_eq, get_or, OnOk, slice_set}
use Rattle.mc_apdu.specs.model_machine.specs.declared.instruction.Ins.{Ins}
use Rattle.mc_apdu.specs.model_machine.specs.declared.machine.Abend.{Abend}
use Rattle.mc_apdu.specs.model_machine.specs.declared.machine.Abend.TheVariants as abend
use Rattle.mc_apdu.specs.model_machine.specs.Chain.{Abended, Chain, Outcome as ModelOutcome, Reply, Turn as ModelTurn, turn_of}
use Rattle.law_events.specs.law_promise.specs.model_events.specs.Amounts.{turn_text}
use Rattle.law_events.specs.Events.{event_of}
use Rattle.law_events.specs.Turns.{Shows, mode_in, opens_by}
use Rattle.law_events.proofs.TurnLemmas.{other_turn, own_turn, turn_depth}
use Rattle.mc_machine.specs.declared.outcome.End.{End}
use Rattle.mc_machine.specs.declared.outcome.End.TheVariants as end
use Rattle.mc_machine.specs.declared.outcome.Outcome.{Outcome}
use Rattle.mc_machine.specs.declared.outcome.Outcome.TheVariants as outcome
use Rattle.mc_machine.specs.declared.outcome.Turn.{Turn}
use Rattle.mc_machine.specs.Turns.{end_outcome, outcome_value, turn_value, AgreesWithEnd}
use Rattle.lab_app_rules.specs.model_rules.specs.Happenings.{Event, Did, Failed, Commanded, Answers, Session, rule_watch}
use Rattle.lab_app_rules.specs.model_rules.specs.Keeping.{line_of_deed}
use Rattle.lab_history.specs.declared.course.Happening.{Happening}
use Rattle.lab_record.specs.declared.recorder.Recorder.{Recorder}
use Rattle.lab_record.specs.Logs.{DeedValue, Log, LogRules, Sight, happening_value, is_protected, is_spent, log_abend, log_counted, log_done, log_end, log_event, log_own, public_seen, values_of}
use Rattle.lab_record.specs.Recorders.{IsSight, LooksAt, Recorded, Stays, log_of, log_rules, recorded_on}

-- the values of one deed more
pub values_last : (hs : List Happening) (h : Happening) → values_of (hs ++ h ∷ []) ≡ values_of hs ++ happening_value h ∷ []
values_last [] h = refl
values_last (x ∷ hs) h = ap (λ (ds : List (ℕ × DeedValue)). happening_value x ∷ ds) (values_last hs h)

-- an instruction that was recorded after a look at the public segment before it
pub watched_turn : (q r s : Recorder) (own : Bool) (public : List ℕ) (turn : Turn) (x : Sight) → LooksAt q own public r → own ≡ bytes_eq x.chain.frame.name q.aid.now → public ≡ x.chain.public
    → (let t = (turn_of x.left x.chain).turn in t ≡ turn_value turn t.wrote) → ((y : Sight) → IsSight r turn own y → Recorded r (y ∷ []) s) → Recorded q (x ∷ []) s
watched_turn q r s own public turn x h named same is sees =
    recorded_on q r s [] (x ∷ []) (record { rules = h.rules; aid = h.aid; had = h.had; marks = λ e. h.marks })
    (sees x (record {
      is = is;
      named = named ∙ ap (λ a. bytes_eq x.chain.frame.name a.now) (sym h.aid);
      public = λ o e. h.seen o e ∙ ap (λ u. public_seen (log_rules u.now) public) (sym h.rules) ∙ ap (public_seen (log_rules r.rules.now)) same;
    }))

-- ---- ends

-- a reply is no abend
pub not_abend : (e : Option End) (f : End) → e ≡ Some f → f ≡ end.Reply → (a : Abend) → e ≢ Some (end.Abend a)
not_abend e f is reply a h = cc (is, reply, h)

-- an instruction that was done
done_logged : (r : LogRules) (on : Bool) (public : List ℕ) (t : ModelTurn) (e : Option End) (o : Outcome) (g : Log) → ((a : Abend) → e ≢ Some (end.Abend a)) → AgreesWithEnd e o
    → log_end r on public t (option_map outcome_value (end_outcome e o)) g ≡ log_done r on public (turn_text t) (mode_in t.ins) g
done_logged r on public t None o g not h = refl
done_logged r on public t (Some end.Reply) (outcome.Reply p) g not h = refl
done_logged r on public t (Some end.Reply) (outcome.Abend a) g not h = absurd h
done_logged r on public t (Some (end.Abend a)) o g not h = absurd (not a refl)

-- what is recorded of it
pub done_on_ok : {T E : Type 0} (result : Result T E) (g : Log) (r : LogRules) (on : Bool) (public : List ℕ) (t : ModelTurn) (e : Option End) (o : Outcome) (h : Log) → ((a : Abend) → e ≢ Some (end.Abend a)) → AgreesWithEnd e o
    → t.end ≡ option_map outcome_value (end_outcome e o) → OnOk result (g ≡ log_done r on public (turn_text t) (mode_in t.ins) h) → OnOk result (g ≡ log_end r on public t t.end h)
done_on_ok result g r on public t e o h not agrees is k =
    subst (λ (l : Log). OnOk result (g ≡ l)) (sym (ap (λ (p : Option ModelOutcome). log_end r on public t p h) is ∙ done_logged r on public t e o h not agrees)) k

-- what holds of a call that went well
pub went_well : {T E : Type 0} (result : Result T E) (P : Type 0) → is_err result ≡ false → OnOk result P → P
went_well (Err e) P went k = absurd (cc went)
went_well (Ok v) P went k = k

-- ---- events

unspent : (i : Option Ins) (c : Abend) → (i ≡ None → c ≡ abend.A07 → ⊥) → is_spent i c ≡ false
unspent None abend.A07 h = absurd (h refl refl)
unspent None _ h = refl
unspent (Some i) c h = refl

-- a turn of the application is logged as its event
shown_event : (r : LogRules) (on : Bool) (ch : Chain) (t : ModelTurn) (e : Option ModelOutcome) (v : Option Event) (g : Log) → Shows ch t e v → log_end r on ch.public t e g ≡ log_event r on v g
shown_event r on ch t (Some (Abended c)) None g h =
    ap (λ (i : Option Ins). cond (is_spent i c) g (log_abend r g)) h.0 ∙ ap (λ (a : Abend). cond (is_spent None a) g (log_abend r g)) h.1
shown_event r on ch t (Some (Abended c)) (Some (Failed at cause)) g h = ap (λ (b : Bool). cond b g (log_abend r g)) (unspent t.ins c h.1)
shown_event r on ch t (Some (Abended c)) (Some (Did d)) g h = absurd h
shown_event r on ch t (Some (Abended c)) (Some (Commanded b)) g h = absurd h
shown_event r on ch t (Some (Abended c)) (Some (Answers b o)) g h = absurd h
shown_event r on ch t (Some (Abended c)) (Some Session) g h = absurd h
shown_event r on ch t None (Some (Did d)) g h =
    ap (λ (p : List ℕ). log_done r on p (turn_text t) (mode_in t.ins) g) (sym h.public) ∙ ap (λ (x : List ℕ). log_done r on d.public x (mode_in t.ins) g) h.text ∙ ap (λ (i : Option Ins). log_done r on d.public (line_of_deed d) (mode_in i) g) h.ins
shown_event r on ch t (Some (Reply body sw)) (Some (Did d)) g h =
    ap (λ (p : List ℕ). log_done r on p (turn_text t) (mode_in t.ins) g) (sym h.public) ∙ ap (λ (x : List ℕ). log_done r on d.public x (mode_in t.ins) g) h.text ∙ ap (λ (i : Option Ins). log_done r on d.public (line_of_deed d) (mode_in i) g) h.ins
shown_event r on ch t None None g h = absurd h
shown_event r on ch t None (Some (Failed at cause)) g h = absurd h
shown_event r on ch t None (Some (Commanded b)) g h = absurd h
shown_event r on ch t None (Some (Answers b o)) g h = absurd h
shown_event r on ch t None (Some Session) g h = absurd h
shown_event r on ch t (Some (Reply body sw)) None g h = absurd h
shown_event r on ch t (Some (Reply body sw)) (Some (Failed at cause)) g h = absurd h
shown_event r on ch t (Some (Reply body sw)) (Some (Commanded b)) g h = absurd h
shown_event r on ch t (Some (Reply body sw)) (Some (Answers b o)) g h = absurd h
shown_event r on ch t (Some (Reply body sw)) (Some Session) g h = absurd h

own_event : (own : Bool) (r : LogRules) (on : Bool) (name : List ℕ) (n : ℕ) (ch : Chain) (g : Log) → own ≡ bytes_eq ch.frame.name name → log_own own r on ch.public (turn_of n ch).turn g ≡ log_event r on (event_of (rule_watch name) n ch) g
own_event true r on name n ch g e = shown_event r on ch (turn_of n ch).turn (turn_of n ch).turn.end (event_of (rule_watch name) n ch) g (own_turn name n ch (sym e))
own_event false r on name n ch g e = ap (λ (v : Option Event). log_event r on v g) (sym (other_turn name n ch (sym e)))

-- a turn: it is recorded if it is the application's, the protection is set, and it is counted
pub turn_recorded : (q s p n : Recorder) (turn : Turn) (own on : Bool) (x : Sight) → on ≡ get_or q.opens (turn.depth - 1) false → s.rules ≡ q.rules → s.aid ≡ q.aid → s.opens ≡ q.opens → (s.is_short ≡ false → q.is_short ≡ false)
    → (s.is_short ≡ false → log_of s ≡ log_own own (log_rules q.rules.now) on x.chain.public (turn_of x.left x.chain).turn (log_of q))
    → p.rules ≡ s.rules → p.aid ≡ s.aid → p.is_short ≡ s.is_short → log_of p ≡ log_of s → p.opens ≡ opens_by (turn.depth - 1) turn.ins s.opens → Stays p n → log_of n ≡ log_counted (log_of p) → IsSight q turn own x → Recorded q (x ∷ []) n
turn_recorded q s p n turn own on x is_on rules aid opens had sees rules_p aid_p short_p log_p opens_p counted count_log h =
    let t : ModelTurn = (turn_of x.left x.chain).turn in
    let depth : t.depth ≡ turn.depth = ap (λ (u : ModelTurn). u.depth) h.is in
    let deep : t.depth ≡ length x.chain.below + 1 = turn_depth x.left x.chain in
    let place : turn.depth - 1 ≡ length x.chain.below = omega (arith, depth, deep) in
    let set : n.opens ≡ opens_by (length x.chain.below) t.ins q.opens =
    counted.opens ∙ opens_p ∙ ap (λ (os : List Bool). opens_by (turn.depth - 1) turn.ins os) opens ∙ ap (λ (k : ℕ). opens_by k turn.ins q.opens) place ∙ ap (λ (i : Option Ins). opens_by (length x.chain.below) i q.opens) (sym (ap (λ (u : ModelTurn). u.ins) h.is)) in
    record {
      rules = counted.rules ∙ rules_p ∙ rules;
      aid = counted.aid ∙ aid_p ∙ aid;
      had = λ e. had (sym short_p ∙ sym counted.is_short ∙ e);
      marks = λ e.
          ap (λ (os : List Bool). record { opens = os; log = log_of n }) set
          ∙ ap (λ (g : Log). record { opens = opens_by (length x.chain.below) t.ins q.opens; log = g }) (
          count_log
          ∙ ap log_counted (
          log_p ∙ sees (sym short_p ∙ sym counted.is_short ∙ e) ∙ own_event own (log_rules q.rules.now) on q.aid.now x.left x.chain (log_of q) h.named
          ∙ ap (λ (b : Bool). log_event (log_rules q.rules.now) b (event_of (rule_watch q.aid.now) x.left x.chain) (log_of q)) (is_on ∙ ap (λ (k : ℕ). get_or q.opens k false) place)
          )
          );
    }

-- a place that is not there is not set
pub set_past : (os : List Bool) (i : ℕ) (b : Bool) → length os ≡ i → slice_set os i b ≡ os
set_past [] i b h = refl
set_past (o ∷ os) zero b h = absurd (cc h)
set_past (o ∷ os) (suc i) b h = ap (λ (l : List Bool). o ∷ l) (set_past os i b (cc h))

-- ---- protection

-- an event is logged by the protection of its frame
pub event_on : (r : LogRules) (ch : Chain) (t : ModelTurn) (e : Option ModelOutcome) (v : Option Event) (b : Bool) (g : Log) → Shows ch t e v → b ≡ ch.frame.protected → log_event r b v g ≡ log_event r (is_protected v) v g
event_on r ch t e None b g h k = refl
event_on r ch t e (Some (Failed at cause)) b g h k = refl
event_on r ch t e (Some (Commanded x)) b g h k = refl
event_on r ch t e (Some (Answers x o)) b g h k = refl
event_on r ch t e (Some Session) b g h k = refl
event_on r ch t None (Some (Did d)) b g h k = ap (λ (on : Bool). log_event r on (Some (Did d)) g) (k ∙ sym (ap (λ f. f.protected) h.frame))
event_on r ch t (Some (Reply body sw)) (Some (Did d)) b g h k = ap (λ (on : Bool). log_event r on (Some (Did d)) g) (k ∙ sym (ap (λ f. f.protected) h.frame))
event_on r ch t (Some (Abended c)) (Some (Did d)) b g h k = absurd h

pub turn_on : (r : LogRules) (name : List ℕ) (n : ℕ) (ch : Chain) (b : Bool) (g : Log) → b ≡ ch.frame.protected → (let v = event_of (rule_watch name) n ch in log_event r b v g ≡ log_event r (is_protected v) v g)
turn_on r name n ch b g k = by_name (bytes_eq ch.frame.name name) refl
  where
    by_name : (own : Bool) → bytes_eq ch.frame.name name ≡ own → (let v = event_of (rule_watch name) n ch in log_event r b v g ≡ log_event r (is_protected v) v g)
    by_name true e = event_on r ch (turn_of n ch).turn (turn_of n ch).turn.end (event_of (rule_watch name) n ch) b g (own_turn name n ch e) k
    by_name false e =
        ap (λ (v : Option Event). log_event r b v g) (other_turn name n ch e) ∙ sym (ap (λ (v : Option Event). log_event r (is_protected v) v g) (other_turn name n ch e))
