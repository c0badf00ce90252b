-- The totals that power would leave, after a history: events that are no instructions keep them, and with them what
-- tables of facts cover is what both tables cover.
use Rattle.std.specs.Prelude.{◌≡◌, ℕ, Bool, true, false, nat_lt, List, [], ◌∷◌, Option, Some, None, Result, Ok, Err}
use Rattle.std.proofs.Common.{arith, subst}
use Rattle.law_prove_closed.specs.model_text.specs.Text.{◌>>=◌}
use Rattle.law_prove_closed.specs.model_machine.specs.declared.machine.Abend.{Abend}
use Rattle.law_prove_closed.specs.model_machine.specs.declared.machine.Abend.TheVariants.{A09}
use Rattle.law_prove_closed.specs.model_machine.specs.Frame.{Frame, Effect, session_of, la_of}
use Rattle.law_prove_closed.specs.model_machine.specs.Primitives.{Exits, Done}
use Rattle.law_prove_closed.specs.model_machine.specs.Chain.{Outcome, Abended}
use Rattle.law_prove_closed.specs.model_rules.specs.model_events.specs.Deeds.{Deed}
use Rattle.law_prove_closed.specs.law_promise.specs.History.{with_event, is_too_long, done_event}
use Rattle.law_prove_closed.specs.law_promise.specs.Outline.{Entry, BySelection, ByDelegation, is_direct}
use Rattle.law_prove_closed.specs.law_promise.specs.Domain.{EndCovered, StopCovered, WriteCovered, DeedCovered, AbendCovered, exit_outcome}
use Rattle.law_prove_closed.specs.model_rules.specs.Rules.{AppRules, Target}
use Rattle.law_prove_closed.specs.model_rules.specs.Happenings.{Event, Did, Failed, Session, History, rule_watch}
use Rattle.law_prove_closed.specs.model_rules.specs.Keeping.{Break, Standing, are_totals, after_event, standing_after}
use Rattle.law_prove_closed.specs.law_rules.specs.Law.{domain_of_rules}
use Rattle.law_prove_closed.specs.model_prove.specs.Keys.{Tables}
use Rattle.law_prove_closed.specs.model_prove.specs.Arrivals.{Setting}
use Rattle.law_prove_closed.specs.law_prove.specs.Coverings.{IsMoment, covering_of}
use Rattle.law_sums.specs.model_sums.specs.Sums.{SumsTable}
use Rattle.law_sum_plays.specs.Laws.{IsQuiet}
use Rattle.law_sum_plays.specs.Coverings.{IsSumMoment, sums_covering_of}
use Rattle.law_sum_plays.proofs.Standings.{one_standing, quiet_kept}

-- after a history each total holds of these static bytes and of the sums that power would leave
abbrev pub Keeps : Setting → History → List ℕ → Type 0
Keeps s h fixed = (y : Standing) → standing_after s.rules h ≡ Ok y → are_totals fixed y.kept s.rules.totals ≡ true

-- totals that hold of the standing after a history hold after it
pub keeps_of : (s : Setting) (h : History) (fixed : List ℕ) (x : Standing) → standing_after s.rules h ≡ Ok x → are_totals fixed x.kept s.rules.totals ≡ true → Keeps s h fixed
keeps_of s h fixed x is kept y other = subst (λ (z : Standing). are_totals fixed z.kept s.rules.totals ≡ true) (one_standing s.rules h x y is other) kept

-- what stood before an event
record Stood (r : AppRules) (h : History) : Type 0 where
  before : Standing
  is : standing_after r h ≡ Ok before

stood_by : (r : AppRules) (e : Event) (h : History) (z : Result Standing Break) (y : Standing) → standing_after r h ≡ z → (z >>= after_event r e) ≡ Ok y → Stood r h
stood_by r e h (Err b) y same is = absurd (cc is)
stood_by r e h (Ok x) y same is = record { before = x; is = same }

-- an event that is no instruction keeps the totals that power would leave
pub keeps_quiet : (s : Setting) (e : Event) (h : History) (fixed : List ℕ) → IsQuiet e → Keeps s h fixed → Keeps s (e ∷ h) fixed
keeps_quiet s e h fixed quiet keeps y is = grind (arith, stood_by, quiet_kept)

-- ---- moments

-- a moment of the tables of facts at which the totals hold is one of both tables
pub sum_moment : (s : Setting) (t : Tables) (x : Bool) (h : History) (fixed session : List ℕ) → IsMoment s t x h fixed session → Keeps s h fixed → IsSumMoment s t x h fixed session
sum_moment s t x h fixed session m keeps = record { moment = m; kept = keeps m.standing m.stands }

-- at a moment of both tables the totals hold
pub moment_keeps : (s : Setting) (t : Tables) (x : Bool) (h : History) (fixed session : List ℕ) → IsSumMoment s t x h fixed session → Keeps s h fixed
moment_keeps s t x h fixed session m = keeps_of s h fixed m.moment.standing m.moment.stands m.kept

module _ (r : AppRules) (g : Target) (t : Tables) (u : SumsTable) where
  abbrev setting : Setting
  setting = record { rules = r; app = g.app }

  -- the end of a frame
  pub ends_keep : (e : Entry Event) (k : History) (fixed session : List ℕ) (outcome : Outcome) → Keeps setting k fixed → EndCovered (domain_of_rules g (covering_of setting t)) e k fixed session outcome
      → EndCovered (domain_of_rules g (sums_covering_of setting t u)) e k fixed session outcome
  ends_keep e k fixed session outcome keeps m = grind (arith, sum_moment, keeps_quiet)

  -- a stop while it runs or waits
  pub stops_keep : (e : Entry Event) (k : History) (fixed : List ℕ) → Keeps setting k fixed → StopCovered (domain_of_rules g (covering_of setting t)) e k fixed → StopCovered (domain_of_rules g (sums_covering_of setting t u)) e k fixed
  stops_keep (BySelection bytes apdu before) k fixed keeps m = sum_moment setting t false (Session ∷ k) fixed [] m (keeps_quiet setting Session k fixed tt keeps)
  stops_keep ByDelegation k fixed keeps m = sum_moment setting t false k fixed [] m keeps

  -- a stop in a write
  pub write_keeps : (e : Entry Event) (h k : History) (f : Frame) (d : Done) (changes : Option (List (ℕ × List ℕ))) → Keeps setting h f.fixed → Keeps setting k d.effect.frame.fixed
      → WriteCovered (domain_of_rules g (covering_of setting t)) e h k f d changes → WriteCovered (domain_of_rules g (sums_covering_of setting t u)) e h k f d changes
  write_keeps e h k f d None before after m = tt
  write_keeps e h k f d (Some ps) before after m = (stops_keep e h f.fixed before m.0, stops_keep e k d.effect.frame.fixed after m.1)

  -- an abend of an instruction
  pub abend_keeps : (e : Entry Event) (k : History) (f : Frame) (cause : Abend) → Keeps setting k f.fixed → AbendCovered (domain_of_rules g (covering_of setting t)) e k f cause
      → AbendCovered (domain_of_rules g (sums_covering_of setting t u)) e k f cause
  abend_keeps e k f cause keeps m = record { ends = ends_keep e k f.fixed (session_of f) (Abended cause) keeps m.ends; stops = λ any. absurd any }

  -- the event of an exit: an abend, if its reply is too long
  exit_event_keeps : (b : Bool) (w : Deed) (h : History) (fixed : List ℕ) → Keeps setting h fixed → Keeps setting (Did w ∷ h) fixed → Keeps setting (with_event (done_event b (rule_watch g.name) w) h) fixed
  exit_event_keeps true w h fixed before after = keeps_quiet setting (Failed w.frame.at A09) h fixed tt before
  exit_event_keeps false w h fixed before after = after

  -- an exit that was done: it leaves the static bytes
  pub exit_keeps : (e : Entry Event) (h : History) (f : Frame) (d : Effect) (w : Deed) → Keeps setting h d.frame.fixed → Keeps setting (Did w ∷ h) d.frame.fixed → d.frame.fixed ≡ f.fixed
      → DeedCovered (domain_of_rules g (covering_of setting t)) e h (with_event (done_event (is_too_long (is_direct e) Exits d.public) (rule_watch g.name) w) h) f (record { effect = d; next = Exits })
      → DeedCovered (domain_of_rules g (sums_covering_of setting t u)) e h (with_event (done_event (is_too_long (is_direct e) Exits d.public) (rule_watch g.name) w) h) f (record { effect = d; next = Exits })
  exit_keeps (BySelection bytes apdu before) h f d w kept done same m =
      let b : Bool = nat_lt 1024 (la_of d.public) in
      let k : History = with_event (done_event b (rule_watch g.name) w) h in
      let after : Keeps setting k d.frame.fixed = exit_event_keeps b w h d.frame.fixed kept done in
      record {
        write = write_keeps (BySelection bytes apdu before) h k f (record { effect = d; next = Exits }) d.changes (subst (Keeps setting h) same kept) after m.write;
        next = (ends_keep (BySelection bytes apdu before) k d.frame.fixed (session_of f) (exit_outcome apdu d.public) after m.next.0, m.next.1, λ any. absurd any);
      }
  exit_keeps ByDelegation h f d w kept done same m =
      record {
        write = write_keeps ByDelegation h (Did w ∷ h) f (record { effect = d; next = Exits }) d.changes (subst (Keeps setting h) same kept) done m.write;
        next = sum_moment setting t false (Did w ∷ h) d.frame.fixed [] m.next done;
      }
