-- One line of a play on a running card keeps the relation, and both sides have equal results and work.
use Rattle.std.specs.Prelude.{◌≡◌, ℕ, Bool, true, false, ◌&&◌, List, [], ◌∷◌, ◌++◌, Option, Some, None}
use Rattle.std.proofs.Common.{arith, refl, ap, sym, subst, ◌∙◌}
use Rattle.model_play.specs.model_device.specs.declared.device.Stop.{Stop}
use Rattle.model_play.specs.model_device.specs.declared.device.Stop.TheVariants as stop
use Rattle.model_play.specs.model_device.specs.Image.{Journal}
use Rattle.model_play.specs.model_device.specs.Card.{App, Card}
use Rattle.model_play.specs.model_card.specs.Items.{moves, apps_after_items, StopAt, at_stop}
use Rattle.model_play.specs.model_card.specs.Manager.{SessionState, route}
use Rattle.model_play.specs.Play.{Armed, Running, Warm, AfterPower, Answered, command_step, hit_of, live_after, FailedWrite}
use Rattle.model_play.specs.model_device.specs.PowerUp.{Base, OnCard}
use Rattle.model_play.specs.model_card.specs.Commands.{Command, command}
use Rattle.model_play.specs.Family.{ClosedPairs, routes_in, command_of}
use Rattle.model_play.specs.Given.{Event, Commands, given_stop, events_of_items, is_left, leave_event_if, is_done_reply, is_foreign_select, line_events, command_event}
use Rattle.model_play.specs.Solo.{Solo, Heard, silent, hears, heard_before, hears_all, solo_hit, heard_command, solo_command}
use Rattle.model_play.specs.DeckGrammar.{DeckLine}
use Rattle.law_family.proofs.Agreement.{MapsAgree, agree_done}
use Rattle.law_family.proofs.Sim.{own_selected, IsRunnable, Simulates, KeepsSimulation, hears_all_append, hears_none, hears_leave}
use Rattle.law_family.proofs.Stops.{FailsWithin, hits_given, whole_others, StillAgrees, reported_alike}
use Rattle.law_family.proofs.OwnCommand.{alone, own_command}
use Rattle.law_family.proofs.OtherCommand.{unless, Other, other_command}

-- ---- a command of the family

hears_command : (t : Solo) (bytes : List ℕ) (budget : ℕ) (s : Option StopAt) → hears_all t (Commands bytes budget s ∷ []) ≡ heard_before (heard_command t (solo_command t bytes budget) s) (silent (heard_command t (solo_command t bytes budget) s).after)
unfolding hears_all hears
hears_command t bytes budget s = refl

pub no_selection : (K : List (List ℕ)) (k : Stop) → own_selected K (live_after k) ≡ None
no_selection K stop.Off = refl
no_selection K stop.Worn = refl

pub stopped_runs : (k : Stop) (b : Base) → IsRunnable (live_after k) b
stopped_runs stop.Off b = tt
stopped_runs stop.Worn b = tt

-- a running card
abbrev pub running : Card → ℕ → Journal → SessionState → ℕ → Armed → Warm
running c owed by session_state budget armed = record { base = OnCard c; owed = owed; by = by; live = Running session_state; budget = budget; armed = armed }

module _ (K : List (List ℕ)) (c : Card) (owed : ℕ) (by : Journal) (session_state : SessionState) (budget : ℕ) (armed : Armed) (t : Solo) where
  -- what the lone card hears of a command that does what it does in the play, hit by this stop
  hit_keeps : (n : ℕ) (l : DeckLine) (r : Command) (s : Option StopAt) (es : List Event) → MapsAgree K true c.apps t.map
      → hears_all t es ≡ heard_before (solo_hit t (alone K r) s) (silent (solo_hit t (alone K r) s).after)
      → KeepsSimulation K t (command_step n l (running c owed by session_state budget armed) c r s) es true true
  hit_keeps n l r s es agree e = grind (arith, Simulates, agree_done, stopped_runs, no_selection)

  -- the events of a line that is the family's
  own_keeps : (n : ℕ) (l : DeckLine) (bytes : List ℕ) (w : Option FailedWrite) → let r = command c session_state bytes budget in
      Simulates K (AfterPower (running c owed by session_state budget armed)) t → FailsWithin (moves r.items) w → routes_in K session_state (route bytes) ≡ true → ClosedPairs K r.pairs
      → let s = hit_of armed (moves r.items) w in KeepsSimulation K t (command_step n l (running c owed by session_state budget armed) c r s) (Commands bytes budget (given_stop armed s) ∷ []) true true
  own_keeps n l bytes w sim within own closed =
      let r = command c session_state bytes budget in
      let s = hit_of armed (moves r.items) w in
      let same : solo_command t bytes budget ≡ alone K r = own_command K c session_state t sim.selected bytes budget own sim.map closed in
      let hit : heard_command t (solo_command t bytes budget) (given_stop armed s) ≡ solo_hit t (alone K r) s = grind (arith, alone, hits_given) in
      hit_keeps n l r s (Commands bytes budget (given_stop armed s) ∷ []) sim.map
      (hears_command t bytes budget (given_stop armed s) ∙ ap (λ (h : Heard). heard_before h (silent h.after)) hit)

  -- ---- a line that is none of the family's

  left_heard : (b : Bool) (s : Solo) → hears_all s (leave_event_if b) ≡ silent (record s { selected = unless b s.selected })
  left_heard true s = hears_leave s
  left_heard false s = hears_none s

  reported_left : (m : List (List ℕ × App)) (es : List Event) (b : Bool) (r : StillAgrees K t m es) → hears_all t (es ++ leave_event_if b) ≡ silent (record { map = r.map; selected = unless b t.selected })
  reported_left m es b r = grind (arith, hears_all_append, left_heard)

  -- a line that changes others' applications alone
  pub other_keeps : (n : ℕ) (l : DeckLine) (r : Command) (s : Option StopAt) → Simulates K (AfterPower (running c owed by session_state budget armed)) t
      → Other K session_state (is_foreign_select K (command_of l) && is_done_reply (Some (Answered r.outcome))) r
      → let u = command_step n l (running c owed by session_state budget armed) c r s in KeepsSimulation K t u (events_of_items K u.whole ++ leave_event_if (is_left K u)) false false
  other_keeps n l r None sim h =
      let u = command_step n l (running c owed by session_state budget armed) c r None in
      let reported_all : StillAgrees K t (apps_after_items c.apps r.items) (events_of_items K r.items) = reported_alike K r.items t c.apps h.others sim.map in
      let left = is_foreign_select K (command_of l) && is_done_reply (Some (Answered r.outcome)) in
      let e : hears_all t (events_of_items K r.items ++ leave_event_if left) ≡ silent (record { map = reported_all.map; selected = unless left t.selected }) = reported_left (apps_after_items c.apps r.items) (events_of_items K r.items) left reported_all in
      record {
        sim = grind (arith, Simulates, unless);
        answer = ap (λ (h : Heard). h.answer) e;
        work = ap (λ (h : Heard). h.work) e;
      }
  other_keeps n l r (Some s) sim h =
      let u = command_step n l (running c owed by session_state budget armed) c r (Some s) in
      let whole = (at_stop r.items s.at s.left).whole in
      let reported_all : StillAgrees K t (apps_after_items c.apps whole) (events_of_items K whole) = reported_alike K whole t c.apps (whole_others K r.items s.at s.left h.others) sim.map in
      let e : hears_all t (events_of_items K whole ++ leave_event_if true) ≡ silent (record { map = reported_all.map; selected = None }) = reported_left (apps_after_items c.apps whole) (events_of_items K whole) true reported_all in
      record {
        sim = grind (arith, Simulates, stopped_runs, no_selection);
        answer = ap (λ (h : Heard). h.answer) e;
        work = ap (λ (h : Heard). h.work) e;
      }

  -- ---- one command, of the family or not

  pub command_keeps : (n : ℕ) (l : DeckLine) (bytes : List ℕ) (w : Option FailedWrite) (own : Bool) → let r = command c session_state bytes budget in
      let u = command_step n l (running c owed by session_state budget armed) c r (hit_of armed (moves r.items) w) in
      command_of l ≡ Some bytes → Simulates K (AfterPower (running c owed by session_state budget armed)) t → FailsWithin (moves r.items) w → routes_in K session_state (route bytes) ≡ own → ClosedPairs K r.pairs
      → KeepsSimulation K t u (line_events own K u) own own
  command_keeps n l bytes w true e sim within own closed =
      let r = command c session_state bytes budget in
      let u = command_step n l (running c owed by session_state budget armed) c r (hit_of armed (moves r.items) w) in
      subst (λ (o : Option (List ℕ)). KeepsSimulation K t u (command_event u o) true true) (sym e) (own_keeps n l bytes w sim within own closed)
  command_keeps n l bytes w false e sim within own closed =
      let r = command c session_state bytes budget in
      let h = subst (λ (o : Option (List ℕ)). Other K session_state (is_foreign_select K o && is_done_reply (Some (Answered r.outcome))) r) (sym e) (other_command K c session_state bytes budget own closed) in
      other_keeps n l r (hit_of armed (moves r.items) w) sim h
