-- The law of isolation for a family, by induction on the lines of a play.
use Rattle.std.specs.Prelude.{◌≡◌, ◌⊎◌, ℕ, zero, suc, Bool, true, false, cond, ◌&&◌, List, [], ◌∷◌, ◌++◌, take, bytes_eq, Option, Some, None, ⊤}
use Rattle.std.proofs.Common.{arith, refl, ap, sym, subst, ◌∙◌, inl, inr}
use Rattle.model_play.specs.model_device.specs.Bytes.{has_name, lookup}
use Rattle.model_play.specs.model_device.specs.Card.{App, app_at_place}
use Rattle.model_play.specs.model_card.specs.Items.{Item, StopAt}
use Rattle.model_play.specs.Play.{Armed, State, BeforePower, AfterPower, LineResult, Step, FailedWrite, MayHit, Possible, step, before_power_step, hit_of, power_moves, power_after, play_at_power, plays, last_state, start}
use Rattle.model_play.specs.Family.{ClosedPairs, Closed, is_own}
use Rattle.model_play.specs.Given.{Event, own_apps, apps_in, is_power, first_apps, events_of, events, dump_events}
use Rattle.model_play.specs.Solo.{Solo, Heard, silent, heard_before, hears_all}
use Rattle.model_play.specs.View.{is_seen, results_if, answers, work_if, work, IsIsolated}
use Rattle.model_play.specs.DeckGrammar.{DeckLine}
use Rattle.model_play.specs.DeckGrammar as line
use Rattle.law_family.proofs.Agreement.{bare, MapsAgree}
use Rattle.law_family.proofs.Sim.{Simulates, LineKeepsSimulation, hears_all_append, hears_none, rest_alike}
use Rattle.law_family.proofs.AfterPowerLines.{after_power_kept, SameAfterPower, powered, power_keeps}
use Rattle.model_play.specs.model_device.proofs.MapLemmas.{same_name}
use Rattle.model_play.specs.model_device.proofs.BoolLemmas.{and_false}

-- the lone card hears of these lines what the play has of them, and the maps agree after them
record HearsAlike (K : List (List ℕ)) (t : Solo) (s : State) (us : List Step) : Type 0 where
  answer : (hears_all t (events K us)).answer ≡ answers K us
  work : (hears_all t (events K us)).work ≡ work K us
  map : MapsAgree K true (apps_in (last_state s us)) (hears_all t (events K us)).after.map

module _ (K : List (List ℕ)) where
  none_alike : (t : Solo) (s : State) → MapsAgree K true (apps_in s) t.map → HearsAlike K t s []
  unfolding hears_all events answers work
  none_alike t s h = record { answer = refl; work = refl; map = h }

  -- a line, and those after it
  then_alike : (t : Solo) (s : State) (u : Step) (us : List Step)
      → (hears_all t (events_of K u u.line)).answer ≡ results_if (is_seen K u u.line) u.result → (hears_all t (events_of K u u.line)).work ≡ work_if (is_own K u) u
      → HearsAlike K (hears_all t (events_of K u u.line)).after u.after us → HearsAlike K t s (u ∷ us)
  unfolding events answers work
  then_alike t s u us reported worked r =
      let h = hears_all t (events_of K u u.line) in
      let e : hears_all t (events_of K u u.line ++ events K us) ≡ heard_before h (hears_all h.after (events K us)) = hears_all_append t (events_of K u u.line) (events K us) in
      record {
        answer = ap (λ (z : Heard). z.answer) e ∙ (ap (λ (z : List LineResult). z ++ (hears_all h.after (events K us)).answer) reported ∙ ap (λ (z : List LineResult). results_if (is_seen K u u.line) u.result ++ z) r.answer);
        work = ap (λ (z : Heard). z.work) e ∙ (ap (λ (z : List (List Item × Option StopAt)). z ++ (hears_all h.after (events K us)).work) worked ∙ ap (λ (z : List (List Item × Option StopAt)). work_if (is_own K u) u ++ z) r.work);
        map = subst (λ (z : Heard). MapsAgree K true (apps_in (last_state u.after us)) z.after.map) (sym e) r.map;
      }

  -- ---- from the first power line on

  step_kept : (s : State) (t : Solo) (l : ℕ × DeckLine) (w : Option FailedWrite) → Simulates K s t → MayHit s l w → ClosedPairs K (step s l w).pairs → LineKeepsSimulation K t (step s l w)
  unfolding step
  step_kept (BeforePower m b a) t l w sim may closed = absurd sim.warm
  step_kept (AfterPower s) t l w sim may closed = after_power_kept K t l.0 s.owed s.by s.budget s.armed l.1 w s.base s.live sim may closed

  warm_alike : (n : ℕ) (ls : List (ℕ × DeckLine)) (ws : List (Option FailedWrite)) (s : State) (t : Solo) → Simulates K s t → Possible s ls ws → Closed K (take n (plays s ls ws)) → HearsAlike K t s (take n (plays s ls ws))
  unfolding plays
  warm_alike zero ls ws s t sim may closed = none_alike t s sim.map
  warm_alike (suc n) [] ws s t sim may closed = none_alike t s sim.map
  warm_alike (suc n) (l ∷ ls) [] s t sim may closed = absurd may
  warm_alike (suc n) (l ∷ ls) (w ∷ ws) s t sim may closed =
      let u = step s l w in
      let k : LineKeepsSimulation K t u = step_kept s t l w sim may.0 closed.0 in
      then_alike t s u (take n (plays u.after ls ws)) k.answer k.work (warm_alike n ls ws u.after (hears_all t (events_of K u u.line)).after k.sim may.1 closed.1)

  -- ---- before it

  abbrev IsBeforePower : State → Type 0
  IsBeforePower (BeforePower m b a) = ⊤
  IsBeforePower (AfterPower s) = ⊥

  -- a line without an event
  record GivesNoEvent (u : Step) : Type 0 where
    power : is_power u.line ≡ false
    none : events_of K u u.line ≡ []
    seen : is_seen K u u.line ≡ false
    own : is_own K u ≡ false
    before_power : IsBeforePower u.after

  -- the first power line, once the lone card has the family's applications that it finds
  record First (u : Step) : Type 0 where
    power : is_power u.line ≡ true
    kept : (t : Solo) → MapsAgree K true (apps_in u.after) t.map → LineKeepsSimulation K t u

  no_dump : (b : Bool) (n : List ℕ) → dump_events (b && false) n ≡ []
  no_dump true n = refl
  no_dump false n = refl

  before_power_line : (n : ℕ) (l : DeckLine) (m : List (List ℕ)) (b : ℕ) (a : Armed) (w : Option FailedWrite) → GivesNoEvent (before_power_step n l m b a w) ⊎ First (before_power_step n l m b a w)
  before_power_line n (line.Dump x) m b a w = inl (record { power = refl; none = no_dump (has_name x K) x; seen = and_false (has_name x K); own = refl; before_power = tt })
  before_power_line n line.Power m b a w =
      let s = play_at_power m b a in
      let st = hit_of a (power_moves s) w in
      let p : SameAfterPower K s (power_after s st) = powered K s st in
      inr (record {
        power = refl;
        kept = λ t h. power_keeps K t n (BeforePower m b a) s st refl (subst (λ (z : List (List ℕ × App)). MapsAgree K true z t.map) p.map h);
      })
  before_power_line n _ m b a w = inl (record { power = refl; none = refl; seen = refl; own = refl; before_power = tt })

  before_power_step_first : (s : State) (l : ℕ × DeckLine) (w : Option FailedWrite) → IsBeforePower s → GivesNoEvent (step s l w) ⊎ First (step s l w)
  unfolding step
  before_power_step_first (BeforePower m b a) l w c = before_power_line l.0 l.1 m b a w
  before_power_step_first (AfterPower s) l w c = absurd c

  -- ---- the family's applications on the first card

  own_here : (x y : Bool) (e : List ℕ × App) (es : List (List ℕ × App)) (k : List ℕ) → has_name k K ≡ true → has_name e.0 K ≡ x → bytes_eq e.0 k ≡ y → bare (lookup es k) ≡ bare (lookup (own_apps K es) k)
      → bare (cond y (Some e.1) (lookup es k)) ≡ bare (lookup (cond x ((e.0, app_at_place 0 e.1) ∷ own_apps K es) (own_apps K es)) k)
  own_here x y e es k on p q r = grind (arith, bare, same_name)

  own_apps_agree : (m : List (List ℕ × App)) → MapsAgree K true m (own_apps K m)
  own_apps_agree [] k on = refl
  own_apps_agree (e ∷ es) k on = own_here (has_name e.0 K) (bytes_eq e.0 k) e es k on refl refl (own_apps_agree es k on)

  -- ---- all lines

  abbrev first_solo : List Step → Solo
  first_solo us = record { map = own_apps K (first_apps us); selected = None }

  silent_alike : (s : State) (u : Step) (us : List Step) → GivesNoEvent u → HearsAlike K (first_solo us) u.after us → HearsAlike K (first_solo (u ∷ us)) s (u ∷ us)
  silent_alike s u us h r =
      let t = first_solo us in
      let e : hears_all t (events_of K u u.line) ≡ silent t = ap (λ (es : List Event). hears_all t es) h.none ∙ hears_none t in
      let whole : HearsAlike K t s (u ∷ us) =
      then_alike t s u us (ap (λ (z : Heard). z.answer) e ∙ sym (ap (λ (b : Bool). results_if b u.result) h.seen)) (ap (λ (z : Heard). z.work) e ∙ sym (ap (λ (b : Bool). work_if b u) h.own))
      (subst (λ (z : Heard). HearsAlike K z.after u.after us) (sym e) r)
      in
      subst (λ (b : Bool). HearsAlike K (record { map = own_apps K (cond b (apps_in u.after) (first_apps us)); selected = None }) s (u ∷ us)) (sym h.power) whole

  before_power_alike : (n : ℕ) (ls : List (ℕ × DeckLine)) (ws : List (Option FailedWrite)) (s : State) → IsBeforePower s → Possible s ls ws → Closed K (take n (plays s ls ws)) → HearsAlike K (first_solo (take n (plays s ls ws))) s (take n (plays s ls ws))
  unfolding plays
  before_power_alike zero ls ws (BeforePower m b a) c may closed = none_alike (record { map = []; selected = None }) (BeforePower m b a) (λ k on. refl)
  before_power_alike (suc n) [] ws (BeforePower m b a) c may closed = none_alike (record { map = []; selected = None }) (BeforePower m b a) (λ k on. refl)
  before_power_alike (suc n) (l ∷ ls) [] (BeforePower m b a) c may closed = absurd may
  before_power_alike (suc n) (l ∷ ls) (w ∷ ws) (BeforePower m b a) c may closed =
      let s = BeforePower m b a in
      let u = step s l w in
      let us = take n (plays u.after ls ws) in
      elim (before_power_step_first s l w tt) [
        | inl h ↦ silent_alike s u us h (before_power_alike n ls ws u.after h.before_power may.1 closed.1)
        | inr h ↦
            let t : Solo = record { map = own_apps K (apps_in u.after); selected = None } in
            let k : LineKeepsSimulation K t u = h.kept t (own_apps_agree (apps_in u.after)) in
            let whole : HearsAlike K t s (u ∷ us) = then_alike t s u us k.answer k.work (warm_alike n ls ws u.after (hears_all t (events_of K u u.line)).after k.sim may.1 closed.1) in
            subst (λ (b : Bool). HearsAlike K (record { map = own_apps K (cond b (apps_in u.after) (first_apps us)); selected = None }) s (u ∷ us)) (sym h.power) whole
      ]
  before_power_alike n ls ws (AfterPower s) c may closed = absurd c

  -- family isolation, with equal items and stops, for every front of a play
  pub isolated : (n : ℕ) (ls : List (ℕ × DeckLine)) (m : List (List ℕ)) (ws : List (Option FailedWrite)) → Possible (start m) ls ws → Closed K (take n (plays (start m) ls ws)) → IsIsolated K (start m) (take n (plays (start m) ls ws))
  isolated n ls m ws may closed = grind (arith, before_power_alike, rest_alike)
