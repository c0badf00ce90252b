-- A play on a card that may already hold the application: each line keeps what the domain covers.
use Rattle.std.proofs.Common.{◌≡◌, ℕ, ◌-◌, Bool, true, false, cond, List, [], ◌∷◌, drop, Option, Some, None, refl, sym, subst, arith}
use Rattle.std.specs.Prelude.{◌⊎◌, nat_le}
use Rattle.std.specs.List.{AllByRecursion}
use Rattle.model_events.specs.model_device.specs.Bytes.{lookup}
use Rattle.model_events.specs.model_device.specs.Image.{One}
use Rattle.model_events.specs.model_device.specs.PowerUp.{Base, base_after_migration}
use Rattle.model_events.specs.model_device.specs.Stopped.{stands}
use Rattle.law_bytes.specs.model_card.specs.Items.{StopAt}
use Rattle.law_bytes.specs.model_play.specs.DeckGrammar.{DeckLine}
use Rattle.law_bytes.specs.model_play.specs.DeckGrammar as line
use Rattle.law_bytes.specs.model_play.specs.Given.{apps_on, apps_in}
use Rattle.law_bytes.specs.model_play.specs.Play.{Armed, Unpowered, Warm, State, BeforePower, AfterPower, FailedWrite, Step, hit_of, power_moves, stopped_power, power_after, before_power_step, play_at_power, step, plays, first_failure, start}
use Rattle.law_bytes.specs.model_play.specs.ReadyAgain.{IsLine}
use Rattle.law_bytes.specs.model_play.proofs.PlayLemmas.{step_is}
use Rattle.law_bytes.specs.OfPlays.{IsByteState}
use Rattle.law_bytes.proofs.PlayBytes.{step_bytes}
use Rattle.law_promise.specs.History.{with_event, after_step}
use Rattle.law_promise.specs.Along.{BringsOnly, FindsNone}
use Rattle.law_promise.specs.Domain.{Domain, IsSound, IdleCovered, BaseCovered, StateCovered, LineCovered, StopsAtWrite}
use Rattle.law_promise.specs.Found.{AlongFound, BringsCovered, IsCoveredFrom, LineFound, StateFound}
use Rattle.law_promise.proofs.Lines.{after_power, base_ended, step_kept, stopped_is}

-- a line before the first power line, or that line
early : (m : List (List ℕ)) (b : ℕ) (a : Armed) (l : ℕ × DeckLine) (w : Option FailedWrite) → step (BeforePower m b a) l w ≡ before_power_step l.0 l.1 m b a w
unfolding step
early m b a l w = refl

module _ {E : Type 0} (o : Domain E) (shown : IsSound o) where
  -- ---- the first card

  found_migrated : (x : Bool) (h : List E) (b : Base) → IdleCovered o h (lookup (apps_on (cond x (base_after_migration b) b)) o.watch.name) → BaseCovered o h b Unpowered
  found_migrated x h b g = grind arith

  found_stopped : (x : Bool) (h : List E) (s : Warm) (t : StopAt) → IdleCovered o h (lookup (apps_in (AfterPower (stopped_power s t x))) o.watch.name) → BaseCovered o h s.base Unpowered
  found_stopped true h s t g = found_migrated false h s.base g
  found_stopped false h s t g = found_migrated (stands One 1 (t.at - s.owed) t.left) h s.base g

  found_by : (h : List E) (s : Warm) (t : Option StopAt) → IdleCovered o h (lookup (apps_in (AfterPower (power_after s t))) o.watch.name) → BaseCovered o h s.base Unpowered
  found_by h s None g = found_migrated true h s.base g
  found_by h s (Some t) g = found_stopped (nat_le t.at s.owed) h s t g

  -- ---- lines

  -- what a line keeps, if it brings and finds nothing else and its stop comes at a write
  abbrev Finds : List E → Step → Type 0
  Finds h t = BringsCovered o h t → o.anywhere ⊎ StopsAtWrite t → LineFound o h t (after_step o.watch t h)

  before_power_found : (h : List E) (n : ℕ) (l : DeckLine) (m : List (List ℕ)) (b : ℕ) (a : Armed) (w : Option FailedWrite) → Finds h (before_power_step n l m b a w)
  before_power_found h n line.Power m b a w brings hits =
      let s = play_at_power m b a in
      let t = hit_of a (power_moves s) w in
      (after_power o shown (with_event (o.watch.of_end false) h) s t (base_ended o shown h s.base Unpowered (found_by h s t brings.finds)), tt)
  before_power_found h n _ m b a w brings hits = (tt, tt)

  state_found : (h : List E) (z : State) → StateCovered o h z → StateFound o h z
  state_found h (BeforePower m b a) x = tt
  state_found h (AfterPower s) x = x

  -- a line after the first power line finds no card
  finds_late : (s : Warm) (z : State) (l : DeckLine) (after : State) → z ≡ AfterPower s → FindsNone o.watch.name z l after
  finds_late s z l after e = subst (λ (y : State). FindsNone o.watch.name y l after) (sym e) tt

  -- each line of a play keeps what the domain covers on a card that may hold the application
  pub step_found : (h : List E) (z : State) (l : ℕ × DeckLine) (w : Option FailedWrite) → (o.of_bytes → IsLine l.1) → (o.of_bytes → IsByteState z) → StateFound o h z → Finds h (step z l w)
  step_found h (BeforePower m b a) l w is state kept = subst (λ (t : Step). Finds h t) (sym (early m b a l w)) (before_power_found h l.0 l.1 m b a w)
  step_found h (AfterPower s) l w is state kept = λ brings hits.
      let t : Step = step (AfterPower s) l w in
      let only : BringsOnly o.watch.name o.app t = record { creates = brings.creates; finds = finds_late s t.before t.line t.after (step_is (AfterPower s) l w).before } in
      let x : LineCovered o h t (after_step o.watch t h) = step_kept o shown h (AfterPower s) l w is state kept only hits in
      (state_found (after_step o.watch t h) t.after x.0, x.1)

  -- ---- plays

  along_found : (ls : List (ℕ × DeckLine)) (ws : List (Option FailedWrite)) (h : List E) (z : State) → (o.of_bytes → AllByRecursion (λ l. IsLine l.1) ls) → (o.of_bytes → IsByteState z) → StateFound o h z → AlongFound o h (plays z ls ws)
  unfolding plays
  along_found [] ws h z lines state kept = tt
  along_found (l ∷ ls) ws h z lines state kept =
      let t : Step = step z l (first_failure ws) in
      let k : List E = after_step o.watch t h in (
        λ brings hits. let line = step_found h z l (first_failure ws) (λ y. (lines y).0) state kept brings hits in
            (line, along_found ls (drop 1 ws) k t.after (λ y. (lines y).1) (λ y. step_bytes z l (first_failure ws) (lines y).0 (state y)) line.0),
        λ c. subst (λ (u : Step). BringsCovered o h u → o.anywhere ⊎ StopsAtWrite u → LineFound o h u (after_step o.watch u h)) (stopped_is z l (first_failure ws) c) (step_found h z l (Some c) (λ y. (lines y).0) state kept),
      )

  -- what a domain covers is so along every play, from what the first card holds
  pub covered_from : IsCoveredFrom o
  covered_from h ls m ws lines image = along_found ls ws h (start m) lines image tt
