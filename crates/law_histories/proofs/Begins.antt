-- What a line makes of the history of an application: if it was there and is there, the line adds to the history; if the
-- line brings it, the history begins.
use Rattle.std.proofs.Common.{arith, ◌≡◌, ℕ, Bool, true, false, cond, List, [], ◌∷◌, ◌++◌, Option, Some, None, refl, sym, subst, ◌∙◌}
use Rattle.std.specs.Prelude.{nat_le, bytes_eq}
use Rattle.law_histories.specs.model_device.specs.Bytes.{lookup}
use Rattle.law_histories.specs.model_device.specs.Card.{App, Card}
use Rattle.law_histories.specs.model_device.specs.PowerUp.{Base, OnCard, AtFault, base_after_migration}
use Rattle.law_histories.specs.model_machine.specs.Apdu.{ApduParts}
use Rattle.law_histories.specs.model_machine.specs.Chain.{map_changed, run}
use Rattle.law_histories.specs.model_card.specs.Items.{Fixed, Created, Deleted, Item, Plain, Atomic, apps_after_items, moves, StopAt}
use Rattle.law_histories.specs.model_card.specs.Manager.{Selected, SessionState, Route, route, is_selected}
use Rattle.law_histories.specs.model_card.specs.Commands.{Command, application_command, by_route, command}
use Rattle.law_histories.specs.model_play.specs.DeckGrammar.{DeckLine, DeckCommand}
use Rattle.law_histories.specs.model_play.specs.DeckGrammar as line
use Rattle.law_histories.specs.model_play.specs.Given.{apps_in, apps_on}
use Rattle.law_histories.specs.model_play.specs.Play.{Running, Warm, State, BeforePower, AfterPower, LineResult, FailedWrite, Step, line_command, whole_items, line_says, hit_of, quiet, power_moves, power_step, power_after, line_after, stopped_power, step}
use Rattle.law_histories.specs.model_play.proofs.LineKinds.{past_power, budget_after, armed_after, quiet_result, found_by_power, sent_step, StepKind, Early, Quiet, Powers, Sends, by_kind}
use Rattle.law_histories.specs.law_manager.specs.OnCard.{IsSelect}
use Rattle.law_histories.specs.law_manager.specs.OnCard as made
use Rattle.law_histories.specs.law_manager.proofs.OnCard.{selects_law}
use Rattle.law_histories.specs.law_promise.specs.History.{cut_of, after_route, is_own_route, with_answer, after_items, after_stop, command_in, after_command, after_step}
use Rattle.law_histories.specs.law_promise.specs.Along.{BringsOnly}
use Rattle.law_histories.specs.law_promise.specs.Domain.{StateCovered, SelectedCovered}
use Rattle.law_histories.specs.law_promise.proofs.ItemLists.{AllFixed, writes_fixed, whole_fixed}
use Rattle.law_histories.specs.model_rules.specs.Rules.{Target}
use Rattle.law_histories.specs.model_rules.specs.Happenings.{History, rule_watch}
use Rattle.law_histories.proofs.Adds.{step_adds}
use Rattle.law_histories.proofs.Makings.{IsOther, whole_makes, others_history, others_made, none_beside, history_begins}
use Rattle.law_histories.proofs.AnyDomain.{any_domain, unselected}

-- ---- power lines

base_apps : (b : Base) → apps_on (base_after_migration b) ≡ apps_on b
base_apps (OnCard c) = refl
base_apps (AtFault cause p) = refl

either_apps : (x : Bool) (b : Base) → apps_on (cond x (base_after_migration b) b) ≡ apps_on b
either_apps true b = base_apps b
either_apps false b = refl

stopped_apps : (x : Bool) (s : Warm) (t : StopAt) → apps_in (AfterPower (stopped_power s t x)) ≡ apps_on s.base
stopped_apps true s t = refl
stopped_apps false s t = either_apps _ s.base

-- a power line leaves the applications
pub power_apps : (s : Warm) (t : Option StopAt) → apps_in (AfterPower (power_after s t)) ≡ apps_on s.base
power_apps s None = base_apps s.base
power_apps s (Some t) = stopped_apps (nat_le t.at s.owed) s t

-- ---- routes that create nothing

none_fixed : (n : List ℕ) (is : List Item) (m : List (List ℕ × App)) → AllFixed is → lookup m n ≡ None → lookup (apps_after_items m is) n ≡ None
none_fixed n [] m a none = none
none_fixed n (Plain ∷ is) m a none = none_fixed n is m a.1 none
none_fixed n (Atomic w (Fixed k ps) ∷ is) m a none = none_fixed n is (map_changed m k (Some ps)) a.1 (none_beside n (bytes_eq k n) m k ps refl none)
none_fixed n (Atomic w (Created k x) ∷ is) m a none = absurd a.0
none_fixed n (Atomic w (Deleted k) ∷ is) m a none = absurd a.0

fixed_whole : (r : Command) (t : Option StopAt) → AllFixed r.items → AllFixed (whole_items r t)
fixed_whole r None a = a
fixed_whole r (Some t) a = whole_fixed r.items t.at t.left a

select_fixed : (c : Card) (session_state : SessionState) (a : ApduParts) (r : Command) → IsSelect c session_state a r → AllFixed r.items
select_fixed c session_state a _ (made.unselected sw h) = tt
select_fixed c session_state a _ (made.selected app h) = tt

passed_fixed : (c : Card) (session_state : SessionState) (o : Option Selected) (a : ApduParts) (budget : ℕ) → AllFixed (application_command c session_state o a budget).items
passed_fixed c session_state None a budget = tt
passed_fixed c session_state (Some s) a budget = writes_fixed (run c.apps s.name s.session a budget).writes

-- ---- a line of a running card

module _ (g : Target) (c : Card) (session_state : SessionState) (budget : ℕ) (b : App) (t : Option StopAt) (none : lookup c.apps g.name ≡ None) where
  -- it brings the application
  abbrev pub Brings : Command → Type 0
  Brings r = lookup (apps_after_items c.apps (whole_items r t)) g.name ≡ Some b

  never : (r : Command) → AllFixed r.items → Brings r → ⊥
  never r a e = cc (sym (none_fixed g.name (whole_items r t) c.apps (fixed_whole r t a) none) ∙ e)

  route_begins : (bytes : List ℕ) (r : Route) (result : Option LineResult) → Brings (by_route c session_state budget r)
      → let w = rule_watch g.name in with_answer w (is_own_route g.name session_state.selected r) bytes result (after_route w c session_state bytes budget r (cut_of t) []) ≡ []
  route_begins bytes r result e = grind (arith, never, select_fixed, selects_law, passed_fixed)

  command_begins : (bytes : List ℕ) (result : Option LineResult) → Brings (command c session_state bytes budget)
      → after_command (rule_watch g.name) c session_state budget (Some bytes) result (cut_of t) [] ≡ []
  unfolding command
  command_begins bytes result e = route_begins bytes (route bytes) result e

  line_begins : (k : DeckCommand) (result : Option LineResult) → Brings (line_command c session_state budget (line.Sent k))
      → after_command (rule_watch g.name) c session_state budget (command_in (line.Sent k)) result (cut_of t) [] ≡ []
  line_begins k result e = grind (arith, command_begins)

  stop_begins : (s : Option StopAt) (x : Bool) → x ≡ false → after_stop (rule_watch g.name) x s [] ≡ []
  stop_begins s x e = grind arith

  -- a line to the card that brings the application begins with an empty history
  pub sent_begins : (k : DeckCommand) (result : Option LineResult) (h : History) → is_selected session_state.selected g.name ≡ false → Brings (line_command c session_state budget (line.Sent k))
      → let w = rule_watch g.name in
      after_stop w (is_selected session_state.selected g.name) t (after_command w c session_state budget (command_in (line.Sent k)) result (cut_of t) (after_items g.name (whole_items (line_command c session_state budget (line.Sent k)) t) h)) ≡ []
  sent_begins k result h off e = grind (arith, history_begins, line_begins, stop_begins)

-- ---- each line

-- what a line makes of a history
pub record Splits (g : Target) (t : Step) (h : History) : Type 0 where
  pub adds : (a b : App) → lookup (apps_in t.before) g.name ≡ Some a → lookup (apps_in t.after) g.name ≡ Some b → after_step (rule_watch g.name) t h ≡ after_step (rule_watch g.name) t [] ++ h
  pub begins : lookup (apps_in t.before) g.name ≡ None → (b : App) → lookup (apps_in t.after) g.name ≡ Some b → after_step (rule_watch g.name) t h ≡ []

powers_split : (g : Target) (z : State) (n : ℕ) (t : Option StopAt) (h : History) → BringsOnly g.name g.app (power_step n z (found_by_power z) t) → Splits g (power_step n z (found_by_power z) t) h
powers_split g (BeforePower m b a) n t h brings = grind (arith, found_by_power (BeforePower m b a))
powers_split g (AfterPower s) n t h brings = grind (arith, power_step n (AfterPower s) s t)

kind_splits : (g : Target) {w : Option FailedWrite} {z : State} {n : ℕ} {l : DeckLine} {u : Step} (h : History) → StepKind w z n l u → StateCovered (any_domain g) h z → BringsOnly g.name g.app u → Splits g u h
kind_splits g h (Early p) covered brings = record { adds = λ x y e f. absurd (cc e); begins = λ none y f. absurd (cc f) }
kind_splits g h (Quiet {n = n} {l = l} {s = s} p q) covered brings =
    grind (arith, quiet n l (AfterPower s) (quiet_result l s.live s.base) (AfterPower (record s { budget = budget_after l s.budget; armed = armed_after l s.armed })))
kind_splits g {w} {n = n} h (Powers z) covered brings = powers_split g z n (hit_of (found_by_power z).armed (power_moves (found_by_power z)) w) h brings
kind_splits g {w} h (Sends {n = n} {o = o} {g = budget} {j = j} {a = a} k c session_state) covered brings =
    let r = line_command c session_state budget (line.Sent k) in
    let t = hit_of a (moves r.items) w in
    record {
      adds = λ x y e f. step_adds (rule_watch g.name) (sent_step w n k c o j session_state budget a) (λ p. others_history g.name (whole_items r t) p (whole_makes (IsOther g.name) r t (others_made g.name c session_state budget k x e))) h;
      begins = λ none y f.
          let off : is_selected session_state.selected g.name ≡ false = unselected g h session_state.selected (subst (λ (q : Option App). SelectedCovered (any_domain g) h q session_state.selected) none covered) in
          sent_begins g c session_state budget y t none k (Some (line_says r t)) h off (landed r t y f);
    }
  where
    landed : (r : Command) (t : Option StopAt) (y : App) → lookup (apps_in (AfterPower (line_after (past_power (OnCard c) o j (Running session_state) budget a) c r t))) g.name ≡ Some y → lookup (apps_after_items c.apps (whole_items r t)) g.name ≡ Some y
    landed r None y f = f
    landed r (Some t) y f = f

-- each line adds to the history of an application that stays, or begins that of one that it brings
pub step_splits : (g : Target) (h : History) (z : State) (l : ℕ × DeckLine) (w : Option FailedWrite) → StateCovered (any_domain g) h z → BringsOnly g.name g.app (step z l w) → Splits g (step z l w) h
step_splits g h z l w covered brings = kind_splits g h (by_kind z l w) covered brings
