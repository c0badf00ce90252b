-- A try of an exploration is made in a play in which the rules are kept: it breaks none, and leads to a state of such a
-- play.
use Rattle.std.proofs.Common.{◌≡◌, ℕ, ◌≤◌, Bool, true, false, cond, List, [], ◌∷◌, Some, None, Result, Ok, refl, sym, ap, subst, ◌∙◌, arith}
use Rattle.std.specs.Prelude.{◌&&◌, ◌==◌, is_some}
use Rattle.std.proofs.lemmas.Bool.{le-leb}
use Rattle.law_histories.specs.model_device.specs.declared.device.Stop.TheVariants as stop
use Rattle.law_histories.specs.model_device.specs.Bytes.{lookup}
use Rattle.law_histories.specs.model_device.specs.Image.{Journal, Two}
use Rattle.law_histories.specs.model_device.specs.Card.{App, Card}
use Rattle.law_histories.specs.model_device.specs.PowerUp.{Base, OnCard, AtFault, migration}
use Rattle.law_histories.specs.model_text.specs.Text.{◌>>=◌}
use Rattle.law_histories.specs.model_card.specs.Items.{moves, StopAt}
use Rattle.law_histories.specs.model_card.specs.Manager.{SessionState, Route, route}
use Rattle.law_histories.specs.model_card.specs.Commands.{Command}
use Rattle.law_histories.specs.model_play.specs.DeckGrammar.{DeckLine, DeckCommand}
use Rattle.law_histories.specs.model_play.specs.DeckGrammar as line
use Rattle.law_histories.specs.model_play.specs.Given.{apps_in}
use Rattle.law_histories.specs.model_play.specs.Play.{Armed, Unarmed, ArmedCut, Live, Running, Unpowered, Muted, Warm, State, AfterPower, Step, step, select_bytes, delete_bytes, line_command, whole_items, hit_of, command_step, is_card_line, moves_of}
use Rattle.law_histories.specs.model_play.specs.ReadyAgain.{IsLine}
use Rattle.law_histories.specs.model_play.proofs.LineKinds.{past_power}
use Rattle.law_histories.specs.law_promise.specs.History.{after_step}
use Rattle.law_histories.specs.law_promise.specs.Along.{CreatesOnly, BringsOnly}
use Rattle.law_histories.specs.law_promise.specs.Domain.{StopsAtWrite}
use Rattle.law_histories.specs.law_explore.specs.Rules.{Move}
use Rattle.law_histories.specs.law_explore.specs.States.{CardState, play_of, state_in}
use Rattle.law_histories.specs.law_explore.specs.Tries.{Manner, Whole, CutAt, step_of, recovery, writes_of}
use Rattle.law_histories.specs.law_explore.specs.Safety.{CanMake}
use Rattle.law_histories.specs.law_explore.proofs.Recoveries.{state_by}
use Rattle.law_histories.specs.law_explore.proofs.Actions.{IsStarted}
use Rattle.law_histories.specs.model_rules.specs.Rules.{AppRules, Target}
use Rattle.law_histories.specs.model_rules.specs.Happenings.{History, rule_watch}
use Rattle.law_histories.specs.model_rules.specs.Keeping.{Standing}
use Rattle.law_histories.specs.Histories.{if_always, standing_if, standing_after_step, standing_after_steps, steps_of_try}
use Rattle.law_histories.specs.Kept.{is_creation, may_create}
use Rattle.law_histories.proofs.Makings.{AllMake, IsNone, Allows, none_others, others_only, whole_makes, command_makes}
use Rattle.law_histories.proofs.Steps.{Holds, StepHolds, holds_step, holds_quiet}

-- ---- a state that is reached

-- a play in which the rules are kept goes on as a state does
pub record IsReached (r : AppRules) (g : Target) (c : CardState) (s : Standing) : Type 0 where
  pub owed : ℕ
  pub by : Journal
  pub history : History
  pub started : IsStarted c.live c.base owed
  pub holds : Holds r g (AfterPower (past_power c.base owed by c.live c.budget Unarmed)) history s

-- a try of it: what stands after its steps, and where it leads
pub record TryReaches (r : AppRules) (g : Target) (c : CardState) (m : Move) (w : Manner) (s : Standing) : Type 0 where
  pub standing : Standing
  pub is : standing_after_steps r g (steps_of_try (play_of c) m w) s ≡ Ok standing
  pub reached : IsReached r g (state_in (recovery m.number w (step_of (play_of c) m w).after) standing.allowances) standing

-- ---- steps that count the same

-- two steps have the same events and the same applications before and after
pub record SameFor (g : Target) (t u : Step) : Type 0 where
  pub events : after_step (rule_watch g.name) t [] ≡ after_step (rule_watch g.name) u []
  pub before : apps_in t.before ≡ apps_in u.before
  pub after : apps_in t.after ≡ apps_in u.after

standing_by : AppRules → Target → History → List (List ℕ × App) → List (List ℕ × App) → Standing → Result Standing (List ℕ)
standing_by r g e m n s = standing_if (is_some (lookup m g.name) && is_some (lookup n g.name)) r e s >>= if_always r (lookup n g.name)

-- steps that count the same leave the same standing
pub same_standing : (r : AppRules) (g : Target) (t u : Step) (s : Standing) → SameFor g t u → standing_after_step r g t s ≡ standing_after_step r g u s
unfolding standing_after_step standing_by
same_standing r g t u s same =
    ap (λ (e : History). standing_by r g e (apps_in t.before) (apps_in t.after) s) same.events
    ∙ (ap (λ (m : List (List ℕ × App)). standing_by r g (after_step (rule_watch g.name) u []) m (apps_in t.after) s) same.before
    ∙ ap (λ (m : List (List ℕ × App)). standing_by r g (after_step (rule_watch g.name) u []) (apps_in u.before) m s) same.after)

one_step_is : (r : AppRules) (g : Target) (t : Step) (s u : Standing) → standing_after_step r g t s ≡ Ok u → standing_after_steps r g (t ∷ []) s ≡ Ok u
unfolding standing_after_steps
one_step_is r g t s u e = ap (λ (x : Result Standing (List ℕ)). x >>= λ v. standing_after_steps r g [] v) e

two_steps_are : (r : AppRules) (g : Target) (t v : Step) (s u q : Standing) → standing_after_step r g t s ≡ Ok u → standing_after_step r g v u ≡ Ok q → standing_after_steps r g (t ∷ v ∷ []) s ≡ Ok q
unfolding standing_after_steps
two_steps_are r g t v s u q e f = ap (λ (x : Result Standing (List ℕ)). x >>= λ y. standing_after_steps r g (v ∷ []) y) e ∙ one_step_is r g v u q f

-- ---- what a move brings

allows_none : (m : List (List ℕ × App)) (r : Route) → is_creation r ≡ false → Allows IsNone m r
allows_none m r h = grind arith

line_none : (c : Card) (session_state : SessionState) (budget : ℕ) (k : DeckCommand) → may_create (line.Sent k) ≡ false → AllMake IsNone (line_command c session_state budget (line.Sent k)).items
line_none c session_state budget (line.Select n) h = command_makes IsNone c session_state (select_bytes n) budget (allows_none c.apps (route (select_bytes n)) h)
line_none c session_state budget (line.Delete n) h = command_makes IsNone c session_state (delete_bytes n) budget (allows_none c.apps (route (delete_bytes n)) h)
line_none c session_state budget (line.Apdu b) h = command_makes IsNone c session_state b budget (allows_none c.apps (route b) h)
line_none c session_state budget (line.Load u fixed session) h = absurd (cc h)

sent_creates : (g : Target) (n : ℕ) (k : DeckCommand) (b : Base) (o : ℕ) (j : Journal) (v : Live) (budget : ℕ) (a : Armed) → may_create (line.Sent k) ≡ false
    → CreatesOnly g.name g.app (step (AfterPower (past_power b o j v budget a)) (n, line.Sent k) None).whole
unfolding step
sent_creates g n k (OnCard c) o j (Running session_state) budget a h =
    let r = line_command c session_state budget (line.Sent k) in
    let t = hit_of a (moves r.items) None in
    others_only g.name g.app (whole_items r t) (none_others g.name (whole_items r t) (whole_makes IsNone r t (line_none c session_state budget k h)))
sent_creates g n k (AtFault cause p) o j (Running session_state) budget a h = tt
sent_creates g n k b o j Unpowered budget a h = tt
sent_creates g n k b o j Muted budget a h = tt

abbrev move_by : ℕ → List ℕ → DeckLine → Move
move_by n t l = record { number = n; text = t; line = l }

-- whatever is created under the name by a move that is made in a state is the application
abbrev pub MoveBrings : Target → CardState → Move → Manner → Type 0
MoveBrings g c m w = CreatesOnly g.name g.app (step_of (play_of c) m w).whole

none_by : (g : Target) (b : Base) (v : Live) (budget : ℕ) (a : List (List ℕ × ℕ)) (n : ℕ) (t : List ℕ) (l : DeckLine) (w : Manner) → is_card_line l ≡ true → may_create l ≡ false → MoveBrings g (state_by b v budget a) (move_by n t l) w
unfolding step
none_by g b v budget a n t line.Power Whole card none = tt
none_by g b v budget a n t line.Power (CutAt i x) card none = tt
none_by g b v budget a n t (line.Sent k) Whole card none = sent_creates g n k b 0 Two v budget Unarmed none
none_by g b v budget a n t (line.Sent k) (CutAt i x) card none = sent_creates g n k b 0 Two v budget (ArmedCut i x) none
none_by g b v budget a n t _ w card none = absurd (cc card)

-- so it is of a move that may create none
pub none_brings : (g : Target) (c : CardState) (m : Move) (w : Manner) → is_card_line m.line ≡ true → may_create m.line ≡ false → MoveBrings g c m w
none_brings g c m w card none = none_by g c.base c.live c.budget c.allowances m.number m.text m.line w card none

-- ---- a line that is sent whole

sent_hits : (n : ℕ) (k : DeckCommand) (b : Base) (o : ℕ) (j : Journal) (v : Live) (budget : ℕ) → StopsAtWrite (step (AfterPower (past_power b o j v budget Unarmed)) (n, line.Sent k) None)
unfolding step
sent_hits n k (OnCard c) o j (Running session_state) budget = tt
sent_hits n k (AtFault cause p) o j (Running session_state) budget = tt
sent_hits n k b o j Unpowered budget = tt
sent_hits n k b o j Muted budget = tt

sent_same : (g : Target) (n : ℕ) (k : DeckCommand) (b : Base) (o : ℕ) (j : Journal) (v : Live) (budget : ℕ)
    → SameFor g (step (AfterPower (past_power b 0 Two v budget Unarmed)) (n, line.Sent k) None) (step (AfterPower (past_power b o j v budget Unarmed)) (n, line.Sent k) None)
unfolding step
sent_same g n k (OnCard c) o j (Running session_state) budget = record { events = refl; before = refl; after = refl }
sent_same g n k (AtFault cause p) o j (Running session_state) budget = record { events = refl; before = refl; after = refl }
sent_same g n k b o j Unpowered budget = record { events = refl; before = refl; after = refl }
sent_same g n k b o j Muted budget = record { events = refl; before = refl; after = refl }

sent_reaches : (r : AppRules) (g : Target) (n : ℕ) (k : DeckCommand) (b : Base) (o : ℕ) (j : Journal) (v : Live) (budget : ℕ) (h : History) (u : Standing) → IsStarted v b o
    → Holds r g (step (AfterPower (past_power b o j v budget Unarmed)) (n, line.Sent k) None).after h u
    → IsReached r g (state_in (step (AfterPower (past_power b 0 Two v budget Unarmed)) (n, line.Sent k) None).after u.allowances) u
unfolding step
sent_reaches r g n k (OnCard c) o j (Running session_state) budget h u started holds = record { owed = o; by = j; history = h; started = started; holds = holds }
sent_reaches r g n k (AtFault cause p) o j (Running session_state) budget h u started holds = absurd started
sent_reaches r g n k (OnCard c) o j Unpowered budget h u started holds = absurd started
sent_reaches r g n k (AtFault cause p) o j Unpowered budget h u started holds = record { owed = o; by = j; history = h; started = started; holds = holds }
sent_reaches r g n k (OnCard c) o j Muted budget h u started holds = absurd started
sent_reaches r g n k (AtFault cause p) o j Muted budget h u started holds = record { owed = o; by = j; history = h; started = started; holds = holds }

sent_brings : (g : Target) (n : ℕ) (k : DeckCommand) (b : Base) (o : ℕ) (j : Journal) (v : Live) (budget : ℕ) → CreatesOnly g.name g.app (step (AfterPower (past_power b 0 Two v budget Unarmed)) (n, line.Sent k) None).whole
    → BringsOnly g.name g.app (step (AfterPower (past_power b o j v budget Unarmed)) (n, line.Sent k) None)
unfolding step
sent_brings g n k (OnCard c) o j (Running session_state) budget only = record { creates = only; finds = tt }
sent_brings g n k (AtFault cause p) o j (Running session_state) budget only = record { creates = only; finds = tt }
sent_brings g n k b o j Unpowered budget only = record { creates = only; finds = tt }
sent_brings g n k b o j Muted budget only = record { creates = only; finds = tt }

whole_sent : (r : AppRules) (g : Target) (c : CardState) (s : Standing) (n : ℕ) (t : List ℕ) (k : DeckCommand) → IsReached r g c s → IsLine (line.Sent k) → MoveBrings g c (move_by n t (line.Sent k)) Whole → TryReaches r g c (move_by n t (line.Sent k)) Whole s
whole_sent r g c s n t k st is only =
    let l : ℕ × DeckLine = (n, line.Sent k) in
    let z : State = AfterPower (past_power c.base st.owed st.by c.live c.budget Unarmed) in
    let p : State = AfterPower (past_power c.base 0 Two c.live c.budget Unarmed) in
    let one : StepHolds r g (step z l None) st.history s = grind (arith, holds_step, is, sent_brings, sent_hits) in
    record {
      standing = one.standing;
      is = one_step_is r g (step p l None) s one.standing (same_standing r g (step p l None) (step z l None) s (sent_same g n k c.base st.owed st.by c.live c.budget) ∙ one.is);
      reached = sent_reaches r g n k c.base st.owed st.by c.live c.budget _ one.standing st.started one.holds;
    }

-- ---- a power line

power_same : (g : Target) (n : ℕ) (b : Base) (o : ℕ) (j : Journal) (v : Live) (budget : ℕ)
    → SameFor g (step (AfterPower (past_power b 0 Two v budget Unarmed)) (n, line.Power) None) (step (AfterPower (past_power b o j v budget Unarmed)) (n, line.Power) None)
unfolding step
power_same g n b o j v budget = record { events = refl; before = refl; after = refl }

-- a power line without a stop creates nothing
pub power_brings : (g : Target) (n : ℕ) (s : Warm) → BringsOnly g.name g.app (step (AfterPower s) (n, line.Power) None)
unfolding step
power_brings g n s = record { creates = tt; finds = tt }

-- a power line without a failed write is stopped at no other place than a device write
pub power_hits : (n : ℕ) (s : Warm) → StopsAtWrite (step (AfterPower s) (n, line.Power) None)
unfolding step
power_hits n s = tt

-- a power line leads to a state of a play in which the rules are kept
pub power_reaches : (r : AppRules) (g : Target) (n : ℕ) (b : Base) (o : ℕ) (j : Journal) (v : Live) (budget : ℕ) (h : History) (u : Standing)
    → Holds r g (step (AfterPower (past_power b o j v budget Unarmed)) (n, line.Power) None).after h u
    → IsReached r g (state_in (step (AfterPower (past_power b 0 Two v budget Unarmed)) (n, line.Power) None).after u.allowances) u
unfolding step
power_reaches r g n (OnCard c) o j v budget h u holds = record { owed = 0; by = j; history = h; started = (refl, refl); holds = holds }
power_reaches r g n (AtFault cause p) o j v budget h u holds = record { owed = 0; by = j; history = h; started = tt; holds = holds }

whole_power : (r : AppRules) (g : Target) (c : CardState) (s : Standing) (n : ℕ) (t : List ℕ) → IsReached r g c s → TryReaches r g c (move_by n t line.Power) Whole s
whole_power r g c s n t st =
    let l : ℕ × DeckLine = (n, line.Power) in
    let w : Warm = past_power c.base st.owed st.by c.live c.budget Unarmed in
    let p : State = AfterPower (past_power c.base 0 Two c.live c.budget Unarmed) in
    let one : StepHolds r g (step (AfterPower w) l None) st.history s = holds_step r g (AfterPower w) st.history s l None st.holds tt (power_brings g n w) (power_hits n w) in
    record {
      standing = one.standing;
      is = one_step_is r g (step p l None) s one.standing (same_standing r g (step p l None) (step (AfterPower w) l None) s (power_same g n c.base st.owed st.by c.live c.budget) ∙ one.is);
      reached = power_reaches r g n c.base st.owed st.by c.live c.budget _ one.standing one.holds;
    }

-- ---- a cut

abbrev cut_at : ℕ → List ℕ → StopAt
cut_at i x = record { kind = stop.Off; at = i; left = x }

module _ (n : ℕ) (k : DeckCommand) (c : Card) (session_state : SessionState) (budget i : ℕ) (x : List ℕ) where
  abbrev done : Command
  done = line_command c session_state budget (line.Sent k)

  abbrev cut_warm : ℕ → Journal → Warm
  cut_warm o j = past_power (OnCard c) o j (Running session_state) budget (ArmedCut i x)

  abbrev cut_step : ℕ → Journal → Step
  cut_step o j = command_step n (line.Sent k) (cut_warm o j) c done (Some (cut_at i x))

  cut_is : (o : ℕ) (j : Journal) → i ≤ moves done.items → step (AfterPower (cut_warm o j)) (n, line.Sent k) None ≡ cut_step o j
  unfolding step
  cut_is o j high = ap (λ (b : Bool). command_step n (line.Sent k) (cut_warm o j) c done (cond b (Some (cut_at i x)) None)) (le-leb i (moves done.items) high)

  armed_holds : (r : AppRules) (g : Target) (o : ℕ) (j : Journal) (h : History) (s : Standing) → Holds r g (AfterPower (past_power (OnCard c) o j (Running session_state) budget Unarmed)) h s → Holds r g (AfterPower (cut_warm o j)) h s
  unfolding step
  armed_holds r g o j h s holds =
      holds_quiet r g (AfterPower (past_power (OnCard c) o j (Running session_state) budget Unarmed)) h s (n, line.Cut i x) None holds tt (record { creates = tt; finds = tt }) tt refl refl

  cut_same : (g : Target) (o : ℕ) (j : Journal) → SameFor g (cut_step 0 Two) (cut_step o j)
  cut_same g o j = record { events = refl; before = refl; after = refl }

  -- after the power line that follows it
  healed_reaches : (r : AppRules) (g : Target) (o : ℕ) (j : Journal) (h : History) (u : Standing) → Holds r g (step (cut_step o j).after (n, line.Power) None).after h u
      → IsReached r g (state_in (step (cut_step 0 Two).after (n, line.Power) None).after u.allowances) u
  unfolding step
  healed_reaches r g o j h u holds = record { owed = 0; by = Two; history = h; started = (refl, refl); holds = holds }

  -- by the step of the cut
  CutReaches : AppRules → Target → Standing → Step → Type 0
  CutReaches r g s t =
      (u : Standing) × (standing_after_steps r g (t ∷ step t.after (n, line.Power) None ∷ []) s ≡ Ok u) × IsReached r g (state_in (step t.after (n, line.Power) None).after u.allowances) u

  cut_reaches : (r : AppRules) (g : Target) (o : ℕ) (j : Journal) (h : History) (s : Standing) → Holds r g (AfterPower (past_power (OnCard c) o j (Running session_state) budget Unarmed)) h s → IsLine (line.Sent k) → CreatesOnly g.name g.app (cut_step 0 Two).whole
      → 1 ≤ i → i ≤ moves done.items → CutReaches r g s (cut_step 0 Two)
  unfolding CutReaches
  cut_reaches r g o j h s holds is only low high =
      let l : ℕ × DeckLine = (n, line.Sent k) in
      let z : State = AfterPower (cut_warm o j) in
      let e : step z l None ≡ cut_step o j = cut_is o j high in
      let hits : StopsAtWrite (step z l None) = subst StopsAtWrite (sym e) (low, high) in
      let brings : BringsOnly g.name g.app (step z l None) = subst (BringsOnly g.name g.app) (sym e) (record { creates = only; finds = tt }) in
      let first : StepHolds r g (cut_step o j) h s =
      subst (λ (t : Step). StepHolds r g t h s) e (holds_step r g z h s l None (armed_holds r g o j h s holds) is brings hits)
      in
      let second : StepHolds r g (step (cut_step o j).after (n, line.Power) None) (after_step (rule_watch g.name) (cut_step o j) h) first.standing =
      holds_step r g (cut_step o j).after (after_step (rule_watch g.name) (cut_step o j) h) first.standing (n, line.Power) None first.holds tt (power_brings g n _) (power_hits n _)
      in (
        second.standing,
        two_steps_are r g (cut_step 0 Two) (step (cut_step 0 Two).after (n, line.Power) None) s first.standing second.standing (same_standing r g (cut_step 0 Two) (cut_step o j) s (cut_same g o j) ∙ first.is) second.is,
        healed_reaches r g o j _ second.standing second.holds,
      )

  move_is : (t : List ℕ) (a : List (List ℕ × ℕ)) → step_of (play_of (state_by (OnCard c) (Running session_state) budget a)) (move_by n t (line.Sent k)) (CutAt i x) ≡ step (AfterPower (cut_warm 0 Two)) (n, line.Sent k) None
  unfolding step
  move_is t a = refl

  cut_within : (t : List ℕ) (a : List (List ℕ × ℕ)) → i ≤ writes_of (play_of (state_by (OnCard c) (Running session_state) budget a)) (move_by n t (line.Sent k)) → i ≤ moves done.items
  unfolding step moves_of
  cut_within t a high = omega (arith, high)

  cut_try : (r : AppRules) (g : Target) (t : List ℕ) (a : List (List ℕ × ℕ)) (s : Standing) → IsReached r g (state_by (OnCard c) (Running session_state) budget a) s → IsLine (line.Sent k) → MoveBrings g (state_by (OnCard c) (Running session_state) budget a) (move_by n t (line.Sent k)) (CutAt i x)
      → CanMake (play_of (state_by (OnCard c) (Running session_state) budget a)) (move_by n t (line.Sent k)) (CutAt i x) → TryReaches r g (state_by (OnCard c) (Running session_state) budget a) (move_by n t (line.Sent k)) (CutAt i x) s
  unfolding CutReaches
  cut_try r g t a s st is only can =
      let high : i ≤ moves done.items = cut_within t a can.2 in
      let e = move_is t a ∙ cut_is 0 Two high in
      let q : CutReaches r g s (step_of (play_of (state_by (OnCard c) (Running session_state) budget a)) (move_by n t (line.Sent k)) (CutAt i x)) =
      subst (CutReaches r g s) (sym e) (cut_reaches r g st.owed st.by st.history s st.holds is (subst (λ (u : Step). CreatesOnly g.name g.app u.whole) e only) can.1 high)
      in
      record { standing = q.0; is = q.1; reached = q.2 }

-- ---- every try

power_none : (n : ℕ) (t : List ℕ) (c : Card) (session_state : SessionState) (budget : ℕ) (a : List (List ℕ × ℕ)) → c.layout ≡ 2
    → writes_of (play_of (state_by (OnCard c) (Running session_state) budget a)) (move_by n t line.Power) ≡ 0
unfolding step moves_of
power_none n t c session_state budget a h =
    let none : migration (OnCard c) ≡ 0 = ap (λ (i : ℕ). cond (i == 1) 6 0) h in
    omega (arith, none)

line_reaches : (r : AppRules) (g : Target) (b : Base) (v : Live) (budget : ℕ) (a : List (List ℕ × ℕ)) (s : Standing) (n : ℕ) (t : List ℕ) (l : DeckLine) (w : Manner) → IsReached r g (state_by b v budget a) s
    → is_card_line l ≡ true → IsLine l → MoveBrings g (state_by b v budget a) (move_by n t l) w → CanMake (play_of (state_by b v budget a)) (move_by n t l) w → TryReaches r g (state_by b v budget a) (move_by n t l) w s
line_reaches r g b v budget a s n t line.Power Whole st card is only can = whole_power r g (state_by b v budget a) s n t st
line_reaches r g b v budget a s n t (line.Sent k) Whole st card is only can = whole_sent r g (state_by b v budget a) s n t k st is only
line_reaches r g (OnCard c) (Running session_state) budget a s n t line.Power (CutAt i x) st card is only can =
    absurd (let zero = power_none n t c session_state budget a st.started.1 in let low : 1 ≤ i = can.1 in let high = can.2 in omega (arith, zero, low, high))
line_reaches r g (OnCard c) (Running session_state) budget a s n t (line.Sent k) (CutAt i x) st card is only can = cut_try n k c session_state budget i x r g t a s st is only can
line_reaches r g (AtFault cause p) (Running session_state) budget a s n t l (CutAt i x) st card is only can = absurd st.started
line_reaches r g b Unpowered budget a s n t l (CutAt i x) st card is only can = absurd (cc can.0)
line_reaches r g b Muted budget a s n t l (CutAt i x) st card is only can = absurd (cc can.0)
line_reaches r g b v budget a s n t _ w st card is only can = absurd (cc card)

-- a try of a state that is reached breaks no rule and leads to one that is reached
pub try_reaches : (r : AppRules) (g : Target) (c : CardState) (s : Standing) (m : Move) (w : Manner) → IsReached r g c s → is_card_line m.line ≡ true → IsLine m.line → MoveBrings g c m w → CanMake (play_of c) m w → TryReaches r g c m w s
try_reaches r g c s m w st card is only can = line_reaches r g c.base c.live c.budget c.allowances s m.number m.text m.line w st card is only can
