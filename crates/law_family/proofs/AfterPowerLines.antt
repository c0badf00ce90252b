-- Every line of a play after its first power line keeps the relation: a case for each kind of line.
use Rattle.std.specs.Prelude.{◌≡◌, ℕ, ◌-◌, ◌≤◌, Bool, true, false, cond, ◌&&◌, nat_le, List, [], ◌∷◌, Option, Some, None}
use Rattle.std.proofs.Common.{refl, ap, sym, subst, arith}
use Rattle.model_play.specs.model_device.specs.Bytes.{has_name, lookup}
use Rattle.model_play.specs.model_device.specs.Image.{Journal, One}
use Rattle.model_play.specs.model_device.specs.Stopped.{stands}
use Rattle.model_play.specs.model_device.specs.Card.{App, Card}
use Rattle.model_play.specs.model_card.specs.Items.{moves, StopAt}
use Rattle.model_play.specs.model_card.specs.Manager.{SessionState, route}
use Rattle.model_play.specs.Play.{Armed, Unarmed, Live, Running, Unpowered, Muted, Warm, State, AfterPower, LineResult, NoCard, Silenced, Step, select_bytes, delete_bytes, load_commands, send, hit_of, FailedWrite, MayHit, moves_of, step, after_power_step, quiet, power_step, power_after, stopped_power, power_live, power_moves, without_card, static_of}
use Rattle.model_play.specs.model_device.specs.PowerUp.{Base, OnCard, AtFault, base_after_migration}
use Rattle.model_play.specs.model_card.specs.Commands.{command}
use Rattle.model_play.specs.Family.{ClosedPairs, routes_in, command_of, is_own, is_own_command, live_in, is_running}
use Rattle.model_play.specs.Given.{Event, Dumps, Leaves, apps_on, leave_event_if, line_events, dump_events, is_done_reply, is_foreign_select}
use Rattle.model_play.specs.Solo.{Solo, Heard, silent, hears, hears_all}
use Rattle.model_play.specs.DeckGrammar.{DeckLine}
use Rattle.model_play.specs.DeckGrammar as line
use Rattle.law_family.proofs.Agreement.{MapsAgree}
use Rattle.law_family.proofs.Sim.{own_selected, IsRunnable, Simulates, KeepsSimulation, LineKeepsSimulation, hears_none, hears_leave, static_alike}
use Rattle.law_family.proofs.Stops.{FailsWithin}
use Rattle.law_family.proofs.OtherCommand.{aside_other, command_aside, send_aside}
use Rattle.law_family.proofs.LoadCommands.{load_managers, delete_manager}
use Rattle.law_family.proofs.Lines.{stopped_runs, no_selection, running, command_keeps, other_keeps}
use Rattle.model_play.specs.model_device.proofs.BoolLemmas.{and_first}
use Rattle.model_play.proofs.LineKinds.{past_power}

-- ---- lines that change nothing that is related

-- a step without an event keeps the relation
still_keeps : (K : List (List ℕ)) (t : Solo) (u : Step) → Simulates K u.after t → KeepsSimulation K t u [] false false
still_keeps K t u h = record { sim = subst (λ (z : Heard). Simulates K u.after z.after) (sym (hears_none t)) h; answer = ap (λ (z : Heard). z.answer) (hears_none t); work = ap (λ (z : Heard). z.work) (hears_none t) }

-- a line that makes no write, is no command of the family and no done SELECT
quiet_keeps : (K : List (List ℕ)) (t : Solo) (n : ℕ) (l : DeckLine) (before : State) (o : Option LineResult) (after : State)
    → is_own_command K (live_in before) (command_of l) ≡ false → (is_running (live_in before) && is_foreign_select K (command_of l) && is_done_reply o) ≡ false → Simulates K after t
    → let u = quiet n l before o after in KeepsSimulation K t u (line_events (is_own K u) K u) (is_own K u) (is_own K u)
quiet_keeps K t n l before o after own left sim =
    let u = quiet n l before o after in
    let no_events : line_events false K u ≡ [] = ap leave_event_if left in
    subst (λ (b : Bool). KeepsSimulation K t u (line_events b K u) b b) (sym own) (subst (λ (es : List Event). KeepsSimulation K t u es false false) (sym no_events) (still_keeps K t u sim))

no_own : (K : List (List ℕ)) (v : Live) → is_own_command K v None ≡ false
no_own h v = grind arith

no_left : (v : Live) (d : Bool) → (is_running v && false && d) ≡ false
no_left v d = grind arith

-- ---- power lines

-- after a power line the applications are as before, and nothing is selected
pub record SameAfterPower (K : List (List ℕ)) (s r : Warm) : Type 0 where
  pub warm : IsRunnable r.live r.base
  pub map : apps_on r.base ≡ apps_on s.base
  pub selected : own_selected K r.live ≡ None

migrated_apps : (b : Base) → apps_on (base_after_migration b) ≡ apps_on b
migrated_apps (OnCard c) = refl
migrated_apps (AtFault cause p) = refl

migrated_if_apps : (x : Bool) (b : Base) → apps_on (cond x (base_after_migration b) b) ≡ apps_on b
migrated_if_apps true b = migrated_apps b
migrated_if_apps false b = refl

power_runs : (b : Base) → IsRunnable (power_live b) (base_after_migration b)
power_runs (OnCard c) = tt
power_runs (AtFault cause p) = tt

power_none : (K : List (List ℕ)) (b : Base) → own_selected K (power_live b) ≡ None
power_none K (OnCard c) = refl
power_none K (AtFault cause p) = refl

stopped_powered : (K : List (List ℕ)) (s : Warm) (t : StopAt) (x : Bool) → SameAfterPower K s (stopped_power s t x)
stopped_powered K s t true = record { warm = stopped_runs t.kind s.base; map = refl; selected = no_selection K t.kind }
stopped_powered K s t false =
    let b = cond (stands One 1 (t.at - s.owed) t.left) (base_after_migration s.base) s.base in
    record { warm = stopped_runs t.kind b; map = migrated_if_apps (stands One 1 (t.at - s.owed) t.left) s.base; selected = no_selection K t.kind }

pub powered : (K : List (List ℕ)) (s : Warm) (t : Option StopAt) → SameAfterPower K s (power_after s t)
powered K s None = record { warm = power_runs s.base; map = migrated_apps s.base; selected = power_none K s.base }
powered K s (Some t) = stopped_powered K s t (nat_le t.at s.owed)

-- a power line of a play in any state, in which the family has these applications already
pub power_keeps : (K : List (List ℕ)) (t : Solo) (n : ℕ) (before : State) (s : Warm) (st : Option StopAt) → is_own_command K (live_in before) None ≡ false → MapsAgree K true (apps_on s.base) t.map
    → LineKeepsSimulation K t (power_step n before s st)
power_keeps K t n before s st own h =
    let u = power_step n before s st in
    let p : SameAfterPower K s (power_after s st) = powered K s st in
    let e : hears_all t (Leaves ∷ []) ≡ silent (record t { selected = None }) = hears_leave t in
    subst (λ (b : Bool). KeepsSimulation K t u (Leaves ∷ []) b b) (sym own) (
    record {
      sim = subst (λ (z : Heard). Simulates K u.after z.after) (sym e)
          (record { warm = p.warm; map = subst (λ (m : List (List ℕ × App)). MapsAgree K true m t.map) (sym p.map) h; selected = sym p.selected });
      answer = ap (λ (z : Heard). z.answer) e;
      work = ap (λ (z : Heard). z.work) e;
    })

-- ---- dumps

hears_dump : (t : Solo) (n : List ℕ) → hears_all t (Dumps n ∷ []) ≡ record { after = t; answer = static_of (lookup t.map n) ∷ []; work = [] }
unfolding hears_all hears
hears_dump t n = refl

dump_at : (K : List (List ℕ)) (t : Solo) (u : Step) (n : List ℕ) (b : Bool) (r : LineResult) → Simulates K u.after t → u.result ≡ Some r → (b ≡ true → static_of (lookup t.map n) ≡ r)
    → KeepsSimulation K t u (dump_events b n) b false
dump_at h t u n b r sim is same = grind (arith, hears_dump, Simulates, still_keeps)

and_false : (x : Bool) → (x && false) ≡ true → ⊥
and_false true h = cc h
and_false false h = cc h

-- ---- a case for each line

failure_within : (s : State) (l : ℕ × DeckLine) (m : ℕ) (w : Option FailedWrite) → moves_of s l ≡ m → MayHit s l w → FailsWithin m w
failure_within s l m None e h = tt
failure_within s l m (Some w) e h = subst (λ (k : ℕ). w.at ≤ k) e h.high

module _ (K : List (List ℕ)) (t : Solo) (n : ℕ) (o : ℕ) (j : Journal) (g : ℕ) (a : Armed) where
  dump_kept : (b : Base) (v : Live) (x : List ℕ) → let u = after_power_step n (line.Dump x) (past_power b o j v g a) None in Simulates K (AfterPower (past_power b o j v g a)) t → LineKeepsSimulation K t u
  dump_kept (OnCard c) (Running session_state) x sim =
      dump_at K t (after_power_step n (line.Dump x) (past_power (OnCard c) o j (Running session_state) g a) None) x (has_name x K && true) (static_of (lookup c.apps x)) sim refl
      (λ h. sym (static_alike (lookup c.apps x) (lookup t.map x) (sim.map x (and_first (has_name x K) true h))))
  dump_kept (AtFault cause p) (Running session_state) x sim = absurd sim.warm
  dump_kept b Unpowered x sim = dump_at K t (after_power_step n (line.Dump x) (past_power b o j Unpowered g a) None) x (has_name x K && false) NoCard sim refl (λ h. absurd (and_false (has_name x K) h))
  dump_kept b Muted x sim = dump_at K t (after_power_step n (line.Dump x) (past_power b o j Muted g a) None) x (has_name x K && false) Silenced sim refl (λ h. absurd (and_false (has_name x K) h))

  moves_select : (c : Card) (session_state : SessionState) (x : List ℕ) → moves_of (AfterPower (running c o j session_state g a)) (n, line.Sent (line.Select x)) ≡ moves (command c session_state (select_bytes x) g).items
  unfolding moves_of step
  moves_select c session_state x = omega arith

  moves_apdu : (c : Card) (session_state : SessionState) (x : List ℕ) → moves_of (AfterPower (running c o j session_state g a)) (n, line.Sent (line.Apdu x)) ≡ moves (command c session_state x g).items
  unfolding moves_of step
  moves_apdu c session_state x = omega arith

  -- a card line when no card runs
  no_card_kept : (l : DeckLine) (b : Base) (v : Live) → is_own_command K v (command_of l) ≡ false → is_running v ≡ false → Simulates K (AfterPower (past_power b o j v g a)) t
      → let u = quiet n l (AfterPower (past_power b o j v g a)) (Some (without_card v)) (AfterPower (past_power b o j v g Unarmed)) in KeepsSimulation K t u (line_events (is_own K u) K u) (is_own K u) (is_own K u)
  no_card_kept l b v own off sim =
      quiet_keeps K t n l (AfterPower (past_power b o j v g a)) (Some (without_card v)) (AfterPower (past_power b o j v g Unarmed)) own
      (ap (λ (x : Bool). x && is_foreign_select K (command_of l) && is_done_reply (Some (without_card v))) off) (record { warm = sim.warm; map = sim.map; selected = sim.selected })

  pub after_power_kept : (l : DeckLine) (w : Option FailedWrite) (b : Base) (v : Live) → let s = past_power b o j v g a in Simulates K (AfterPower s) t → MayHit (AfterPower s) (n, l) w → ClosedPairs K (after_power_step n l s w).pairs → LineKeepsSimulation K t (after_power_step n l s w)
  after_power_kept (line.Dump x) w b v sim may closed = dump_kept b v x sim
  after_power_kept line.Power w b v sim may closed = power_keeps K t n (AfterPower (past_power b o j v g a)) (past_power b o j v g a) (hit_of a (power_moves (past_power b o j v g a)) w) (no_own K v) sim.map
  after_power_kept (line.Sent (line.Load u fixed session)) w (OnCard c) (Running session_state) sim may closed =
      let r = send c session_state g (load_commands u fixed session) in
      other_keeps K c o j session_state g a t n (line.Sent (line.Load u fixed session)) r (hit_of a (moves r.items) w) sim (aside_other K c session_state r (send_aside K c session_state g (load_commands u fixed session) (load_managers u fixed session)))
  after_power_kept (line.Sent sent) w (AtFault cause p) (Running session_state) sim may closed = absurd sim.warm
  after_power_kept (line.Sent sent) w b Unpowered sim may closed = no_card_kept (line.Sent sent) b Unpowered refl refl sim
  after_power_kept (line.Sent sent) w b Muted sim may closed = no_card_kept (line.Sent sent) b Muted refl refl sim
  after_power_kept (line.Sent (line.Delete x)) w (OnCard c) (Running session_state) sim may closed =
      let r = command c session_state (delete_bytes x) g in
      other_keeps K c o j session_state g a t n (line.Sent (line.Delete x)) r (hit_of a (moves r.items) w) sim (aside_other K c session_state r (command_aside K c session_state g (delete_bytes x) (delete_manager x)))
  after_power_kept (line.Sent (line.Select x)) w (OnCard c) (Running session_state) sim may closed =
      command_keeps K c o j session_state g a t n (line.Sent (line.Select x)) (select_bytes x) w (routes_in K session_state (route (select_bytes x))) refl sim
      (failure_within (AfterPower (running c o j session_state g a)) (n, line.Sent (line.Select x)) (moves (command c session_state (select_bytes x) g).items) w (moves_select c session_state x) may) refl closed
  after_power_kept (line.Sent (line.Apdu x)) w (OnCard c) (Running session_state) sim may closed =
      command_keeps K c o j session_state g a t n (line.Sent (line.Apdu x)) x w (routes_in K session_state (route x)) refl sim
      (failure_within (AfterPower (running c o j session_state g a)) (n, line.Sent (line.Apdu x)) (moves (command c session_state x g).items) w (moves_apdu c session_state x) may) refl closed
  after_power_kept _ w b v sim may closed = quiet_keeps K t n _ (AfterPower (past_power b o j v g a)) None _ (no_own K v) (no_left v _) (record { warm = sim.warm; map = sim.map; selected = sim.selected })
