-- A command on a card: one that the manager answers, and one that the selected application runs.
use Rattle.std.proofs.Common.{◌≡◌, ℕ, ◌+◌, ◌≤◌, Bool, true, false, cond, List, length, Option, Some, None, Result, Ok, Err, refl, sym, ◌∙◌, ap, subst, arith}
use Rattle.std.specs.Prelude.{◌==◌, ◌&&◌, option_map, IfOk, OnOk, OnErr}
use Rattle.mc_words.specs.model_device.specs.declared.device.Stop.{Stop}
use Rattle.mc_words.specs.model_device.specs.Orders.{Answer, InOrder, answer_of}
use Rattle.mc_apdu.specs.model_machine.specs.Apdu.{ApduParts, apdu_read}
use Rattle.mc_words.specs.model_device.specs.Device.{DeviceState, IsSized, Wrote as DeviceWrote}
use Rattle.mc_words.specs.model_device.specs.Card.{App, Card as ModelCard}
use Rattle.mc_bank.specs.model_card.specs.Items.{BankItem, write_items}
use Rattle.mc_apdu.specs.model_machine.specs.Chain.{Chain, Ran, start, run}
use Rattle.mc_bank.specs.model_card.specs.Manager.{Selected, SessionState, Route, ToApplication, route_of_parts, route}
use Rattle.mc_bank.specs.model_card.specs.Commands.{Command, command, status, ran_command, by_route}
use Rattle.mc_apdu.specs.declared.reply.Reply.{Reply}
use Rattle.mc_bank.specs.Bank.{BankState, app_of, name_or}
use Rattle.mc_manager.specs.declared.selection.Selection.{Selection}
use Rattle.mc_manager.specs.CommandDue.{most_ticks}
use Rattle.mc_machine.specs.declared.outcome.End.{End}
use Rattle.mc_machine.specs.declared.outcome.Outcome.{Outcome}
use Rattle.mc_machine.specs.Places.{Runs, IsBegun}
use Rattle.mc_machine.specs.Chains.{Chained, RunsAs, ChainWrote}
use Rattle.mc_machine.specs.Turns.{outcome_value, outcome_by, reply_or_stop}
use Rattle.mc_store.specs.declared.store.Store.{Store}
use Rattle.mc_store.specs.Store.{apps_in, store_state, store_named}
use Rattle.mc_store.specs.StoreItems.{store_did}
use Rattle.mc_store.specs.GoingLaws.{going_is}
use Rattle.mc_card.specs.declared.card.Card.{Card}
use Rattle.mc_card.specs.Parts.{device_in, card_in, session_state_in, view_in, due, IsReadyCard}
use Rattle.mc_card.specs.Ends.{RunSteps, RouteSteps, is_passed, most_weight, outcome_or_stop, Commanded, PassedToChain, Answered}
use Rattle.mc_card.specs.ItemWrites.{ItemsMade, MadeWithin}
use Rattle.mc_card.specs.Managing.{IsAnswered, IsPassed}
use Rattle.mc_card.proofs.StaticLemmas.{going_apps}
use Rattle.mc_card.proofs.ManagerLemmas.{going_base}
use Rattle.mc_card.proofs.MadeLemmas.{made_none}
use Rattle.mc_card.proofs.FewLemmas.{AllWithin, within_made, writes_within, route_within, going_few}
use Rattle.mc_machine.proofs.SoundRuns.{RunSound, run_sound, start_sound}
use Rattle.mc_card.proofs.AfterLemmas.{card_made, still_up, session_state_after}
use Rattle.mc_card.proofs.StoreBank.{store_bank}

-- ---- steps

-- a command of another class than BE makes no steps in the manager
quiet_ticks : (a : ApduParts) (n : ℕ) → (a.cla == 0xBE) ≡ false → most_ticks a n ≡ 0
quiet_ticks a n other = ap (λ (b : Bool). cond (b && a.ins == 0x12) n 0) other

no_more : (old new n : ℕ) → n ≡ 0 → old ≤ new → new ≤ old + n → new ≡ old
no_more old new n none low high = omega (arith, none, low, high)

-- a command for an application makes no steps in the manager
pub passed_quiet : (a : ApduParts) (old new n : ℕ) → route_of_parts (Some a) ≡ ToApplication a → old ≤ new → new ≤ old + most_ticks a n → new ≡ old
passed_quiet a old new n is low high = grind (arith, no_more, quiet_ticks)

-- ---- a command by its bytes

pub due_route : (c : ModelCard) (session_state : SessionState) (bytes : List ℕ) (budget : ℕ) (o : Option ApduParts) → apdu_read bytes ≡ o → command c session_state bytes budget ≡ by_route c session_state budget (route_of_parts o)
unfolding command
due_route c session_state bytes budget o is = ap (λ (x : Option ApduParts). by_route c session_state budget (route_of_parts x)) is

due_within : (c : ModelCard) (session_state : SessionState) (bytes : List ℕ) (budget : ℕ) → length c.apps ≤ 32 → is_passed (route bytes) session_state.selected ≡ false → AllWithin (most_weight (route bytes)) (command c session_state bytes budget).items
unfolding command
due_within c session_state bytes budget few stays = route_within c session_state budget (route bytes) few stays

module _ {N : Type 0} (state : N → DeviceState) (wrote : N → ℕ → List ℕ → Answer → N → Type 0)
    (obeys : (d : N) (at : ℕ) (w : List ℕ) (a : Answer) (e : N) → (state d).on ≡ true → wrote d at w a e → DeviceWrote (state d) at w a (state e)) where
  abbrev bank_state : Store N → BankState
  bank_state s = store_state (state s.device) s.count

  abbrev did : Store N → BankItem → Answer → Store N → Type 0
  did s i a e = store_did state wrote s i a e

  -- a command of a wrong length
  pub wrong_done : (c : Card N) (bytes : List ℕ) (budget : ℕ) (o : Outcome) → IsReadyCard state c → apdu_read bytes ≡ None → outcome_value o ≡ status 0x6700 → Commanded state wrote c (due state c bytes budget) (Ok o) c
  wrong_done c bytes budget o ready wrong is = grind (arith, due_route, made_none, going_base)

  pub wrong_begun : (c : Card N) (bytes : List ℕ) (budget : ℕ) (o : Outcome) → IsReadyCard state c → apdu_read bytes ≡ None → outcome_value o ≡ status 0x6700 → Answered state wrote c bytes budget (Ok o) c
  wrong_begun c bytes budget o ready wrong is =
      record { stays = ap (λ (x : Option ApduParts). is_passed (route_of_parts x) (session_state_in state c).selected) wrong; commanded = wrong_done c bytes budget o ready wrong is }

  -- a command that the manager answers
  pub answered_begun : (a : ApduParts) (c d : Card N) (bytes : List ℕ) (budget : ℕ) (result : Result Outcome Stop) → apdu_read bytes ≡ Some a → IsAnswered state wrote c a result d → Answered state wrote c bytes budget result d
  answered_begun a c d bytes budget result is h =
      record {
        stays = ap (λ (x : Option ApduParts). is_passed (route_of_parts x) (session_state_in state c).selected) is ∙ h.stays;
        commanded = subst (λ (r : Command). Commanded state wrote c r result d) (sym (due_route (card_in state c) (session_state_in state c) bytes budget (Some a) is)) (h.commanded budget);
      }

  -- each item of a command that the manager answers makes at most 84 writes
  pub answered_within : (c d : Card N) (bytes : List ℕ) (budget : ℕ) (result : Result Outcome Stop) → IsReadyCard state c → IsSized (state c.store.device).words → Answered state wrote c bytes budget result d
      → MadeWithin wrote (most_weight (route bytes)) (due state c bytes budget).items c.store.device (answer_of result) d.store.device
  answered_within c d bytes budget result ready image h =
      let few : length (card_in state c).apps ≤ 32 = going_few (state c.store.device) c.store.count image ready.up.going in
      within_made state wrote (most_weight (route bytes)) (card_in state c) (due state c bytes budget).items c.store.device (answer_of result) d.store.device h.commanded.made
      (due_within (card_in state c) (session_state_in state c) bytes budget few h.stays)

  -- ---- a command that the selected application runs

  -- the end of a run on a card, with its run
  pub record RunDid (c : Card N) (r : Ran) (result : Result Outcome Stop) (e : Store N) (bytes : List ℕ) : Type 0 where
    pub writes : InOrder (ChainWrote (store_bank state wrote)) c.store r.writes (answer_of result) e
    pub outcome : IfOk result (λ o. outcome_value o ≡ r.outcome)
    pub session : OnOk result (bytes ≡ r.session)
    pub going : OnOk result ((bank_state e).stopped ≡ false)

  -- a run on a card, from its result and the reply that was written to a place
  pub run_did : (c : Card N) (r : Ran) (x : Result End Stop) (reply : Reply) (e : Store N) (bytes : List ℕ) → InOrder (ChainWrote (store_bank state wrote)) c.store r.writes (answer_of x) e
      → IfOk x (λ o. outcome_value (outcome_by o reply) ≡ r.outcome) → OnOk x (bytes ≡ r.session) → OnOk x ((bank_state e).stopped ≡ false) → RunDid c r (reply_or_stop x reply) e bytes
  run_did c r (Ok o) reply e bytes writes outcome session going = record { writes = writes; outcome = outcome; session = session; going = going }
  run_did c r (Err s) reply e bytes writes outcome session going = record { writes = writes; outcome = tt; session = tt; going = tt }

  -- the steps of a run
  pub run_counted : (r : Ran) (x : Result End Stop) (reply : Reply) (old new : ℕ) → OnOk x (new ≡ old + r.count) → OnErr x (new ≤ old + r.count)
      → OnOk (reply_or_stop x reply) (new ≡ old + r.count) × OnErr (reply_or_stop x reply) (new ≤ old + r.count)
  run_counted r (Ok o) reply old new ticks most = (ticks, tt)
  run_counted r (Err s) reply old new ticks most = (tt, most)

  -- the run of the application in a slot
  abbrev pub run_of : Card N → ℕ → ApduParts → ℕ → Ran
  run_of c slot a budget = run (apps_in (state c.store.device).words) (name_or (store_named (state c.store.device) slot)) c.session a budget

  module _ (c : Card N) (ready : IsReadyCard state c) (t : Selection) (is : c.manager.selected ≡ Some t) where
    named_own : store_named (state c.store.device) t.slot ≡ Some t.aid
    named_own = ready.up.fits.selected t is

    apps_own : apps_in (state c.store.device).words ≡ (card_in state c).apps
    apps_own = going_apps (state c.store.device) c.store.count ready.up.going

    -- there are as many session bytes as the application in the slot of the selection has
    pub slot_session : (slot : ℕ) → t.slot ≡ slot → length c.session ≡ (app_of (apps_in (state c.store.device).words) (store_named (state c.store.device) slot)).session
    slot_session slot at = grind (arith, apps_own, named_own)

    name_own : (slot : ℕ) → t.slot ≡ slot → name_or (store_named (state c.store.device) slot) ≡ t.aid
    name_own slot at = ap name_or (ap (λ (k : ℕ). store_named (state c.store.device) k) (sym at) ∙ named_own)

    session_state_own : (session_state_in state c).selected ≡ Some (record { name = t.aid; session = c.session })
    session_state_own = ap (λ (o : Option Selection). option_map {T = Selection} {U = Selected} (λ s. record { name = s.aid; session = c.session }) o) is

    sound : (a : ApduParts) (budget : ℕ) → RunSound (start (card_in state c).apps t.aid c.session a) (run (card_in state c).apps t.aid c.session a budget)
    sound a budget = run_sound budget (start (card_in state c).apps t.aid c.session a) (start_sound (card_in state c).apps t.aid c.session a (ready.up.session t is))

    session_state_with : (x : Option Selected) (s : List ℕ) → x ≡ Some (record { name = t.aid; session = c.session }) → option_map {T = Selected} (λ u. record u { session = s }) x ≡ Some (record { name = t.aid; session = s })
    session_state_with x s e = ap (λ (o : Option Selected). option_map {T = Selected} (λ u. record u { session = s }) o) e

    ran_commanded : (a : ApduParts) (budget : ℕ) (result : Result Outcome Stop) (e : Store N) (session : List ℕ) → RunDid c (run (card_in state c).apps t.aid c.session a budget) result e session
        → Commanded state wrote c (ran_command (session_state_in state c) t.aid (run (card_in state c).apps t.aid c.session a budget)) result (record c { store = e; session = session })
    ran_commanded a budget (Err s) e session h =
        record {
          made = card_made state wrote obeys c ready.up (run (card_in state c).apps t.aid c.session a budget).writes (sound a budget).writes e (Err s) h.writes;
          outcome = tt;
          session_state = tt;
          ready = tt;
        }
    ran_commanded a budget (Ok o) e session h =
        let r = run (card_in state c).apps t.aid c.session a budget in
        let ws = (sound a budget).writes in
        record {
          made = card_made state wrote obeys c ready.up r.writes ws e (Ok tt) h.writes;
          outcome = h.outcome;
          session_state = grind (arith, session_state_after, session, session_state_with, session_state_own);
          ready = record {
            up = still_up state wrote obeys c ready.up r.writes ws e h.writes session c.chain h.going (λ s own.
                let same : t ≡ s = cc (is, own) in
                ap length h.session ∙ (sound a budget).session ∙ ap (λ (u : Selection). (app_of (card_in state c).apps (Some u.aid)).session) same);
            idle = ready.idle;
          };
        }

    due_ran : (a : ApduParts) (budget : ℕ) (bytes : List ℕ) → apdu_read bytes ≡ Some a → route_of_parts (Some a) ≡ ToApplication a
        → due state c bytes budget ≡ ran_command (session_state_in state c) t.aid (run (card_in state c).apps t.aid c.session a budget)
    due_ran a budget bytes read to = grind (arith, due_route, session_state_own)

    run_same : (a : ApduParts) (budget slot : ℕ) → t.slot ≡ slot → run_of c slot a budget ≡ run (card_in state c).apps t.aid c.session a budget
    run_same a budget slot at = grind (arith, apps_own, name_own)

    pub ran_done : (a : ApduParts) (budget slot : ℕ) (bytes : List ℕ) (result : Result Outcome Stop) (e : Store N) (session : List ℕ) → t.slot ≡ slot → apdu_read bytes ≡ Some a → route_of_parts (Some a) ≡ ToApplication a
        → RunDid c (run_of c slot a budget) result e session
        → Commanded state wrote c (due state c bytes budget) result (record c { store = e; session = session })
    ran_done a budget slot bytes result e session at read to h =
        subst (λ (r : Command). Commanded state wrote c r result (record c { store = e; session = session })) (sym (due_ran a budget bytes read to))
        (ran_commanded a budget result e session (subst (λ (r : Ran). RunDid c r result e session) (run_same a budget slot at) h))

    -- each item of a run that was begun makes at most 147 writes
    pub ran_within : (a : ApduParts) (budget slot : ℕ) (bytes : List ℕ) (result : Result Outcome Stop) (e : Store N) (session : List ℕ) → t.slot ≡ slot → apdu_read bytes ≡ Some a → route_of_parts (Some a) ≡ ToApplication a
        → RunDid c (run_of c slot a budget) result e session
        → MadeWithin wrote (most_weight (route bytes)) (due state c bytes budget).items c.store.device (answer_of result) e.device
    ran_within a budget slot bytes result e session at read to h =
        let r = run (card_in state c).apps t.aid c.session a budget in
        let writes : InOrder (ChainWrote (store_bank state wrote)) c.store r.writes (answer_of result) e = subst (λ (x : Ran). InOrder (ChainWrote (store_bank state wrote)) c.store x.writes (answer_of result) e) (run_same a budget slot at) h.writes in
        let within : MadeWithin wrote 147 (write_items r.writes) c.store.device (answer_of result) e.device =
        writes_within state wrote obeys r.writes c.store e (answer_of result) (going_is (state c.store.device) c.store.count ready.up.going) (sound a budget).writes writes in
        subst (λ (x : Command). MadeWithin wrote (most_weight (route bytes)) x.items c.store.device (answer_of result) e.device) (sym (due_ran a budget bytes read to))
        (subst (λ (x : Route). MadeWithin wrote (most_weight x) (write_items r.writes) c.store.device (answer_of result) e.device) (sym (ap (λ (o : Option ApduParts). route_of_parts o) read ∙ to)) within)

    steps_by : (r : Ran) (result : Result Outcome Stop) (old new : ℕ) → OnOk result (new ≡ old + r.count) → OnErr result (new ≤ old + r.count) → RunSteps r (answer_of result) old new
    steps_by r (Ok o) old new done most = done
    steps_by r (Err s) old new done most = most

    pub ran_steps : (a : ApduParts) (budget slot : ℕ) (bytes : List ℕ) (result : Result Outcome Stop) (old new : ℕ) → t.slot ≡ slot → apdu_read bytes ≡ Some a → route_of_parts (Some a) ≡ ToApplication a
        → OnOk result (new ≡ old + (run_of c slot a budget).count)
        → OnErr result (new ≤ old + (run_of c slot a budget).count)
        → RouteSteps (card_in state c) (session_state_in state c).selected budget (route bytes) (answer_of result) old new
    ran_steps a budget slot bytes result old new at read to done most = grind (arith, session_state_own, run_same, steps_by)

    -- ---- the beginning of a command that an application runs

    pub begun_done : (a : ApduParts) (budget slot : ℕ) (bytes : List ℕ) (k : Chained) → t.slot ≡ slot → apdu_read bytes ≡ Some a → route_of_parts (Some a) ≡ ToApplication a
        → RunsAs (view_in state c).state (view_in state c).named k (start (apps_in (state c.store.device).words) (name_or (store_named (state c.store.device) slot)) c.session a) → k.left ≡ budget
        → PassedToChain state wrote c bytes budget (record c { chain = Some k })
    begun_done a budget slot bytes k at read to runs left =
        record {
          apdu = a;
          routed = ap (λ (o : Option ApduParts). route_of_parts o) read ∙ to;
          selected = record { name = t.aid; session = c.session };
          is = session_state_own;
          device = refl;
          session_state = refl;
          runs = record {
            up = record { going = ready.up.going; fits = ready.up.fits; session = ready.up.session };
            chained = k;
            is = refl;
            runs = subst (λ (ch : Chain). RunsAs (view_in state c).state (view_in state c).named k ch)
                (ap (λ (es : List (List ℕ × App)). start es (name_or (store_named (state c.store.device) slot)) c.session a) apps_own ∙ ap (λ (n : List ℕ). start (card_in state c).apps n c.session a) (name_own slot at)) runs;
            left = left;
            own = ap (λ (o : Option Selection). option_map (λ (s : Selection). s.aid) o) is;
            sound = start_sound (card_in state c).apps t.aid c.session a (ready.up.session t is);
          };
        }

  -- ---- a command that was passed to the application

  pub passed_commanded : (c d : Card N) (a : ApduParts) (slot budget : ℕ) (bytes : List ℕ) (result : Result Outcome Stop) (e : Store N) (session : List ℕ) → IsReadyCard state c → IsPassed state wrote c a slot d → apdu_read bytes ≡ Some a
      → RunDid d (run_of d slot a budget) result e session → Commanded state wrote c (due state c bytes budget) result (record d { store = e; session = session })
  passed_commanded c d a slot budget bytes result e session ready p read did =
      subst (λ (x : Card N). Commanded state wrote c (due state c bytes budget) result (record x { store = e; session = session })) (sym p.unchanged)
      (ran_done c ready p.selected p.is a budget slot bytes result e session p.slot_is read p.route (subst (λ (x : Card N). RunDid x (run_of x slot a budget) result e session) p.unchanged did))

  pub passed_within : (c d : Card N) (a : ApduParts) (slot budget : ℕ) (bytes : List ℕ) (result : Result Outcome Stop) (e : Store N) (session : List ℕ) → IsReadyCard state c → IsPassed state wrote c a slot d → apdu_read bytes ≡ Some a
      → RunDid d (run_of d slot a budget) result e session → MadeWithin wrote (most_weight (route bytes)) (due state c bytes budget).items c.store.device (answer_of result) e.device
  passed_within c d a slot budget bytes result e session ready p read did =
      ran_within c ready p.selected p.is a budget slot bytes result e session p.slot_is read p.route (subst (λ (x : Card N). RunDid x (run_of x slot a budget) result e session) p.unchanged did)

  pub passed_session : (c d : Card N) (a : ApduParts) (slot : ℕ) → IsReadyCard state c → IsPassed state wrote c a slot d → length d.session ≡ (app_of (apps_in (state d.store.device).words) (store_named (state d.store.device) slot)).session
  passed_session c d a slot ready p =
      subst (λ (x : Card N). length x.session ≡ (app_of (apps_in (state x.store.device).words) (store_named (state x.store.device) slot)).session) (sym p.unchanged) (slot_session c ready p.selected p.is slot p.slot_is)

  pub passed_steps : (c d : Card N) (a : ApduParts) (slot budget : ℕ) (bytes : List ℕ) (result : Result Outcome Stop) (old mid new n : ℕ) → IsReadyCard state c → IsPassed state wrote c a slot d → apdu_read bytes ≡ Some a → old ≤ mid → mid ≤ old + most_ticks a n
      → OnOk result (new ≡ mid + (run_of d slot a budget).count) → OnErr result (new ≤ mid + (run_of d slot a budget).count) → RouteSteps (card_in state c) (session_state_in state c).selected budget (route bytes) (answer_of result) old new
  passed_steps c d a slot budget bytes result old mid new n ready p read low high done most =
      let same : mid ≡ old = passed_quiet a old mid n p.route low high in
      ran_steps c ready p.selected p.is a budget slot bytes result old new p.slot_is read p.route
      (subst (λ (k : ℕ). OnOk result (new ≡ k + (run_of c slot a budget).count)) same (subst (λ (x : Card N). OnOk result (new ≡ mid + (run_of x slot a budget).count)) p.unchanged done))
      (subst (λ (k : ℕ). OnErr result (new ≤ k + (run_of c slot a budget).count)) same (subst (λ (x : Card N). OnErr result (new ≤ mid + (run_of x slot a budget).count)) p.unchanged most))

  pub passed_begun : (c d : Card N) (a : ApduParts) (slot budget : ℕ) (bytes : List ℕ) (k : Chained) → IsReadyCard state c → IsPassed state wrote c a slot d → apdu_read bytes ≡ Some a
      → RunsAs (view_in state d).state (view_in state d).named k (start (apps_in (state d.store.device).words) (name_or (store_named (state d.store.device) slot)) d.session a) → k.left ≡ budget → PassedToChain state wrote c bytes budget (record d { chain = Some k })
  passed_begun c d a slot budget bytes k ready p read runs left =
      subst (λ (x : Card N). PassedToChain state wrote c bytes budget (record x { chain = Some k })) (sym p.unchanged)
      (begun_done c ready p.selected p.is a budget slot bytes k p.slot_is read p.route
      (subst (λ (x : Card N). RunsAs (view_in state x).state (view_in state x).named k (start (apps_in (state x.store.device).words) (name_or (store_named (state x.store.device) slot)) x.session a)) p.unchanged runs) left)

  -- the chain that runs on the card after a command is passed to it
  pub passed_running : (c d : Card N) (a : ApduParts) (slot budget : ℕ) (bytes : List ℕ) (o : Option Chained) → IsReadyCard state c → IsPassed state wrote c a slot d → apdu_read bytes ≡ Some a
      → Runs o (IsBegun (view_in state d).state (view_in state d).named (start (apps_in (state d.store.device).words) (name_or (store_named (state d.store.device) slot)) d.session a) budget) → PassedToChain state wrote c bytes budget (record d { chain = o })
  passed_running c d a slot budget bytes None ready p read begun = absurd begun
  passed_running c d a slot budget bytes (Some k) ready p read begun = passed_begun c d a slot budget bytes k ready p read begun.runs begun.left

-- ---- a command whose outcome was written to a place

pub commanded_into : {N : Type 0} (state : N → DeviceState) (wrote : N → ℕ → List ℕ → Answer → N → Type 0) (c d : Card N) (r : Command) (x : Result (Unit {0}) Stop) (o : Outcome)
    → ItemsMade state wrote (card_in state c) r.items (device_in c) (answer_of x) (device_in d) → OnOk x (outcome_value o ≡ r.outcome) → OnOk x (session_state_in state d ≡ r.session_state) → OnOk x (IsReadyCard state d)
    → Commanded state wrote c r (outcome_or_stop x o) d
commanded_into state wrote c d r (Ok u) o made outcome session_state ready = record { made = made; outcome = outcome; session_state = session_state; ready = ready }
commanded_into state wrote c d r (Err s) o made outcome session_state ready = record { made = made; outcome = tt; session_state = tt; ready = tt }
