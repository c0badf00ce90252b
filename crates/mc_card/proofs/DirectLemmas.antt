-- A command that the manager of a card handles: its items, its answer, and that the card is ready again.
use Rattle.std.proofs.Common.{arith, ◌≡◌, ℕ, Bool, true, false, List, [], length, Option, Some, None, Ok, Err, refl, sym, ◌∙◌, ap, subst}
use Rattle.std.specs.Prelude.{Result, bytes_eq, is_some, option_map, IsSome}
use Rattle.std.proofs.lemmas.List.{length-replicate}
use Rattle.mc_bank.specs.model_card.specs.declared.card.Sizes.{Sizes}
use Rattle.mc_words.specs.model_device.specs.declared.device.Stop.{Stop}
use Rattle.mc_words.specs.model_device.specs.Orders.{Answer, InOrder}
use Rattle.mc_apdu.specs.model_machine.specs.Apdu.{ApduParts}
use Rattle.mc_words.specs.model_device.specs.Bytes.{zeros, lookup, insert}
use Rattle.mc_words.specs.model_device.specs.Device.{DeviceState, Wrote}
use Rattle.mc_words.specs.model_device.specs.Card.{App, Card as ModelCard}
use Rattle.mc_bank.specs.model_card.specs.Items.{BankItem}
use Rattle.mc_bank.specs.model_card.specs.Manager.{Selected, SessionState, Managed, Declines, Accepts, Accepted, Route, WrongLength, WrongClass, ToSelect, ToManager, ToApplication, route_of_parts, select, is_selected, manage, room_on}
use Rattle.mc_apdu.specs.model_machine.specs.Chain.{Reply}
use Rattle.mc_bank.specs.model_card.specs.Commands.{Command, manager_command, application_command, by_route}
use Rattle.mc_manager.specs.law_manager.specs.Orders.{Order, order_of}
use Rattle.mc_manager.specs.law_manager.specs.Answers.{IsAnswer}
use Rattle.mc_manager.specs.law_manager.proofs.Orders.{answer_made}
use Rattle.mc_bank.specs.Bank.{app_of}
use Rattle.mc_bank.specs.Slots.{slot_place}
use Rattle.mc_bank.specs.SlotLaws.{has_sizes}
use Rattle.mc_apdu.specs.declared.reply.Reply.{Reply as CardReply}
use Rattle.mc_manager.specs.declared.selection.Selection.{Selection}
use Rattle.mc_manager.specs.declared.routed.Routed.{Routed}
use Rattle.mc_manager.specs.declared.routed.Routed.TheVariants.{Answer as Answers, Fresh, Pass}
use Rattle.mc_manager.specs.ManagerState.{BankView, ManagerState, session_state_of, ManagerFits}
use Rattle.mc_manager.specs.CommandDue.{CommandDue, Refuses, Selects, Does, Passes, due_select, due_manager, due_application, due_on, due, items_of, apps_after, CommandLeaves}
use Rattle.mc_manager.specs.Ends.{CommandEnds}
use Rattle.mc_machine.specs.declared.outcome.Outcome.TheVariants as outcome
use Rattle.mc_machine.specs.Turns.{outcome_value}
use Rattle.mc_store.specs.declared.store.Store.{Store}
use Rattle.mc_store.specs.Store.{apps_in, is_going, place_named, store_named, store_site_bytes}
use Rattle.mc_store.specs.StoreItems.{store_did, named_there}
use Rattle.mc_store.proofs.BankLemmas.{running}
use Rattle.mc_card.specs.declared.card.Card.{Card}
use Rattle.mc_card.specs.Parts.{card_in, session_state_in, view_in, IsReadyCard}
use Rattle.mc_card.specs.Ends.{is_passed}
use Rattle.mc_card.specs.Managing.{IsAnswered, IsPassed}
use Rattle.mc_card.proofs.StaticLemmas.{going_apps}
use Rattle.mc_card.proofs.ManagerLemmas.{due_made}
use Rattle.mc_words.specs.model_device.proofs.MapLemmas.{same_name, lookup_beside, lookup_left, other_way}

-- ---- the verdict on a command, and what it does

-- the outcome and the session state of a command are those of the verdict on it
abbrev Matches : CommandDue → SessionState → Command → Type 0
Matches (Refuses sw) session_state r = (r.outcome ≡ Reply [] sw) × (r.session_state ≡ session_state)
Matches (Selects d) session_state r = (r.outcome ≡ Reply d.body 0x9000) × (r.session_state ≡ d.session_state)
Matches (Does d) session_state r = (r.outcome ≡ Reply d.body 0x9000) × (r.session_state ≡ d.session_state)
Matches Passes session_state r = Unit {0}

select_matches : (c : ModelCard) (session_state : SessionState) (x : Managed) → Matches (due_select x) session_state (manager_command c session_state x)
select_matches c session_state (Declines sw) = (refl, refl)
select_matches c session_state (Accepts d) = (refl, refl)

manager_matches : (c : ModelCard) (session_state : SessionState) (x : Managed) → Matches (due_manager x) session_state (manager_command c session_state x)
manager_matches c session_state (Declines sw) = (refl, refl)
manager_matches c session_state (Accepts d) = (refl, refl)

application_matches : (c : ModelCard) (session_state : SessionState) (x : Option Selected) (a : ApduParts) (budget : ℕ) → Matches (due_application x) session_state (application_command c session_state x a budget)
application_matches c session_state None a budget = (refl, refl)
application_matches c session_state (Some s) a budget = tt

-- a command that is not passed to the application has another verdict
pub passed_not : (v : BankView) (session_state : SessionState) (r : Route) → (due_on v session_state r ≡ Passes → ⊥) → is_passed r session_state.selected ≡ false
passed_not v session_state r h = grind arith

-- ---- the selected application is unchanged

module _ (apps : List (List ℕ × App)) (n : List ℕ) (there : is_some (lookup apps n) ≡ true) where
  -- the application of this name is unchanged by a command
  abbrev CommandSpares : CommandDue → Type 0
  CommandSpares d = lookup (apps_after d apps) n ≡ lookup apps n

  inserted_spares : (k : List ℕ) (x : App) → lookup apps k ≡ None → lookup (insert apps k x) n ≡ lookup apps n
  inserted_spares k x none = by_test (bytes_eq k n) refl
    where
      by_test : (b : Bool) → bytes_eq k n ≡ b → lookup (insert apps k x) n ≡ lookup apps n
      by_test true e = absurd (cc (ap (λ (t : List ℕ). is_some (lookup apps t)) (sym (same_name k n e)), ap is_some none, there))
      by_test false e = lookup_beside apps k x n e

  made_spares : (room : Sizes → Option ℕ) (session_state : SessionState) (a : ApduParts) (o : Order) (m : Managed) → (is_selected session_state.selected a.body ≡ false → bytes_eq a.body n ≡ false)
      → IsAnswer room apps session_state a o m → CommandSpares (due_manager m)
  made_spares room session_state a o m other h = grind (arith, inserted_spares, lookup_left)

  manage_spares : (room : Sizes → Option ℕ) (session_state : SessionState) (a : ApduParts) → (is_selected session_state.selected a.body ≡ false → bytes_eq a.body n ≡ false) → CommandSpares (due_manager (manage room apps session_state a))
  manage_spares room session_state a other = made_spares room session_state a (order_of a.ins) (manage room apps session_state a) other (answer_made room apps session_state a)

-- the selected application is unchanged by a command
due_spares : (v : BankView) (s : List ℕ) (m : ManagerState) (t : Selection) (r : Route) → m.selected ≡ Some t → is_some (lookup v.state.apps t.aid) ≡ true
    → lookup (apps_after (due_on v (session_state_of v.site_bytes s m) r) v.state.apps) t.aid ≡ lookup v.state.apps t.aid
due_spares v s m t r is there = grind (arith, manage_spares, other_way)

-- ---- the answer

outcome_of : (x : CommandDue) (session_state : SessionState) (r : Command) (reply : CardReply) (s : List ℕ) (v w : BankView) (m n : ManagerState) → Matches x session_state r → CommandLeaves x s v m (Answers reply) w n → outcome_value (outcome.Reply reply) ≡ r.outcome
outcome_of x session_state r reply s v w m n match leaves = grind arith

selected_of : (x : CommandDue) (reply : CardReply) (s : List ℕ) (v w : BankView) (m n : ManagerState) → CommandLeaves x s v m (Answers reply) w n → n.selected ≡ m.selected
selected_of x reply s v w m n leaves = grind arith

-- only a SELECT makes a new selection, and it makes no items
quiet_select : (v : BankView) (session_state : SessionState) (r : Route) (d : Accepted) → due_on v session_state r ≡ Selects d → d.items ≡ []
quiet_select v session_state r d h = grind arith

-- ---- the route of a command that is passed to the application

routed_apdu : (a x : ApduParts) → route_of_parts (Some a) ≡ ToApplication x → x ≡ a
routed_apdu a x h = grind arith

passed_route : (v w : BankView) (session_state : SessionState) (r : Route) (s : List ℕ) (k : ℕ) (m n : ManagerState) → CommandLeaves (due_on v session_state r) s v m (Pass k) w n → (x : ApduParts) × (r ≡ ToApplication x)
passed_route v w session_state r s k m n h = grind arith

card_same : {N : Type 0} (c d : Card N) → d.store ≡ c.store → d.manager ≡ c.manager → d.session ≡ c.session → d.chain ≡ c.chain → d ≡ c
card_same c d store manager session chain = grind arith

-- ---- the clauses

-- the end of a command that the manager of a card handled
abbrev pub DirectEnds : {N : Type 0} → (N → DeviceState) → (N → ℕ → List ℕ → Answer → N → Type 0) → Card N → ApduParts → Result Routed Stop → Card N → Type 0
DirectEnds state wrote c a result d =
    CommandEnds (store_did state wrote) (λ s. due (view_in state c) s c.manager a) (view_in state c) c.manager c.store result (view_in state d) d.manager d.store

module _ {N : Type 0} (state : N → DeviceState) (wrote : N → ℕ → List ℕ → Answer → N → Type 0)
    (obeys : (d : N) (at : ℕ) (w : List ℕ) (a : Answer) (e : N) → (state d).on ≡ true → wrote d at w a e → Wrote (state d) at w a (state e)) where
  -- the outcome and the session state of a command are those of the verdict on it
  matches : (c : Card N) (budget : ℕ) (r : Route) → is_going (state c.store.device) c.store.count ≡ true → Matches (due_on (view_in state c) (session_state_in state c) r) (session_state_in state c) (by_route (card_in state c) (session_state_in state c) budget r)
  matches c budget WrongLength going = (refl, refl)
  matches c budget WrongClass going = (refl, refl)
  matches c budget (ToSelect a) going =
      subst (λ (apps : List (List ℕ × App)). Matches (due_select (select apps (session_state_in state c) a)) (session_state_in state c) (manager_command (card_in state c) (session_state_in state c) (select (card_in state c).apps (session_state_in state c) a)))
      (sym (going_apps (state c.store.device) c.store.count going)) (select_matches (card_in state c) (session_state_in state c) (select (card_in state c).apps (session_state_in state c) a))
  matches c budget (ToManager a) going =
      subst (λ (apps : List (List ℕ × App)). Matches (due_manager (manage (room_on (card_in state c)) apps (session_state_in state c) a)) (session_state_in state c) (manager_command (card_in state c) (session_state_in state c) (manage (room_on (card_in state c)) (card_in state c).apps (session_state_in state c) a)))
      (sym (going_apps (state c.store.device) c.store.count going)) (manager_matches (card_in state c) (session_state_in state c) (manage (room_on (card_in state c)) (card_in state c).apps (session_state_in state c) a))
  matches c budget (ToApplication a) going = application_matches (card_in state c) (session_state_in state c) (session_state_in state c).selected a budget

  -- the session state after an answer
  session_state_of_answer : (x : CommandDue) (c d : Card N) (r : Command) (reply : CardReply) → d.session ≡ c.session → Matches x (session_state_in state c) r → InOrder (store_did state wrote) c.store (items_of x) (Ok tt) d.store
      → CommandLeaves x c.session (view_in state c) c.manager (Answers reply) (view_in state d) d.manager → session_state_in state d ≡ r.session_state
  session_state_of_answer x c d r reply session match items leaves = grind arith

  -- the number of session bytes of the selected application is unchanged
  session_stays : (c d : Card N) (t : Selection) (after : List (List ℕ × App)) → is_going (state c.store.device) c.store.count ≡ true → is_going (state d.store.device) d.store.count ≡ true → apps_in (state d.store.device).words ≡ after
      → lookup after t.aid ≡ lookup (apps_in (state c.store.device).words) t.aid → (app_of (card_in state d).apps (Some t.aid)).session ≡ (app_of (card_in state c).apps (Some t.aid)).session
  session_stays c d t after before now apps same = grind (arith, going_apps)

  -- the selected application is on the card
  selected_there : (c : Card N) (t : Selection) → ManagerFits (view_in state c) c.manager → c.manager.selected ≡ Some t → is_some (lookup (apps_in (state c.store.device).words) t.aid) ≡ true
  selected_there c t fits is =
      let apps = apps_in (state c.store.device).words in
      let sized = has_sizes apps t.slot (place_named (state c.store.device) (slot_place t.slot)) t.aid (fits.selected t is) in
      named_there apps (slot_place t.slot) t.aid sized.name

  -- a command that is answered
  pub answered_done : (a : ApduParts) (c d : Card N) (reply : CardReply) → IsReadyCard state c → d.session ≡ c.session → d.chain ≡ c.chain → DirectEnds state wrote c a (Ok (Answers reply)) d
      → IsAnswered state wrote c a (Ok (outcome.Reply reply)) d
  answered_done a c d reply ready session chain ends =
      let going : is_going (state c.store.device) c.store.count ≡ true = ready.up.going in
      let r = route_of_parts (Some a) in
      let x = due_on (view_in state c) (session_state_in state c) r in
      let leaves : CommandLeaves x c.session (view_in state c) c.manager (Answers reply) (view_in state d) d.manager = ends.leaves c.session in
      let other : x ≡ Passes → ⊥ = λ e. subst (λ (y : CommandDue). CommandLeaves y c.session (view_in state c) c.manager (Answers reply) (view_in state d) d.manager) e leaves in
      let now : is_going (state d.store.device) d.store.count ≡ true = running (state d.store.device) d.store.count ends.going in
      record {
        stays = passed_not (view_in state c) (session_state_in state c) r other;
        commanded = λ budget. record {
          made = due_made state wrote obeys c.store c.session c.manager going ready.up.fits budget r d.store (Ok tt) other (ends.items c.session);
          outcome = outcome_of x (session_state_in state c) (by_route (card_in state c) (session_state_in state c) budget r) reply c.session (view_in state c) (view_in state d) c.manager d.manager (matches c budget r going) leaves;
          session_state = session_state_of_answer x c d (by_route (card_in state c) (session_state_in state c) budget r) reply session (matches c budget r going) (ends.items c.session) leaves;
          ready = record {
            up = record {
              going = now;
              fits = ends.fits;
              session = λ t is.
                  let before : c.manager.selected ≡ Some t = sym (selected_of x reply c.session (view_in state c) (view_in state d) c.manager d.manager leaves) ∙ is in
                  ap length session ∙ ready.up.session t before
                  ∙ sym (session_stays c d t (apps_after x (apps_in (state c.store.device).words)) going now (ends.apps c.session).apps
                  (due_spares (view_in state c) c.session c.manager t r before (selected_there c t ready.up.fits before)));
            };
            idle = chain ∙ ready.idle;
          };
        };
      }

  -- ---- a stop

  stops_not : (x : CommandDue) (c d : Card N) (t : Stop) → x ≡ Passes → InOrder (store_did state wrote) c.store (items_of x) (Err t) d.store → ⊥
  stops_not x c d t is h = subst (λ (y : CommandDue). InOrder (store_did state wrote) c.store (items_of y) (Err t) d.store) is h

  -- a command that a stop ended
  pub stopped_done : (a : ApduParts) (c d : Card N) (t : Stop) → IsReadyCard state c → DirectEnds state wrote c a (Err t) d → IsAnswered state wrote c a (Err t) d
  stopped_done a c d t ready ends =
      let r = route_of_parts (Some a) in
      let x = due_on (view_in state c) (session_state_in state c) r in
      let other : x ≡ Passes → ⊥ = λ e. stops_not x c d t e (ends.items c.session) in
      record {
        stays = passed_not (view_in state c) (session_state_in state c) r other;
        commanded = λ budget. record {
          made = due_made state wrote obeys c.store c.session c.manager ready.up.going ready.up.fits budget r d.store (Err t) other (ends.items c.session);
          outcome = tt;
          session_state = tt;
          ready = tt;
        };
      }

  -- ---- a new selection

  -- the application of a new selection, and the session state after it
  record NewlySelected (c d : Card N) (r : Command) (slot : ℕ) (reply : CardReply) : Type 0 where
    store : d.store ≡ c.store
    selected : Selection
    is : d.manager.selected ≡ Some selected
    slot_is : selected.slot ≡ slot
    outcome : outcome_value (outcome.Reply reply) ≡ r.outcome
    session_state : session_state_of (store_site_bytes (state c.store.device)) (zeros (app_of (apps_in (state c.store.device).words) (Some selected.aid)).session) d.manager ≡ r.session_state

  newly : (x : CommandDue) (c d : Card N) (a : ApduParts) (r : Command) (slot : ℕ) (reply : CardReply) → due_on (view_in state c) (session_state_in state c) (route_of_parts (Some a)) ≡ x → Matches x (session_state_in state c) r → InOrder (store_did state wrote) c.store (items_of x) (Ok tt) d.store
      → CommandLeaves x c.session (view_in state c) c.manager (Fresh slot reply) (view_in state d) d.manager → NewlySelected c d r slot reply
  newly (Refuses sw) c d a r slot reply is match items leaves = absurd leaves
  newly (Does q) c d a r slot reply is match items leaves = absurd leaves
  newly Passes c d a r slot reply is match items leaves = absurd leaves
  newly (Selects q) c d a r slot reply is match items leaves =
      let none : q.items ≡ [] = quiet_select (view_in state c) (session_state_in state c) (route_of_parts (Some a)) q is in
      record {
        store = subst (λ (l : List BankItem). InOrder (store_did state wrote) c.store l (Ok tt) d.store) none items;
        selected = leaves.selected;
        is = leaves.now;
        slot_is = leaves.slot;
        outcome = ap (λ (b : List ℕ). Reply b reply.sw) leaves.reply.body ∙ ap (λ (k : ℕ). Reply q.body k) leaves.reply.sw ∙ sym match.0;
        session_state = leaves.session_state ∙ sym match.1;
      }

  -- the session bytes of a new selection are zeros
  pub selected_done : (a : ApduParts) (c d : Card N) (slot : ℕ) (reply : CardReply) → IsReadyCard state c → d.session ≡ zeros (app_of (apps_in (state d.store.device).words) (store_named (state d.store.device) slot)).session → d.chain ≡ c.chain
      → DirectEnds state wrote c a (Ok (Fresh slot reply)) d → IsAnswered state wrote c a (Ok (outcome.Reply reply)) d
  selected_done a c d slot reply ready session chain ends =
      let going : is_going (state c.store.device) c.store.count ≡ true = ready.up.going in
      let r = route_of_parts (Some a) in
      let x = due_on (view_in state c) (session_state_in state c) r in
      let leaves : CommandLeaves x c.session (view_in state c) c.manager (Fresh slot reply) (view_in state d) d.manager = ends.leaves c.session in
      let other : x ≡ Passes → ⊥ = λ e. subst (λ (y : CommandDue). CommandLeaves y c.session (view_in state c) c.manager (Fresh slot reply) (view_in state d) d.manager) e leaves in
      let now : is_going (state d.store.device) d.store.count ≡ true = running (state d.store.device) d.store.count ends.going in
      record {
        stays = passed_not (view_in state c) (session_state_in state c) r other;
        commanded = λ budget.
            let q : NewlySelected c d (by_route (card_in state c) (session_state_in state c) budget r) slot reply = newly x c d a (by_route (card_in state c) (session_state_in state c) budget r) slot reply refl (matches c budget r going) (ends.items c.session) leaves in
            let named : store_named (state d.store.device) slot ≡ Some q.selected.aid = ap (λ (k : ℕ). store_named (state d.store.device) k) (sym q.slot_is) ∙ ends.fits.selected q.selected q.is in
            let size : d.session ≡ zeros (app_of (apps_in (state d.store.device).words) (Some q.selected.aid)).session = session ∙ ap (λ (o : Option (List ℕ)). zeros (app_of (apps_in (state d.store.device).words) o).session) named in
            record {
              made = due_made state wrote obeys c.store c.session c.manager going ready.up.fits budget r d.store (Ok tt) other (ends.items c.session);
              outcome = q.outcome;
              session_state = ap (λ (s : List ℕ). session_state_of (store_site_bytes (state d.store.device)) s d.manager) size
                  ∙ ap (λ (s : Store N). session_state_of (store_site_bytes (state s.device)) (zeros (app_of (apps_in (state s.device).words) (Some q.selected.aid)).session) d.manager) q.store ∙ q.session_state;
              ready = record {
                up = record {
                  going = now;
                  fits = ends.fits;
                  session = λ t is.
                      let same : q.selected ≡ t = cc (q.is, is) in
                      ap length size ∙ length-replicate (app_of (apps_in (state d.store.device).words) (Some q.selected.aid)).session 0
                      ∙ ap (λ (u : Selection). (app_of (apps_in (state d.store.device).words) (Some u.aid)).session) same
                      ∙ ap (λ (es : List (List ℕ × App)). (app_of es (Some t.aid)).session) (going_apps (state d.store.device) d.store.count now);
                };
                idle = chain ∙ ready.idle;
              };
            };
      }

  -- the slot of a new selection has an application
  pub fresh_slot : (a : ApduParts) (c d : Card N) (slot : ℕ) (reply : CardReply) → IsReadyCard state c → DirectEnds state wrote c a (Ok (Fresh slot reply)) d → IsSome (store_named (state d.store.device) slot)
  fresh_slot a c d slot reply ready ends =
      let r = route_of_parts (Some a) in
      let one : NewlySelected c d (by_route (card_in state c) (session_state_in state c) 1 r) slot reply =
      newly (due_on (view_in state c) (session_state_in state c) r) c d a (by_route (card_in state c) (session_state_in state c) 1 r) slot reply refl (matches c 1 r ready.up.going) (ends.items c.session) (ends.leaves c.session) in
      ap is_some (ap (λ (k : ℕ). store_named (state d.store.device) k) (sym one.slot_is) ∙ ends.fits.selected one.selected one.is)

  -- ---- a command that is passed to the application

  slot_of : (x : Option Selection) (k : ℕ) → option_map (λ (s : Selection). s.slot) x ≡ Some k → (t : Selection) × (x ≡ Some t) × (t.slot ≡ k)
  slot_of None k h = absurd (cc h)
  slot_of (Some t) k h = (t, refl, cc h)

  pass_is : (m : ManagerState) (s : List ℕ) (v w : BankView) (n : ManagerState) (k : ℕ) (b e : Store N) (x : Option Selected) → InOrder (store_did state wrote) b (items_of (due_application x)) (Ok tt) e → CommandLeaves (due_application x) s v m (Pass k) w n
      → (e ≡ b) × (n ≡ m) × (option_map (λ (s : Selection). s.slot) m.selected ≡ Some k)
  pass_is m s v w n k b e None items leaves = absurd leaves
  pass_is m s v w n k b e (Some y) items leaves = (items, leaves.unchanged, leaves.slot)

  pub passed_done : (a : ApduParts) (c d : Card N) (slot : ℕ) → d.session ≡ c.session → d.chain ≡ c.chain → DirectEnds state wrote c a (Ok (Pass slot)) d → IsPassed state wrote c a slot d
  passed_done a c d slot session chain ends =
      let found = passed_route (view_in state c) (view_in state d) (session_state_in state c) (route_of_parts (Some a)) c.session slot c.manager d.manager (ends.leaves c.session) in
      let same : found.0 ≡ a = routed_apdu a found.0 found.1 in
      let route : route_of_parts (Some a) ≡ ToApplication a = found.1 ∙ ap (λ (x : ApduParts). ToApplication x) same in
      let leaves : CommandLeaves (due_application (session_state_in state c).selected) c.session (view_in state c) c.manager (Pass slot) (view_in state d) d.manager =
      subst (λ (r : Route). CommandLeaves (due_on (view_in state c) (session_state_in state c) r) c.session (view_in state c) c.manager (Pass slot) (view_in state d) d.manager) route (ends.leaves c.session) in
      let items : InOrder (store_did state wrote) c.store (items_of (due_application (session_state_in state c).selected)) (Ok tt) d.store =
      subst (λ (r : Route). InOrder (store_did state wrote) c.store (items_of (due_on (view_in state c) (session_state_in state c) r)) (Ok tt) d.store) route (ends.items c.session) in
      let is = pass_is c.manager c.session (view_in state c) (view_in state d) d.manager slot c.store d.store (session_state_in state c).selected items leaves in
      let sel = slot_of c.manager.selected slot is.2 in
      record {
        route = route;
        selected = sel.0;
        is = sel.1;
        slot_is = sel.2;
        unchanged = card_same c d is.0 is.1 session chain;
      }
