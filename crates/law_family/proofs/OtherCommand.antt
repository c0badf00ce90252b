-- A command that is none of a family leaves its applications as they are, and its selection, but for a SELECT that is
-- done.
use Rattle.std.specs.Prelude.{◌≡◌, ℕ, Bool, true, false, cond, not, ◌&&◌, List, [], ◌∷◌, length, Option, Some, None, ⊤}
use Rattle.std.proofs.Common.{refl, ap, sym, ◌∙◌}
use Rattle.model_play.specs.model_device.specs.Bytes.{zeros, has_name}
use Rattle.model_play.specs.model_machine.specs.Apdu.{ApduParts}
use Rattle.model_play.specs.model_device.specs.Card.{Card}
use Rattle.model_play.specs.model_machine.specs.Chain.{run}
use Rattle.model_play.specs.model_card.specs.Items.{Created, Item}
use Rattle.model_play.specs.model_card.specs.Manager.{Selected, SessionState, Route, WrongLength, WrongClass, ToSelect, ToManager, ToApplication, route, select, p1p2, word_parts, fresh, manage, room_on}
use Rattle.model_play.specs.model_card.specs.Commands.{Command, atomic_of, manager_command, application_command, by_route, command}
use Rattle.model_play.specs.Play.{Answered, send, command_with_rest, is_done}
use Rattle.model_play.specs.model_card.specs.Items as items
use Rattle.law_manager.specs.Orders.{Order, order_of}
use Rattle.law_manager.specs.OnCard.{IsCommand, IsSelect, plains, blank_words}
use Rattle.law_manager.specs.OnCard as made
use Rattle.law_manager.proofs.OnCard.{command_made, selects_law}
use Rattle.law_manager.proofs.Plains.{plains_are}
use Rattle.model_play.specs.Family.{ClosedPairs, routes_in, selects_in}
use Rattle.model_play.specs.Given.{is_done_reply, selects_foreign, is_foreign_select}
use Rattle.law_family.proofs.RunLemma.{RunAlike, run_alike}
use Rattle.law_family.proofs.Sim.{own_of}
use Rattle.law_family.proofs.Stops.{AreOthers, are_others_append, writes_others}

-- nothing if the selection was lost
abbrev pub unless : Bool → Option Selected → Option Selected
unless true o = None
unless false o = o

-- its items are others', and the family's selection is what it was, unless it is lost
pub record Other (K : List (List ℕ)) (session_state : SessionState) (lost : Bool) (r : Command) : Type 0 where
  pub others : AreOthers K r.items
  pub selected : own_of K r.session_state.selected ≡ unless lost (own_of K session_state.selected)

-- ---- the manager

-- a command that leaves the selection of the card as it is
pub record Aside (K : List (List ℕ)) (session_state : SessionState) (r : Command) : Type 0 where
  pub others : AreOthers K r.items
  pub selected : r.session_state.selected ≡ session_state.selected

module _ (K : List (List ℕ)) (c : Card) (session_state : SessionState) where
  plain_others : (n : ℕ) (is : List Item) → AreOthers K is → AreOthers K (plains n is)
  plain_others = plains_are (AreOthers K) (λ is h. (tt, h))

  made_aside : (a : ApduParts) (o : Order) (r : Command) → IsCommand c session_state a o r → Aside K session_state r
  made_aside a _ _ (made.refused o sw h) = record { others = tt; selected = refl }
  made_aside a _ _ (made.quiet o body load h) = record { others = tt; selected = refl }
  made_aside a _ _ (made.loaded p l h) = record { others = plain_others (length (word_parts (p1p2 a) a.body)) [] tt; selected = refl }
  made_aside a _ _ (made.created l n h) =
      let whole = atomic_of c (Some (Created n (fresh l))) in
      record { others = plain_others (blank_words l.site) (plains 4 (whole ∷ [])) (plain_others 4 (whole ∷ []) (tt, tt)); selected = refl }
  made_aside a _ _ (made.deleted h) = record { others = (tt, tt); selected = refl }

  managed_aside : (a : ApduParts) → Aside K session_state (manager_command c session_state (manage (room_on c) c.apps session_state a))
  managed_aside a = made_aside a (order_of a.ins) (manager_command c session_state (manage (room_on c) c.apps session_state a)) (command_made c session_state a)

  -- ---- all routes

  -- a SELECT of a name outside the family
  select_other : (a : ApduParts) (r : Command) → has_name a.body K ≡ false → IsSelect c session_state a r → Other K session_state (is_done_reply (Some (Answered r.outcome))) r
  select_other a _ outside (made.unselected sw h) = record { others = tt; selected = sym (ap (λ (b : Bool). unless b (own_of K session_state.selected)) h) }
  select_other a _ outside (made.selected app h) = record { others = tt; selected = ap (λ (b : Bool). cond b (Some (record { name = a.body; session = zeros app.session })) None) outside }

  other_select : (a : ApduParts) (b : Bool) → has_name a.body K ≡ b → b ≡ false
      → let r = manager_command c session_state (select c.apps session_state a) in Other K session_state (not b && is_done_reply (Some (Answered r.outcome))) r
  other_select a true h e = absurd (cc e)
  other_select a false h e = select_other a (manager_command c session_state (select c.apps session_state a)) h (selects_law c session_state a)

  other_passed : (a : ApduParts) (budget : ℕ) (o : Option Selected) → session_state.selected ≡ o → selects_in K o ≡ false → ClosedPairs K (application_command c session_state o a budget).pairs → Other K session_state false (application_command c session_state o a budget)
  other_passed a budget None e h closed = record { others = tt; selected = refl }
  other_passed a budget (Some s) e h closed =
      let r : RunAlike K false (run c.apps s.name s.session a budget) (run c.apps s.name s.session a budget) = run_alike K false c.apps c.apps s.name s.session a budget closed (λ k on. refl) h in
      record {
        others = writes_others K (run c.apps s.name s.session a budget).writes r.mine;
        selected =
            ap (λ (b : Bool). cond b (Some (record { name = s.name; session = (run c.apps s.name s.session a budget).session })) None) h
            ∙ sym (ap (own_of K) e ∙ ap (λ (b : Bool). cond b (Some s) None) h);
      }

  pub aside_other : (r : Command) → Aside K session_state r → Other K session_state false r
  aside_other r h = record { others = h.others; selected = ap (own_of K) h.selected }

  other_routed : (budget : ℕ) (r : Route) → routes_in K session_state r ≡ false → ClosedPairs K (by_route c session_state budget r).pairs
      → Other K session_state (selects_foreign K r && is_done_reply (Some (Answered (by_route c session_state budget r).outcome))) (by_route c session_state budget r)
  other_routed budget WrongLength h closed = record { others = tt; selected = refl }
  other_routed budget WrongClass h closed = record { others = tt; selected = refl }
  other_routed budget (ToSelect a) h closed = other_select a (has_name a.body K) refl h
  other_routed budget (ToManager a) h closed = aside_other (by_route c session_state budget (ToManager a)) (managed_aside a)
  other_routed budget (ToApplication a) h closed = other_passed a budget session_state.selected refl h closed

  pub other_command : (bytes : List ℕ) (budget : ℕ) → routes_in K session_state (route bytes) ≡ false → ClosedPairs K (command c session_state bytes budget).pairs
      → Other K session_state (is_foreign_select K (Some bytes) && is_done_reply (Some (Answered (command c session_state bytes budget).outcome))) (command c session_state bytes budget)
  unfolding command
  other_command bytes budget h closed = other_routed budget (route bytes) h closed

-- ---- the commands of a load and of a deletion

-- a command that reaches the manager or nothing
abbrev pub IsManagers : Route → Type 0
IsManagers WrongLength = ⊤
IsManagers (ToManager a) = ⊤
IsManagers WrongClass = ⊥
IsManagers (ToSelect a) = ⊥
IsManagers (ToApplication a) = ⊥

abbrev pub AreManagers : List (List ℕ) → Type 0
AreManagers [] = ⊤
AreManagers (b ∷ bs) = IsManagers (route b) × AreManagers bs

pub routed_aside : (K : List (List ℕ)) (c : Card) (session_state : SessionState) (budget : ℕ) (r : Route) → IsManagers r → Aside K session_state (by_route c session_state budget r)
routed_aside K c session_state budget WrongLength h = record { others = tt; selected = refl }
routed_aside K c session_state budget (ToManager a) h = managed_aside K c session_state a
routed_aside K c session_state budget WrongClass h = absurd h
routed_aside K c session_state budget (ToSelect a) h = absurd h
routed_aside K c session_state budget (ToApplication a) h = absurd h

pub command_aside : (K : List (List ℕ)) (c : Card) (session_state : SessionState) (budget : ℕ) (b : List ℕ) → IsManagers (route b) → Aside K session_state (command c session_state b budget)
unfolding command
command_aside K c session_state budget b h = routed_aside K c session_state budget (route b) h

sent_aside : (K : List (List ℕ)) (session_state : SessionState) (b : Bool) (r rest : Command) → Aside K session_state r → Aside K r.session_state rest → Aside K session_state (command_with_rest b r rest)
sent_aside K session_state true r rest g h = record { others = are_others_append K r.items rest.items g.others h.others; selected = h.selected ∙ g.selected }
sent_aside K session_state false r rest g h = g

pub send_aside : (K : List (List ℕ)) (c : Card) (session_state : SessionState) (budget : ℕ) (bs : List (List ℕ)) → AreManagers bs → Aside K session_state (send c session_state budget bs)
unfolding send
send_aside K c session_state budget [] h = record { others = tt; selected = refl }
send_aside K c session_state budget (b ∷ bs) h =
    let r = command c session_state b budget in
    let rest = send (items.card_done c r.items) r.session_state budget bs in
    sent_aside K session_state (is_done r.outcome) r rest (command_aside K c session_state budget b h.0) (send_aside K (items.card_done c r.items) r.session_state budget bs h.1)
