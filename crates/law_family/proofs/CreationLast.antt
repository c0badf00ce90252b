-- A creation is the last item of its line, so if it is durable the map has it.
use Rattle.std.specs.Prelude.{◌≡◌, ℕ, ◌-◌, Bool, true, false, cond, nat_le, ◌==◌, List, [], ◌∷◌, ◌++◌, Option, Some, None, ⊤}
use Rattle.std.proofs.Common.{arith, refl, ap, sym, subst, ◌∙◌}
use Rattle.model_play.specs.model_device.specs.Bytes.{insert, remove}
use Rattle.model_play.specs.model_device.specs.Image.{Two}
use Rattle.model_play.specs.model_device.specs.Stopped.{cost, stands}
use Rattle.model_play.specs.model_machine.specs.Apdu.{ApduParts}
use Rattle.model_play.specs.model_device.specs.Card.{App, Card}
use Rattle.model_play.specs.model_machine.specs.Chain.{Write, map_changed, run}
use Rattle.model_play.specs.model_card.specs.Items.{Change, Fixed, Created, Deleted, Item, Plain, Atomic, apps_after_items, Stopped, with_item, in_flight, at_stop, Site, BankItem, Piece, Blank, Note, Commit, Enter, Remove, write_items}
use Rattle.model_play.specs.model_card.specs.Items as items
use Rattle.model_play.specs.model_card.specs.Manager.{Selected, SessionState, Route, WrongLength, WrongClass, ToSelect, ToManager, ToApplication, route, select, manage, room_on}
use Rattle.model_play.specs.model_card.specs.Commands.{Command, manager_command, application_command, by_route, command, refusal}
use Rattle.law_manager.specs.Orders.{Order, order_of}
use Rattle.law_manager.specs.OnCard.{IsCommand, IsSelect, plains, blank_words}
use Rattle.law_manager.specs.OnCard as made
use Rattle.law_manager.proofs.OnCard.{command_made, selects_law}
use Rattle.law_manager.proofs.Plains.{plains_are}
use Rattle.model_play.specs.Play.{is_done, send, command_with_rest}
use Rattle.model_play.specs.Laws.{Sent, creation_of_command, creations_among, without_places, AllAreIn}
use Rattle.law_family.proofs.LoadCommands.{IsFiller, AreFillers}
use Rattle.law_family.proofs.FreshCommands.{load_sent, made_at, command_fresh}
use Rattle.model_play.specs.model_device.proofs.MapLemmas.{lookup_inserted_lem}

-- ---- a creation is the last item of its line

abbrev pub LastCreates : List Item → Type 0
LastCreates [] = ⊤
LastCreates (Plain ∷ is) = LastCreates is
LastCreates (Atomic w (Fixed n ps) ∷ is) = LastCreates is
LastCreates (Atomic w (Deleted n) ∷ is) = LastCreates is
LastCreates (Atomic w (Created n a) ∷ is) = is ≡ []

-- if it is durable, the map has it
pub created_stands : (is : List Item) (m : List (List ℕ × App)) → LastCreates is → AllAreIn (apps_after_items m is) (creations_among is)
created_stands [] m h = tt
created_stands (Plain ∷ is) m h = created_stands is m h
created_stands (Atomic w (Fixed n ps) ∷ is) m h = created_stands is (map_changed m n (Some ps)) h
created_stands (Atomic w (Deleted n) ∷ is) m h = created_stands is (remove m n) h
created_stands (Atomic w (Created n a) ∷ is) m h =
    subst (λ (js : List Item). AllAreIn (apps_after_items (insert m n a) js) ((n, a) ∷ creations_among js)) (sym h) (lookup_inserted_lem m n a, tt)

-- what is whole after a stop
flight_last : (w : ℕ) (c : Change) (b : Bool) → LastCreates (cond b (Atomic w c ∷ []) [])
flight_last w c b = grind arith

cond_last : (b : Bool) (s t : Stopped) → LastCreates s.whole → LastCreates t.whole → LastCreates (cond b s t).whole
cond_last true s t g h = g
cond_last false s t g h = h

pub whole_last : (is : List Item) (k : ℕ) (x : List ℕ) → LastCreates is → LastCreates (at_stop is k x).whole
whole_last [] k x h = tt
whole_last (Plain ∷ is) k x h = cond_last (k == 1) (record { whole = []; owed = 0 }) (with_item Plain (at_stop is (k - 1) x)) tt (whole_last is (k - 1) x h)
whole_last (Atomic w (Fixed n ps) ∷ is) k x h =
    let c = Fixed n ps in
    cond_last (nat_le k (cost Two w)) (in_flight w c k x) (with_item (Atomic w c) (at_stop is (k - cost Two w) x)) (flight_last w c (stands Two w k x)) (whole_last is (k - cost Two w) x h)
whole_last (Atomic w (Deleted n) ∷ is) k x h =
    let c = Deleted n in
    cond_last (nat_le k (cost Two w)) (in_flight w c k x) (with_item (Atomic w c) (at_stop is (k - cost Two w) x)) (flight_last w c (stands Two w k x)) (whole_last is (k - cost Two w) x h)
whole_last (Atomic w (Created n a) ∷ is) k x h =
    let c = Created n a in
    cond_last (nat_le k (cost Two w)) (in_flight w c k x) (with_item (Atomic w c) (at_stop is (k - cost Two w) x)) (flight_last w c (stands Two w k x))
    (ap (λ (js : List Item). (at_stop js (k - cost Two w) x).whole) h)

none_then_last : (is js : List Item) → creations_among is ≡ [] → LastCreates js → LastCreates (is ++ js)
none_then_last [] js g h = h
none_then_last (Plain ∷ is) js g h = none_then_last is js g h
none_then_last (Atomic w (Fixed n ps) ∷ is) js g h = none_then_last is js g h
none_then_last (Atomic w (Deleted n) ∷ is) js g h = none_then_last is js g h
none_then_last (Atomic w (Created n a) ∷ is) js g h = absurd (cc g)

last_then_none : (is : List Item) → LastCreates is → LastCreates (is ++ [])
last_then_none [] h = h
last_then_none (Plain ∷ is) h = last_then_none is h
last_then_none (Atomic w (Fixed n ps) ∷ is) h = last_then_none is h
last_then_none (Atomic w (Deleted n) ∷ is) h = last_then_none is h
last_then_none (Atomic w (Created n a) ∷ is) h = ap (λ (js : List Item). js ++ []) h

-- ---- so it is in every command

plains_last : (n : ℕ) (is : List Item) → LastCreates is → LastCreates (plains n is)
plains_last = plains_are LastCreates (λ is h. h)

writes_last : (ws : List Write) → LastCreates (write_items ws)
writes_last [] = tt
writes_last (w ∷ ws) = writes_last ws

module _ (c : Card) (session_state : SessionState) where
  made_last : (a : ApduParts) (o : Order) (r : Command) → IsCommand c session_state a o r → LastCreates r.items
  made_last a o r h = grind (arith, plains_last)

  selected_last : (a : ApduParts) (r : Command) → IsSelect c session_state a r → LastCreates r.items
  selected_last a _ (made.unselected sw h) = tt
  selected_last a _ (made.selected app h) = tt

  passed_last : (o : Option Selected) (a : ApduParts) (budget : ℕ) → LastCreates (application_command c session_state o a budget).items
  passed_last None a budget = tt
  passed_last (Some s) a budget = writes_last (run c.apps s.name s.session a budget).writes

  routed_last : (budget : ℕ) (r : Route) → LastCreates (by_route c session_state budget r).items
  routed_last budget WrongLength = tt
  routed_last budget WrongClass = tt
  routed_last budget (ToSelect a) = selected_last a (manager_command c session_state (select c.apps session_state a)) (selects_law c session_state a)
  routed_last budget (ToManager a) = made_last a (order_of a.ins) (manager_command c session_state (manage (room_on c) c.apps session_state a)) (command_made c session_state a)
  routed_last budget (ToApplication a) = passed_last session_state.selected a budget

  pub command_last : (b : List ℕ) (budget : ℕ) → LastCreates (command c session_state b budget).items
  unfolding command
  command_last b budget = routed_last budget (route b)

-- ---- and in a load

filler_made : (s : Option Sent) (r : Route) → IsFiller r → creation_of_command s r ≡ []
filler_made s r h = grind arith

none_without : (es : List (List ℕ × App)) → without_places es ≡ [] → es ≡ []
none_without [] h = refl
none_without (e ∷ es) h = absurd (cc h)

none_made : (b : Bool) (es : List (List ℕ × App)) → es ≡ [] → made_at b es ≡ []
none_made true es h = h
none_made false es h = refl

filler_none : (c : Card) (session_state : SessionState) (b : List ℕ) (budget : ℕ) → IsFiller (route b) → creations_among (command c session_state b budget).items ≡ []
filler_none c session_state b budget h =
    none_without (creations_among (command c session_state b budget).items) ((command_fresh c session_state b budget).made ∙ none_made (is_done (command c session_state b budget).outcome) (creation_of_command (load_sent session_state.load) (route b)) (filler_made (load_sent session_state.load) (route b) h))

sent_last : (x : Bool) (r rest : Command) → creations_among r.items ≡ [] → LastCreates r.items → LastCreates rest.items → LastCreates (command_with_rest x r rest).items
sent_last true r rest none h g = none_then_last r.items rest.items none g
sent_last false r rest none h g = h

end_last : (x : Bool) (r : Command) (session_state : SessionState) (sw : ℕ) → LastCreates r.items → LastCreates (command_with_rest x r (refusal session_state sw)).items
end_last true r session_state sw h = last_then_none r.items h
end_last false r session_state sw h = h

pub send_last : (c : Card) (session_state : SessionState) (budget : ℕ) (fs : List (List ℕ)) (b : List ℕ) → AreFillers fs → LastCreates (send c session_state budget (fs ++ b ∷ [])).items
unfolding send
send_last c session_state budget [] b h = let r = command c session_state b budget in end_last (is_done r.outcome) r r.session_state 0x9000 (command_last c session_state b budget)
send_last c session_state budget (f ∷ fs) b h =
    let r = command c session_state f budget in
    let d = items.card_done c r.items in
    sent_last (is_done r.outcome) r (send d r.session_state budget (fs ++ b ∷ [])) (filler_none c session_state f budget h.0) (command_last c session_state f budget) (send_last d r.session_state budget fs b h.1)
