-- Which applications the items of a line create: none that is on the card already, and none at all without a CREATE.
use Rattle.std.proofs.Common.{arith, ◌≡◌, ◌⊎◌, inl, inr, ℕ, ◌-◌, Bool, true, false, cond, List, [], ◌∷◌, ◌++◌, length, Option, Some, None, refl, sym, ap, subst, ◌∙◌}
use Rattle.std.specs.Prelude.{⊤, ◌==◌, nat_le, bytes_eq}
use Rattle.std.proofs.lemmas.Bool.{false_from_ne_true}
use Rattle.law_histories.specs.model_device.specs.Bytes.{lookup, insert, remove}
use Rattle.law_histories.specs.model_device.specs.Image.{Two}
use Rattle.law_histories.specs.model_device.specs.Stopped.{cost, stands}
use Rattle.law_histories.specs.model_device.specs.Card.{App, Card}
use Rattle.law_histories.specs.model_machine.specs.Apdu.{ApduParts}
use Rattle.law_histories.specs.model_machine.specs.Chain.{Write, map_changed, run}
use Rattle.law_histories.specs.model_card.specs.Items.{Change, Fixed, Created, Deleted, Item, Plain, Atomic, apps_after_items, Stopped, with_item, in_flight, StopAt, at_stop, write_items, card_done}
use Rattle.law_histories.specs.model_card.specs.Manager.{Selected, SessionState, Route, WrongLength, WrongClass, ToSelect, ToManager, ToApplication, route, p1p2, word_parts, select, manage, room_on}
use Rattle.law_histories.specs.model_card.specs.Commands.{Command, manager_command, application_command, by_route, command}
use Rattle.law_histories.specs.model_play.specs.DeckGrammar.{DeckCommand}
use Rattle.law_histories.specs.model_play.specs.DeckGrammar as line
use Rattle.law_histories.specs.model_play.specs.Play.{is_done, command_with_rest, send, select_bytes, delete_bytes, line_command, whole_items}
use Rattle.law_histories.specs.law_manager.specs.Orders.{Order, order_of, HasIns}
use Rattle.law_histories.specs.law_manager.specs.OnCard.{IsCommand, IsSelect, plains, blank_words}
use Rattle.law_histories.specs.law_manager.specs.OnCard as made
use Rattle.law_histories.specs.law_manager.proofs.Orders.{order_law}
use Rattle.law_histories.specs.law_manager.proofs.OnCard.{command_made, selects_law}
use Rattle.law_histories.specs.law_manager.proofs.Plains.{plains_are}
use Rattle.law_histories.specs.law_family.proofs.LoadCommands.{IsFiller, AreFillers, load_front, create_bytes, front_fillers}
use Rattle.law_histories.specs.law_promise.specs.History.{unless_created, after_items}
use Rattle.law_histories.specs.law_promise.specs.Along.{IsAppIf, CreatesOnly}
use Rattle.law_histories.specs.law_promise.proofs.Chains.{beside_changed}
use Rattle.law_histories.specs.model_device.proofs.MapLemmas.{lookup_beside, lookup_left, lookup_removed_lem, same_name}

-- ---- items that create only what has a property

-- what an item creates has a property
abbrev pub Makes : (List ℕ → Type 0) → Item → Type 0
Makes P Plain = ⊤
Makes P (Atomic w (Fixed k ps)) = ⊤
Makes P (Atomic w (Created k a)) = P k
Makes P (Atomic w (Deleted k)) = ⊤

-- what each item creates has a property
abbrev pub AllMake : (List ℕ → Type 0) → List Item → Type 0
AllMake P [] = ⊤
AllMake P (i ∷ is) = Makes P i × AllMake P is

-- another name than this
abbrev pub IsOther : List ℕ → List ℕ → Type 0
IsOther n k = bytes_eq k n ≡ false

-- no name
abbrev pub IsNone : List ℕ → Type 0
IsNone k = ⊥

makes_append : (P : List ℕ → Type 0) (is js : List Item) → AllMake P is → AllMake P js → AllMake P (is ++ js)
makes_append P [] js a b = b
makes_append P (i ∷ is) js a b = (a.0, makes_append P is js a.1 b)

-- items that create nothing create only others
pub none_others : (n : List ℕ) (is : List Item) → AllMake IsNone is → AllMake (IsOther n) is
none_others n [] a = tt
none_others n (Plain ∷ is) a = (tt, none_others n is a.1)
none_others n (Atomic w (Fixed k ps) ∷ is) a = (tt, none_others n is a.1)
none_others n (Atomic w (Created k x) ∷ is) a = absurd a.0
none_others n (Atomic w (Deleted k) ∷ is) a = (tt, none_others n is a.1)

flight_makes : (P : List ℕ → Type 0) (w : ℕ) (c : Change) (b : Bool) → Makes P (Atomic w c) → AllMake P (cond b (Atomic w c ∷ []) [])
flight_makes P w c true a = (a, tt)
flight_makes P w c false a = tt

plain_makes : (P : List ℕ → Type 0) (b : Bool) (s : Stopped) → AllMake P s.whole → AllMake P (cond b (record { whole = []; owed = 0 }) (with_item Plain s)).whole
plain_makes P true s a = tt
plain_makes P false s a = (tt, a)

atomic_makes : (P : List ℕ → Type 0) (b : Bool) (w : ℕ) (c : Change) (f s : Stopped) → Makes P (Atomic w c) → AllMake P f.whole → AllMake P s.whole → AllMake P (cond b f (with_item (Atomic w c) s)).whole
atomic_makes P true w c f s i a b = a
atomic_makes P false w c f s i a b = (i, b)

stopped_makes : (P : List ℕ → Type 0) (is : List Item) (k : ℕ) (x : List ℕ) → AllMake P is → AllMake P (at_stop is k x).whole
stopped_makes P [] k x a = tt
stopped_makes P (Plain ∷ is) k x a = plain_makes P (k == 1) (at_stop is (k - 1) x) (stopped_makes P is (k - 1) x a.1)
stopped_makes P (Atomic w c ∷ is) k x a =
    atomic_makes P (nat_le k (cost Two w)) w c (in_flight w c k x) (at_stop is (k - cost Two w) x) a.0
    (flight_makes P w c (stands Two w k x) a.0) (stopped_makes P is (k - cost Two w) x a.1)

-- what is whole of them
pub whole_makes : (P : List ℕ → Type 0) (r : Command) (t : Option StopAt) → AllMake P r.items → AllMake P (whole_items r t)
whole_makes P r None a = a
whole_makes P r (Some t) a = stopped_makes P r.items t.at t.left a

-- ---- histories

-- items that create only others leave the history of a name
pub others_history : {E : Type 0} (n : List ℕ) (is : List Item) (h : List E) → AllMake (IsOther n) is → after_items n is h ≡ h
others_history n [] h a = refl
others_history n (Plain ∷ is) h a = others_history n is h a.1
others_history n (Atomic w (Fixed k ps) ∷ is) h a = others_history n is h a.1
others_history n (Atomic w (Created k x) ∷ is) h a = ap (λ (b : Bool). after_items n is (unless_created b h)) a.0 ∙ others_history n is h a.1
others_history n (Atomic w (Deleted k) ∷ is) h a = others_history n is h a.1

other_if : (b : Bool) (app a : App) → b ≡ false → IsAppIf b app a
other_if true app a e = absurd (cc e)
other_if false app a e = tt

-- items that create only others create only the application under its name
pub others_only : (n : List ℕ) (app : App) (is : List Item) → AllMake (IsOther n) is → CreatesOnly n app is
others_only n app [] a = tt
others_only n app (Plain ∷ is) a = others_only n app is a.1
others_only n app (Atomic w (Fixed k ps) ∷ is) a = others_only n app is a.1
others_only n app (Atomic w (Created k x) ∷ is) a = (other_if (bytes_eq k n) app x a.0, others_only n app is a.1)
others_only n app (Atomic w (Deleted k) ∷ is) a = others_only n app is a.1

-- ---- one that was not there

module _ (n : List ℕ) where
  -- a change of static bytes brings no application
  pub none_beside : (x : Bool) (m : List (List ℕ × App)) (k : List ℕ) (ps : List (ℕ × List ℕ)) → bytes_eq k n ≡ x → lookup m n ≡ None → lookup (map_changed m k (Some ps)) n ≡ None
  none_beside false m k ps e none = beside_changed m k n (Some ps) e ∙ none
  none_beside true m k ps e none = grind (arith, same_name)

  none_removed : (x : Bool) (m : List (List ℕ × App)) (k : List ℕ) → bytes_eq k n ≡ x → lookup m n ≡ None → lookup (remove m k) n ≡ None
  none_removed false m k e none = lookup_left m k n e ∙ none
  none_removed true m k e none = subst (λ (z : List ℕ). lookup (remove m k) z ≡ None) (same_name k n e) (lookup_removed_lem m k)

  none_some : {E : Type 0} (m : List (List ℕ × App)) (h : List E) (a : App) → (lookup m n ≡ None) ⊎ (h ≡ []) → lookup m n ≡ Some a → h ≡ []
  none_some m h a (inl none) e = absurd (cc (sym none ∙ e))
  none_some m h a (inr empty) e = empty

  created_begins : {E : Type 0} (is : List Item) (m : List (List ℕ × App)) (h : List E) (k : List ℕ) (x : App) (b : Bool) → bytes_eq k n ≡ b → (lookup m n ≡ None) ⊎ (h ≡ [])
      → ((p : List E) → (lookup (insert m k x) n ≡ None) ⊎ (p ≡ []) → after_items n is p ≡ []) → after_items n is (unless_created b h) ≡ []
  created_begins is m h k x b f why again = grind (arith, lookup_beside)

  -- items that bring it begin its history
  pub history_begins : {E : Type 0} (is : List Item) (m : List (List ℕ × App)) (h : List E) (a : App) → (lookup m n ≡ None) ⊎ (h ≡ []) → lookup (apps_after_items m is) n ≡ Some a → after_items n is h ≡ []
  history_begins [] m h a why e = none_some m h a why e
  history_begins (Plain ∷ is) m h a why e = history_begins is m h a why e
  history_begins (Atomic w (Fixed k ps) ∷ is) m h a (inl none) e = history_begins is (map_changed m k (Some ps)) h a (inl (none_beside (bytes_eq k n) m k ps refl none)) e
  history_begins (Atomic w (Fixed k ps) ∷ is) m h a (inr empty) e = history_begins is (map_changed m k (Some ps)) h a (inr empty) e
  history_begins (Atomic w (Created k x) ∷ is) m h a why e = created_begins is m h k x (bytes_eq k n) refl why (λ p q. history_begins is (insert m k x) p a q e)
  history_begins (Atomic w (Deleted k) ∷ is) m h a (inl none) e = history_begins is (remove m k) h a (inl (none_removed (bytes_eq k n) m k refl none)) e
  history_begins (Atomic w (Deleted k) ∷ is) m h a (inr empty) e = history_begins is (remove m k) h a (inr empty) e

-- ---- one command

writes_make : (P : List ℕ → Type 0) (ws : List Write) → AllMake P (write_items ws)
writes_make P [] = tt
writes_make P (w ∷ ws) = (tt, writes_make P ws)

-- what a command that is passed to the manager may create
abbrev pub Allows : (List ℕ → Type 0) → List (List ℕ × App) → Route → Type 0
Allows P m (ToManager a) = (k : List ℕ) → a.ins ≡ 0x16 → lookup m k ≡ None → P k
Allows P m _ = ⊤

module _ (P : List ℕ → Type 0) (c : Card) (session_state : SessionState) where
  plains_make : (k : ℕ) (is : List Item) → AllMake P is → AllMake P (plains k is)
  plains_make = plains_are (AllMake P) (λ is h. (tt, h))

  made_makes : (a : ApduParts) (o : Order) (r : Command) → IsCommand c session_state a o r → HasIns o a.ins → ((k : List ℕ) → a.ins ≡ 0x16 → lookup c.apps k ≡ None → P k) → AllMake P r.items
  made_makes a o r h ins allows = grind (arith, plains_make)

  select_makes : (a : ApduParts) (r : Command) → IsSelect c session_state a r → AllMake P r.items
  select_makes a _ (made.unselected sw h) = tt
  select_makes a _ (made.selected app h) = tt

  passed_makes : (o : Option Selected) (a : ApduParts) (budget : ℕ) → AllMake P (application_command c session_state o a budget).items
  passed_makes None a budget = tt
  passed_makes (Some s) a budget = writes_make P (run c.apps s.name s.session a budget).writes

  routed_makes : (budget : ℕ) (r : Route) → Allows P c.apps r → AllMake P (by_route c session_state budget r).items
  routed_makes budget WrongLength allows = tt
  routed_makes budget WrongClass allows = tt
  routed_makes budget (ToSelect a) allows = select_makes a (manager_command c session_state (select c.apps session_state a)) (selects_law c session_state a)
  routed_makes budget (ToManager a) allows =
      made_makes a (order_of a.ins) (manager_command c session_state (manage (room_on c) c.apps session_state a)) (command_made c session_state a) (order_law (room_on c) c.apps session_state a).ins allows
  routed_makes budget (ToApplication a) allows = passed_makes session_state.selected a budget

  -- a command creates only what its route allows
  pub command_makes : (b : List ℕ) (budget : ℕ) → Allows P c.apps (route b) → AllMake P (command c session_state b budget).items
  unfolding command
  command_makes b budget allows = routed_makes budget (route b) allows

-- ---- the commands of a load

abbrev ArePlain : List Item → Type 0
ArePlain [] = ⊤
ArePlain (Plain ∷ is) = ArePlain is
ArePlain (Atomic w c ∷ is) = ⊥

plain_apps : (is : List Item) (m : List (List ℕ × App)) → ArePlain is → apps_after_items m is ≡ m
plain_apps [] m a = refl
plain_apps (Plain ∷ is) m a = plain_apps is m a
plain_apps (Atomic w c ∷ is) m a = absurd a

module _ (c : Card) (session_state : SessionState) where
  filler_made : (a : ApduParts) (o : Order) (r : Command) → IsCommand c session_state a o r → HasIns o a.ins → (a.ins == 0x16) ≡ false → (a.ins == 0x18) ≡ false → ArePlain r.items
  filler_made a _ _ (made.refused o sw h) ins x y = tt
  filler_made a _ _ (made.quiet o body load h) ins x y = tt
  filler_made a _ _ (made.loaded p l h) ins x y = plains_are ArePlain (λ is h. h) (length (word_parts (p1p2 a) a.body)) [] tt
  filler_made a _ _ (made.created l k h) ins x y = absurd (cc (x, ins))
  filler_made a _ _ (made.deleted h) ins x y = absurd (cc (y, ins))

  filler_routed : (budget : ℕ) (r : Route) → IsFiller r → ArePlain (by_route c session_state budget r).items
  filler_routed budget WrongLength h = tt
  filler_routed budget (ToManager a) h =
      filler_made a (order_of a.ins) (manager_command c session_state (manage (room_on c) c.apps session_state a)) (command_made c session_state a) (order_law (room_on c) c.apps session_state a).ins h.0 h.1
  filler_routed budget WrongClass h = absurd h
  filler_routed budget (ToSelect a) h = absurd h
  filler_routed budget (ToApplication a) h = absurd h

  filler_plain : (b : List ℕ) (budget : ℕ) → IsFiller (route b) → ArePlain (command c session_state b budget).items
  unfolding command
  filler_plain b budget h = filler_routed budget (route b) h

plain_all : (P : List ℕ → Type 0) (is : List Item) → ArePlain is → AllMake P is
plain_all P [] a = tt
plain_all P (Plain ∷ is) a = (tt, plain_all P is a)
plain_all P (Atomic w c ∷ is) a = absurd a

sent_makes : (P : List ℕ → Type 0) (b : Bool) (r rest : Command) → AllMake P r.items → AllMake P rest.items → AllMake P (command_with_rest b r rest).items
sent_makes P true r rest h k = makes_append P r.items rest.items h k
sent_makes P false r rest h k = h

allows_all : (P : List ℕ → Type 0) (m : List (List ℕ × App)) (r : Route) → ((k : List ℕ) → lookup m k ≡ None → P k) → Allows P m r
allows_all h m r h3 = grind arith

send_makes : (P : List ℕ → Type 0) (c : Card) (session_state : SessionState) (budget : ℕ) (fs : List (List ℕ)) (b : List ℕ) → AreFillers fs → ((k : List ℕ) → lookup c.apps k ≡ None → P k) → AllMake P (send c session_state budget (fs ++ b ∷ [])).items
unfolding send
send_makes P c session_state budget [] b fill h =
    let r = command c session_state b budget in
    sent_makes P (is_done r.outcome) r (send (card_done c r.items) r.session_state budget []) (command_makes P c session_state b budget (allows_all P c.apps (route b) h)) tt
send_makes P c session_state budget (f ∷ fs) b fill h =
    let r = command c session_state f budget in
    let plain = filler_plain c session_state f budget fill.0 in
    sent_makes P (is_done r.outcome) r (send (card_done c r.items) r.session_state budget (fs ++ b ∷ [])) (plain_all P r.items plain)
    (send_makes P (card_done c r.items) r.session_state budget fs b fill.1 (subst (λ (m : List (List ℕ × App)). (k : List ℕ) → lookup m k ≡ None → P k) (sym (plain_apps r.items c.apps plain)) h))

-- ---- a line

-- a line to the card creates only names that the card has not
pub line_makes : (P : List ℕ → Type 0) (c : Card) (session_state : SessionState) (budget : ℕ) (k : DeckCommand) → ((k : List ℕ) → lookup c.apps k ≡ None → P k) → AllMake P (line_command c session_state budget (line.Sent k)).items
line_makes P c session_state budget (line.Select n) h = command_makes P c session_state (select_bytes n) budget (allows_all P c.apps (route (select_bytes n)) h)
line_makes P c session_state budget (line.Delete n) h = command_makes P c session_state (delete_bytes n) budget (allows_all P c.apps (route (delete_bytes n)) h)
line_makes P c session_state budget (line.Apdu b) h = command_makes P c session_state b budget (allows_all P c.apps (route b) h)
line_makes P c session_state budget (line.Load u fixed session) h = send_makes P c session_state budget (load_front u fixed session) create_bytes (front_fillers u fixed session) h

-- one that is on the card is not created
there_other : (n : List ℕ) (m : List (List ℕ × App)) (a : App) → lookup m n ≡ Some a → (k : List ℕ) → lookup m k ≡ None → bytes_eq k n ≡ false
there_other n m a there k none = false_from_ne_true (bytes_eq k n) (λ e. cc (sym none ∙ (ap (λ (z : List ℕ). lookup m z) (same_name k n e) ∙ there)))

-- a line to a card that has the application creates only others
pub others_made : (n : List ℕ) (c : Card) (session_state : SessionState) (budget : ℕ) (k : DeckCommand) (a : App) → lookup c.apps n ≡ Some a → AllMake (IsOther n) (line_command c session_state budget (line.Sent k)).items
others_made n c session_state budget k a there = line_makes (IsOther n) c session_state budget k (there_other n c.apps a there)
