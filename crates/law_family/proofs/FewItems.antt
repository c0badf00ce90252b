-- Each item of a command on a card within the limits fits a journal, and leaves such a card.
use Rattle.std.proofs.Common.{◌≡◌, ℕ, ◌+◌, ◌*◌, ◌≤◌, ◌<◌, Bool, true, false, cond, List, [], ◌∷◌, take, drop, length, Option, Some, None, Ok, refl, sym, subst, ◌∙◌, arith}
use Rattle.std.specs.Prelude.{⊤, ◌==◌, ◌&&◌, nat_le, option_map, option_and_then}
use Rattle.std.specs.List.{AllByRecursion}
use Rattle.model_play.specs.model_card.specs.declared.card.Part.{Part}
use Rattle.model_play.specs.model_device.specs.Bytes.{AreBytes, insert, remove}
use Rattle.model_play.specs.model_machine.specs.Apdu.{ApduParts, Rest, rest_read, short_rest, extended_rest, extended_body, apdu_read}
use Rattle.model_play.specs.model_card.specs.Units.{name_of, checked_name, template_of, name_among}
use Rattle.model_play.specs.model_device.specs.Card.{App, Card}
use Rattle.model_play.specs.model_device.specs.Layout.{step_of}
use Rattle.model_play.specs.model_machine.specs.Chain.{Write, no_app, run}
use Rattle.model_play.specs.model_card.specs.Items.{Fixed, Created, Item, apps_after_change, apps_after_items, card_done, write_items}
use Rattle.model_play.specs.model_card.specs.Manager.{Selected, Open, SessionState, Route, WrongLength, WrongClass, ToSelect, ToManager, ToApplication, route, route_of_parts, p1p2, select, word_parts, with_got, Got, fresh, manage, room_on}
use Rattle.model_play.specs.model_card.specs.Commands.{Command, atomic_of, manager_command, application_command, by_route, command}
use Rattle.law_manager.specs.Orders.{Order, order_of}
use Rattle.law_manager.specs.Answers.{IsQuiet}
use Rattle.law_manager.specs.Answers as quiet
use Rattle.law_manager.specs.OnCard.{IsCommand, IsSelect, plains, blank_words}
use Rattle.law_manager.specs.OnCard as made
use Rattle.law_manager.proofs.OnCard.{command_made, selects_law}
use Rattle.law_manager.proofs.Plains.{plains_are, plains_done}
use Rattle.model_play.specs.Play.{is_done, command_with_rest, send}
use Rattle.model_play.specs.ReadyAgain.{FitsJournal}
use Rattle.model_play.specs.model_device.proofs.ImageLemmas.{all_append}
use Rattle.law_machine.proofs.AppSizes.{Limited, limited_done}
use Rattle.law_family.proofs.CardFacts.{all_take, AreOnCard, are_coded, name_short, ItemsStand, fixed_again, done_stands, stand_append}
use Rattle.law_machine.proofs.FewHeaders.{few_headers_law}
use Rattle.law_machine.proofs.FewRuns.{few_runs_law}
use Rattle.law_family.proofs.PlaySizes.{SessionStateFits, CommandFits, command_fits}
use Rattle.model_play.specs.model_card.proofs.ItemLemmas.{done_append}

-- ---- the bytes of a command

-- the body of a command is bytes if all after its fifth byte are
RestBytes : Option Rest → Type 0
RestBytes None = ⊤
RestBytes (Some r) = AreBytes r.body

rest_cond : (b : Bool) (x y : Option Rest) → RestBytes x → RestBytes y → RestBytes (cond b x y)
rest_cond true x y h k = h
rest_cond false x y h k = k

short_bytes : (lc : ℕ) (b : List ℕ) → AreBytes b → RestBytes (short_rest lc b)
unfolding RestBytes
short_bytes lc b h =
    rest_cond (length b == lc) (Some (record { p3 = lc; body = b; le = None })) _ h
    (rest_cond (length b == lc + 1) (Some (record { p3 = lc; body = take lc b; le = _ })) None (all_take (λ x. x < 256) lc b h) tt)

body_bytes : (lc : ℕ) (b : List ℕ) → AreBytes b → RestBytes (extended_body lc b)
unfolding RestBytes
body_bytes lc b h =
    rest_cond (length b == lc) (Some (record { p3 = 0; body = b; le = None })) _ h
    (rest_cond (length b == lc + 2) (Some (record { p3 = 0; body = take lc b; le = _ })) None (all_take (λ x. x < 256) lc b h) tt)

extended_bytes : (b : List ℕ) → AreBytes b → RestBytes (extended_rest b)
unfolding RestBytes
extended_bytes [] h = tt
extended_bytes (x ∷ []) h = tt
extended_bytes (x ∷ l ∷ []) h = tt
extended_bytes (x ∷ l ∷ y ∷ ys) h = rest_cond (nat_le 1 (256 * x + l) && nat_le (256 * x + l) 1024) (extended_body (256 * x + l) (y ∷ ys)) None (body_bytes (256 * x + l) (y ∷ ys) h.1.1) tt

rest_bytes : (b : List ℕ) → AreBytes (drop 1 b) → RestBytes (rest_read b)
unfolding RestBytes
rest_bytes [] h = tt
rest_bytes (p ∷ []) h = tt
rest_bytes (p ∷ x ∷ xs) h = rest_cond (p == 0) (extended_rest (x ∷ xs)) (short_rest p (x ∷ xs)) (extended_bytes (x ∷ xs) h) (short_bytes p (x ∷ xs) h)

-- a command for the manager has a body of bytes
abbrev RouteBytes : Route → Type 0
RouteBytes (ToManager a) = AreBytes a.body
RouteBytes WrongLength = ⊤
RouteBytes WrongClass = ⊤
RouteBytes (ToSelect a) = ⊤
RouteBytes (ToApplication a) = ⊤

route_cond : (b : Bool) (x y : Route) → RouteBytes x → RouteBytes y → RouteBytes (cond b x y)
route_cond true x y h k = h
route_cond false x y h k = k

headed_bytes : (cla ins p1 p2 : ℕ) (r : Option Rest) → RestBytes r → RouteBytes (route_of_parts (option_map (λ r. record { cla = cla; ins = ins; p1 = p1; p2 = p2; p3 = r.p3; body = r.body; le = r.le }) r))
unfolding RestBytes
headed_bytes cla ins p1 p2 None h = tt
headed_bytes cla ins p1 p2 (Some r) h =
    route_cond (cla == 0xFF) WrongClass _ tt (route_cond (cla == 0 && ins == 0xA4 && p1 == 4) (ToSelect _) _ tt (route_cond (cla == 0xBE) (ToManager _) (ToApplication _) h tt))

-- all that follows the first five bytes of a command is bytes
abbrev pub IsSent : List ℕ → Type 0
IsSent b = AreBytes (drop 5 b)

route_bytes : (b : List ℕ) → IsSent b → RouteBytes (route b)
unfolding apdu_read
route_bytes [] h = tt
route_bytes (cla ∷ []) h = tt
route_bytes (cla ∷ ins ∷ []) h = tt
route_bytes (cla ∷ ins ∷ p1 ∷ []) h = tt
route_bytes (cla ∷ ins ∷ p1 ∷ p2 ∷ r) h = headed_bytes cla ins p1 p2 (rest_read r) (rest_bytes r h)

-- ---- a running card

-- a selected name has at most 16 bytes
abbrev pub SelectedStands : Option Selected → Type 0
SelectedStands None = ⊤
SelectedStands (Some s) = length s.name ≤ 16

-- a load is open only if there is room for one more application, and its code is bytes so far
abbrev pub LoadStands : List (List ℕ × App) → Option Open → Type 0
LoadStands m None = ⊤
LoadStands m (Some o) = (length m ≤ 31) × AreBytes o.got.code

pub record SessionStateStands (m : List (List ℕ × App)) (session_state : SessionState) : Type 0 where
  pub selected : SelectedStands session_state.selected
  pub load : LoadStands m session_state.load

-- what a command leaves, and that its items fit a journal
pub record CommandStands (m : List (List ℕ × App)) (r : Command) : Type 0 where
  pub few : AllByRecursion FitsJournal r.items
  pub items : ItemsStand m r.items
  pub session_state : SessionStateStands (apps_after_items m r.items) r.session_state

-- a load on a map of as many applications
same_load : (m d : List (List ℕ × App)) (o : Option Open) → length d ≡ length m → LoadStands m o → LoadStands d o
same_load m d None e h = tt
same_load m d (Some o) e h = (subst (λ (k : ℕ). k ≤ 31) (sym e) h.0, h.1)

-- ---- items without contents

plains_few : (n : ℕ) (is : List Item) → AllByRecursion FitsJournal is → AllByRecursion FitsJournal (plains n is)
plains_few = plains_are (AllByRecursion FitsJournal) (λ is h. (tt, h))

plains_stand : (m : List (List ℕ × App)) (n : ℕ) (is : List Item) → ItemsStand m is → ItemsStand m (plains n is)
plains_stand m = plains_are (ItemsStand m) (λ is h. h)

-- ---- names

checked_short : (o : Option (List ℕ)) (n : List ℕ) → checked_name o ≡ Ok n → length n ≤ 16
checked_short o n e = grind arith

short_name : (d n : List ℕ) → name_of d ≡ Ok n → length n ≤ 16
unfolding name_of
short_name d n e = checked_short (option_and_then (λ t. name_among (length t) t) (template_of d)) n e

-- ---- the manager

with_code : (p : Part) (b : List ℕ) (g : Got) → AreBytes b → AreBytes g.code → AreBytes (with_got p b g).code
with_code p b g h k = grind (arith, all_append)

module _ (c : Card) (session_state : SessionState) (on : AreOnCard c.apps) (stands : SessionStateStands c.apps session_state) where
  selected_stands : (a : ApduParts) (r : Command) → IsSelect c session_state a r → CommandStands c.apps r
  selected_stands a _ (made.unselected sw h) = record { few = tt; items = tt; session_state = stands }
  selected_stands a _ (made.selected app h) = record { few = tt; items = tt; session_state = record { selected = name_short c.apps a.body app on h; load = stands.load } }

  quiet_stands : (a : ApduParts) (o : Order) (body : List ℕ) (load : Option Open) → IsQuiet (room_on c) c.apps session_state a o body load → LoadStands c.apps load
  quiet_stands a _ _ _ (quiet.answers o first rest) = stands.load
  quiet_stands a _ _ _ (quiet.opens h) = (h.few, tt)

  made_stands : (a : ApduParts) (o : Order) (r : Command) → AreBytes a.body → IsCommand c session_state a o r → CommandStands c.apps r
  made_stands a _ _ bytes (made.refused o sw h) = record { few = tt; items = tt; session_state = stands }
  made_stands a _ _ bytes (made.quiet o body load h) = record { few = tt; items = tt; session_state = record { selected = stands.selected; load = quiet_stands a o body load h } }
  made_stands a _ _ bytes (made.loaded p l h) =
      let k = length (word_parts (p1p2 a) a.body) in
      let load : LoadStands c.apps (Some l) = subst (LoadStands c.apps) h.is stands.load in
      let next = record session_state { load = Some (record l { got = with_got p a.body l.got }) } in
      record {
        few = plains_few k [] tt;
        items = plains_stand c.apps k [] tt;
        session_state = subst (λ (m : List (List ℕ × App)). SessionStateStands m next) (sym (plains_done c.apps k [])) (record { selected = stands.selected; load = (load.0, with_code p a.body l.got bytes load.1) });
      }
  made_stands a _ _ bytes (made.created l n h) =
      let items = plains 4 (atomic_of c (Some (Created n (fresh l))) ∷ []) in
      let load : LoadStands c.apps (Some l) = subst (LoadStands c.apps) h.is stands.load in
      let room : length c.apps ≤ 31 = load.0 in
      let words : length (step_of c (record c { apps = insert c.apps n (fresh l) })) ≤ length c.apps + 4 = (few_headers_law c n (fresh l)).created in
      record {
        few = plains_few (blank_words l.site) items (tt, (tt, (tt, (tt, (omega (arith, words, room), tt)))));
        items = plains_stand c.apps (blank_words l.site) items ((load.0, record { name = short_name l.got.dir n h.name; code = load.1 }), tt);
        session_state = record { selected = stands.selected; load = tt };
      }
  made_stands a _ _ bytes (made.deleted h) =
      let words : length (step_of c (record c { apps = remove c.apps a.body })) ≤ length c.apps + 4 = (few_headers_law c a.body no_app).deleted in
      let count : length c.apps ≤ 32 = on.count in
      record { few = (omega (arith, words, count), tt); items = (tt, tt); session_state = record { selected = stands.selected; load = tt } }

-- ---- a run

writes_few : (ws : List Write) → AllByRecursion (λ w. w.words ≤ 64) ws → AllByRecursion FitsJournal (write_items ws)
writes_few [] h = tt
writes_few (w ∷ ws) h = (h.0, writes_few ws h.1)

writes_stand : (ws : List Write) (m : List (List ℕ × App)) → AreOnCard m → ItemsStand m (write_items ws) × (length (apps_after_items m (write_items ws)) ≡ length m)
writes_stand [] m h = (tt, refl)
writes_stand (w ∷ ws) m h =
    let d = apps_after_change (Fixed w.name w.pieces) m in
    let one = fixed_again m w.name w.pieces h in
    let rest = writes_stand ws d one.0 in
    ((tt, rest.0), rest.1 ∙ one.1)

passed_stands : (c : Card) (session_state : SessionState) (o : Option Selected) (a : ApduParts) (budget : ℕ) → session_state.selected ≡ o → Limited c.apps → AreOnCard c.apps → SessionStateStands c.apps session_state → CommandStands c.apps (application_command c session_state o a budget)
passed_stands c session_state None a budget e limited on h = record { few = tt; items = tt; session_state = h }
passed_stands c session_state (Some s) a budget e limited on h =
    let r = run c.apps s.name s.session a budget in
    let short : length s.name ≤ 16 = subst SelectedStands e h.selected in
    let after = writes_stand r.writes c.apps on in
    record {
      few = writes_few r.writes (few_runs_law c.apps s.name s.session a budget (are_coded c.apps limited on) short);
      items = after.0;
      session_state = record { selected = short; load = same_load c.apps (apps_after_items c.apps (write_items r.writes)) session_state.load after.1 h.load };
    }

-- ---- a command

routed_stands : (c : Card) (session_state : SessionState) (budget : ℕ) (r : Route) → RouteBytes r → Limited c.apps → AreOnCard c.apps → SessionStateStands c.apps session_state → CommandStands c.apps (by_route c session_state budget r)
routed_stands c session_state budget WrongLength bytes limited on h = record { few = tt; items = tt; session_state = h }
routed_stands c session_state budget WrongClass bytes limited on h = record { few = tt; items = tt; session_state = h }
routed_stands c session_state budget (ToSelect a) bytes limited on h = selected_stands c session_state on h a (manager_command c session_state (select c.apps session_state a)) (selects_law c session_state a)
routed_stands c session_state budget (ToManager a) bytes limited on h =
    made_stands c session_state on h a (order_of a.ins) (manager_command c session_state (manage (room_on c) c.apps session_state a)) bytes (command_made c session_state a)
routed_stands c session_state budget (ToApplication a) bytes limited on h = passed_stands c session_state session_state.selected a budget refl limited on h

pub command_stands : (c : Card) (session_state : SessionState) (b : List ℕ) (budget : ℕ) → IsSent b → Limited c.apps → AreOnCard c.apps → SessionStateStands c.apps session_state → CommandStands c.apps (command c session_state b budget)
unfolding command
command_stands c session_state b budget sent limited on h = routed_stands c session_state budget (route b) (route_bytes b sent) limited on h

-- ---- the commands of a line

sent_on_stands : (m : List (List ℕ × App)) (b : Bool) (r rest : Command) → CommandStands m r → CommandStands (apps_after_items m r.items) rest → CommandStands m (command_with_rest b r rest)
sent_on_stands m true r rest h k =
    record {
      few = all_append FitsJournal r.items rest.items h.few k.few;
      items = stand_append r.items rest.items m h.items k.items;
      session_state = subst (λ (d : List (List ℕ × App)). SessionStateStands d rest.session_state) (sym (done_append r.items rest.items m)) k.session_state;
    }
sent_on_stands m false r rest h k = h

pub send_stands : (c : Card) (session_state : SessionState) (budget : ℕ) (bs : List (List ℕ)) → AllByRecursion IsSent bs → Limited c.apps → SessionStateFits c.apps session_state → AreOnCard c.apps → SessionStateStands c.apps session_state → CommandStands c.apps (send c session_state budget bs)
unfolding send
send_stands c session_state budget [] sent limited fits on h = record { few = tt; items = tt; session_state = h }
send_stands c session_state budget (b ∷ bs) sent limited fits on h =
    let r = command c session_state b budget in
    let f : CommandFits c.apps r = command_fits c session_state b budget fits in
    let k : CommandStands c.apps r = command_stands c session_state b budget sent.0 limited on h in
    sent_on_stands c.apps (is_done r.outcome) r (send (card_done c r.items) r.session_state budget bs) k
    (send_stands (card_done c r.items) r.session_state budget bs sent.1 (limited_done r.items c.apps limited f.items) f.session_state (done_stands r.items c.apps on k.items) k.session_state)
