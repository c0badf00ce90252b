-- A command of bytes on a card of bytes writes bytes, and leaves a session state of bytes.
use Rattle.std.proofs.Common.{◌≡◌, ℕ, zero, suc, ◌+◌, ◌-◌, ◌*◌, ◌<◌, Bool, true, false, cond, List, [], ◌∷◌, take, drop, length, Option, Some, None, Ok, Err, refl, subst, arith}
use Rattle.std.specs.Prelude.{⊤, ◌==◌, ◌&&◌, nat_lt, nat_le, option_map, option_and_then, bytes_eq}
use Rattle.std.specs.List.{AllByRecursion}
use Rattle.std.proofs.lemmas.Bool.{leb-true}
use Rattle.law_family.specs.model_card.specs.declared.card.Part.{Part}
use Rattle.law_family.specs.model_card.specs.declared.unit.AidFault.TheVariants.{AidLength}
use Rattle.law_family.specs.model_device.specs.Bytes.{AreBytes, zeros}
use Rattle.law_family.specs.model_device.specs.Card.{Card}
use Rattle.law_family.specs.model_device.proofs.ImageLemmas.{all_append}
use Rattle.law_family.specs.model_device.proofs.ListLemmas.{bytes_from}
use Rattle.law_family.specs.model_device.proofs.MapLemmas.{each_found}
use Rattle.law_family.specs.model_machine.specs.Apdu.{ApduParts, Rest, rest_read, short_rest, extended_rest, extended_body, apdu_read}
use Rattle.law_family.specs.model_machine.specs.Chain.{run, start}
use Rattle.law_family.specs.model_card.specs.Units.{name_of, checked_name, template_of, name_among, object_at, Object, value_at, size_at, tag_len}
use Rattle.law_family.specs.model_card.specs.Items.{Created, Item, card_done}
use Rattle.law_family.specs.model_card.specs.Manager.{Selected, Open, SessionState, Route, WrongLength, WrongClass, ToSelect, ToManager, ToApplication, route, route_of_parts, p1p2, select, word_parts, with_got, fresh, manage, room_on}
use Rattle.law_family.specs.model_card.specs.Commands.{Command, atomic_of, manager_command, application_command, by_route, command}
use Rattle.law_family.specs.law_manager.specs.Orders.{Order, order_of}
use Rattle.law_family.specs.law_manager.specs.Answers.{IsQuiet}
use Rattle.law_family.specs.law_manager.specs.Answers as quiet
use Rattle.law_family.specs.law_manager.specs.OnCard.{IsCommand, IsSelect, plains, blank_words}
use Rattle.law_family.specs.law_manager.specs.OnCard as made
use Rattle.law_family.specs.law_manager.proofs.OnCard.{command_made, selects_law}
use Rattle.law_family.specs.law_manager.proofs.Plains.{plains_are}
use Rattle.law_family.specs.model_play.specs.Play.{is_done, command_with_rest, send}
use Rattle.law_bytes.specs.OfChains.{IsName, IsByteApp, AreByteApps, IsByteCommand, IsByteRun}
use Rattle.law_bytes.specs.OfPlays.{IsSelection, IsLoad, IsByteSession}
use Rattle.law_bytes.proofs.ByteLists.{taken, joined, zero_bytes}
use Rattle.law_bytes.proofs.ChainBytes.{run_bytes, start_bytes}
use Rattle.law_bytes.proofs.CardBytes.{IsByteItem, items_bytes, written_items}

-- ---- the bytes of a command

-- what follows a header: a body of bytes, and a fifth byte, if the first byte is one
RestBytes : ℕ → Option Rest → Type 0
RestBytes p None = ⊤
RestBytes p (Some r) = AreBytes r.body × (p < 256 → r.p3 < 256)

rest_cond : (p : ℕ) (b : Bool) (x y : Option Rest) → RestBytes p x → RestBytes p y → RestBytes p (cond b x y)
rest_cond p true x y h k = h
rest_cond p false x y h k = k

short_bytes : (lc : ℕ) (b : List ℕ) → AreBytes b → RestBytes lc (short_rest lc b)
unfolding RestBytes
short_bytes lc b h =
    rest_cond lc (length b == lc) (Some (record { p3 = lc; body = b; le = None })) _ (h, λ k. k)
    (rest_cond lc (length b == lc + 1) (Some (record { p3 = lc; body = take lc b; le = _ })) None (taken lc b h, λ k. k) tt)

body_bytes : (p lc : ℕ) (b : List ℕ) → AreBytes b → RestBytes p (extended_body lc b)
unfolding RestBytes
body_bytes p lc b h =
    rest_cond p (length b == lc) (Some (record { p3 = 0; body = b; le = None })) _ (h, λ k. omega arith)
    (rest_cond p (length b == lc + 2) (Some (record { p3 = 0; body = take lc b; le = _ })) None (taken lc b h, λ k. omega arith) tt)

extended_bytes : (p : ℕ) (b : List ℕ) → AreBytes b → RestBytes p (extended_rest b)
unfolding RestBytes
extended_bytes p [] h = tt
extended_bytes p (x ∷ []) h = tt
extended_bytes p (x ∷ l ∷ []) h = (tt, λ k. omega arith)
extended_bytes p (x ∷ l ∷ y ∷ ys) h =
    rest_cond p (nat_le 1 (256 * x + l) && nat_le (256 * x + l) 1024) (extended_body (256 * x + l) (y ∷ ys)) None (body_bytes p (256 * x + l) (y ∷ ys) h.1.1) tt

-- the byte after a header, or 0
abbrev first_or_zero : List ℕ → ℕ
first_or_zero [] = 0
first_or_zero (p ∷ b) = p

rest_bytes : (b : List ℕ) → AreBytes (drop 1 b) → RestBytes (first_or_zero b) (rest_read b)
unfolding RestBytes
rest_bytes [] h = (tt, λ k. k)
rest_bytes (p ∷ []) h = (tt, λ k. k)
rest_bytes (p ∷ x ∷ xs) h = rest_cond p (p == 0) (extended_rest (x ∷ xs)) (short_rest p (x ∷ xs)) (extended_bytes p (x ∷ xs) h) (short_bytes p (x ∷ xs) h)

-- a command to the manager has a body of bytes; one to an application is all bytes
abbrev pub IsByteRoute : Route → Type 0
IsByteRoute (ToManager a) = AreBytes a.body
IsByteRoute (ToApplication a) = IsByteCommand a
IsByteRoute WrongLength = ⊤
IsByteRoute WrongClass = ⊤
IsByteRoute (ToSelect a) = ⊤

route_cond : (b : Bool) (x y : Route) → IsByteRoute x → IsByteRoute y → IsByteRoute (cond b x y)
route_cond true x y h k = h
route_cond false x y h k = k

headed : (cla ins p1 p2 p : ℕ) (r : Option Rest) → AreBytes (cla ∷ ins ∷ p1 ∷ p2 ∷ p ∷ []) → RestBytes p r
    → IsByteRoute (route_of_parts (option_map (λ r. record { cla = cla; ins = ins; p1 = p1; p2 = p2; p3 = r.p3; body = r.body; le = r.le }) r))
unfolding RestBytes
headed cla ins p1 p2 p None h k = tt
headed cla ins p1 p2 p (Some r) h k =
    let fifth : r.p3 < 256 = k.1 h.1.1.1.1.0 in
    route_cond (cla == 0xFF) WrongClass _ tt
    (route_cond (cla == 0 && ins == 0xA4 && p1 == 4) (ToSelect _) _ tt
    (route_cond (cla == 0xBE) (ToManager _) (ToApplication _) k.0 (record { body = k.0; head = (h.0, (h.1.0, (h.1.1.0, (h.1.1.1.0, (fifth, tt))))) })))

first_byte : (b : List ℕ) → AreBytes b → first_or_zero b < 256
first_byte [] h = omega arith
first_byte (p ∷ b) h = h.0

-- a command of bytes
pub route_bytes : (b : List ℕ) → AreBytes b → IsByteRoute (route b)
unfolding apdu_read
route_bytes [] h = tt
route_bytes (cla ∷ []) h = tt
route_bytes (cla ∷ ins ∷ []) h = tt
route_bytes (cla ∷ ins ∷ p1 ∷ []) h = tt
route_bytes (cla ∷ ins ∷ p1 ∷ p2 ∷ b) h =
    headed cla ins p1 p2 (first_or_zero b) (rest_read b) (h.0, (h.1.0, (h.1.1.0, (h.1.1.1.0, (first_byte b h.1.1.1.1, tt))))) (rest_bytes b (bytes_from b 1 h.1.1.1.1))

-- a command to the manager, whose fifth byte may be any number
managers_rest : (ins p1 p2 p : ℕ) (r : Option Rest) → RestBytes p r
    → IsByteRoute (route_of_parts (option_map (λ r. record { cla = 0xBE; ins = ins; p1 = p1; p2 = p2; p3 = r.p3; body = r.body; le = r.le }) r))
unfolding RestBytes
managers_rest ins p1 p2 p None k = tt
managers_rest ins p1 p2 p (Some r) k = k.0

-- a command to the manager whose body is bytes takes a route of bytes
pub managers_bytes : (ins p1 p2 : ℕ) (b : List ℕ) → AreBytes (drop 1 b) → IsByteRoute (route (0xBE ∷ ins ∷ p1 ∷ p2 ∷ b))
unfolding apdu_read
managers_bytes ins p1 p2 b h = managers_rest ins p1 p2 (first_or_zero b) (rest_read b) (rest_bytes b h)

selects_rest : (p2 : ℕ) (r : Option Rest) → IsByteRoute (route_of_parts (option_map (λ r. record { cla = 0; ins = 0xA4; p1 = 4; p2 = p2; p3 = r.p3; body = r.body; le = r.le }) r))
selects_rest p2 None = tt
selects_rest p2 (Some r) = tt

-- a SELECT, whatever the name
pub selects_bytes : (p2 : ℕ) (b : List ℕ) → IsByteRoute (route (0x00 ∷ 0xA4 ∷ 0x04 ∷ p2 ∷ b))
unfolding apdu_read
selects_bytes p2 b = selects_rest p2 (rest_read b)

-- ---- names in DIR records

-- a value that is read from bytes
OnValue : Option Object → Type 0
OnValue None = ⊤
OnValue (Some o) = AreBytes o.value × AreBytes o.rest

OnSize : Option (ℕ × List ℕ) → Type 0
OnSize None = ⊤
OnSize (Some s) = AreBytes s.1

size_cond : (b : Bool) (x y : Option (ℕ × List ℕ)) → OnSize x → OnSize y → OnSize (cond b x y)
size_cond true x y h k = h
size_cond false x y h k = k

sized : (b : List ℕ) → AreBytes b → OnSize (size_at b)
unfolding OnSize
sized [] h = tt
sized (b ∷ []) h = size_cond (nat_lt b 128) (Some (b, [])) (cond (b == 129) None None) tt (size_cond (b == 129) None None tt tt)
sized (b ∷ c ∷ bs) h =
    size_cond (nat_lt b 128) (Some (b, c ∷ bs)) (cond (b == 129) (Some (c, bs)) None) h.1 (size_cond (b == 129) (Some (c, bs)) None h.1.1 tt)

value_cond : (b : Bool) (x y : Option Object) → OnValue x → OnValue y → OnValue (cond b x y)
value_cond true x y h k = h
value_cond false x y h k = k

valued : (t : List ℕ) (s : Option (ℕ × List ℕ)) → OnSize s → OnValue (option_and_then (value_at t) s)
unfolding OnSize OnValue
valued t None h = tt
valued t (Some s) h = value_cond (nat_lt (length s.1) s.0) None (Some (record { tag = t; value = take s.0 s.1; rest = drop s.0 s.1 })) tt (taken s.0 s.1 h, bytes_from s.1 s.0 h)

object_by : (b : List ℕ) (n : Option ℕ) → AreBytes b → OnValue (option_and_then (λ n. option_and_then (value_at (take n b)) (size_at (drop n b))) n)
unfolding OnValue
object_by b None h = tt
object_by b (Some n) h = valued (take n b) (size_at (drop n b)) (sized (drop n b) (bytes_from b n h))

object_bytes : (b : List ℕ) → AreBytes b → OnValue (object_at b)
unfolding object_at
object_bytes b h = object_by b (tag_len b) h

OnBytes : Option (List ℕ) → Type 0
OnBytes None = ⊤
OnBytes (Some v) = AreBytes v

bytes_cond : (b : Bool) (x y : Option (List ℕ)) → OnBytes x → OnBytes y → OnBytes (cond b x y)
bytes_cond true x y h k = h
bytes_cond false x y h k = k

template_by : (o : Option Object) → OnValue o → OnBytes (option_and_then (λ o. cond (bytes_eq o.tag (97 ∷ [])) (Some o.value) None) o)
unfolding OnValue OnBytes
template_by None h = tt
template_by (Some o) h = bytes_cond (bytes_eq o.tag (97 ∷ [])) (Some o.value) None h.0 tt

template_bytes : (d : List ℕ) → AreBytes d → OnBytes (template_of d)
unfolding template_of
template_bytes d h = template_by (object_at d) (object_bytes d h)

name_by : (n : ℕ) (o : Option Object) → OnValue o → ((b : List ℕ) → AreBytes b → OnBytes (name_among n b))
    → OnBytes (option_and_then (λ o. cond (bytes_eq o.tag (79 ∷ [])) (Some o.value) (name_among n o.rest)) o)
unfolding OnValue OnBytes
name_by n None h again = tt
name_by n (Some o) h again = bytes_cond (bytes_eq o.tag (79 ∷ [])) (Some o.value) (name_among n o.rest) h.0 (again o.rest h.1)

among_bytes : (n : ℕ) (b : List ℕ) → AreBytes b → OnBytes (name_among n b)
unfolding name_among OnBytes
among_bytes zero b h = tt
among_bytes (suc n) b h = name_by n (object_at b) (object_bytes b h) (λ c k. among_bytes n c k)

then_bytes : (o : Option (List ℕ)) → OnBytes o → OnBytes (option_and_then (λ t. name_among (length t) t) o)
unfolding OnBytes
then_bytes None h = tt
then_bytes (Some t) h = among_bytes (length t) t h

checked : (o : Option (List ℕ)) (n : List ℕ) → OnBytes o → checked_name o ≡ Ok n → IsName n
unfolding OnBytes
checked None n h e = absurd (cc e)
checked (Some v) n h e = by (nat_le 5 (length v)) (nat_le (length v) 16) refl refl e
  where
    by : (x y : Bool) → nat_le 5 (length v) ≡ x → nat_le (length v) 16 ≡ y → cond (x && y) (Ok v) (Err AidLength) ≡ Ok n → IsName n
    by x y low high e = grind (arith, leb-true)

name_bytes : (d n : List ℕ) → AreBytes d → name_of d ≡ Ok n → IsName n
unfolding name_of
name_bytes d n h e = checked (option_and_then (λ t. name_among (length t) t) (template_of d)) n (then_bytes (template_of d) (template_bytes d h)) e

-- ---- the manager

-- what a command does: items of bytes, and a session state of bytes
pub record IsByteResult (r : Command) : Type 0 where
  pub items : AllByRecursion IsByteItem r.items
  pub session_state : IsByteSession r.session_state

with_load : (p : Part) (b : List ℕ) (o : Open) → AreBytes b → IsLoad (Some o) → IsLoad (Some (record o { got = with_got p b o.got }))
with_load p b o h k = grind (arith, joined)

plain_items : (n : ℕ) (is : List Item) → AllByRecursion IsByteItem is → AllByRecursion IsByteItem (plains n is)
plain_items = plains_are (AllByRecursion IsByteItem) (λ is h. (tt, h))

module _ (c : Card) (session_state : SessionState) (apps : AreByteApps c.apps) (is : IsByteSession session_state) where
  selected_bytes : (a : ApduParts) (r : Command) → IsSelect c session_state a r → IsByteResult r
  selected_bytes a _ (made.unselected sw h) = record { items = tt; session_state = is }
  selected_bytes a _ (made.selected app h) =
      record { items = tt; session_state = record { selected = ((each_found IsByteApp c.apps a.body app apps h).name, zero_bytes app.session); load = is.load } }

  quiet_bytes : (a : ApduParts) (o : Order) (body : List ℕ) (load : Option Open) → IsQuiet (room_on c) c.apps session_state a o body load → IsLoad load
  quiet_bytes a _ _ _ (quiet.answers o first rest) = is.load
  quiet_bytes a _ _ _ (quiet.opens h) = (tt, tt, tt)

  made_bytes : (a : ApduParts) (o : Order) (r : Command) → AreBytes a.body → IsCommand c session_state a o r → IsByteResult r
  made_bytes a _ _ bytes (made.refused o sw h) = record { items = tt; session_state = is }
  made_bytes a _ _ bytes (made.quiet o body load h) = record { items = tt; session_state = record { selected = is.selected; load = quiet_bytes a o body load h } }
  made_bytes a _ _ bytes (made.loaded p l h) =
      let load : IsLoad (Some l) = subst IsLoad h.is is.load in
      record { items = plain_items (length (word_parts (p1p2 a) a.body)) [] tt; session_state = record { selected = is.selected; load = with_load p a.body l bytes load } }
  made_bytes a _ _ bytes (made.created l n h) =
      let load : IsLoad (Some l) = subst IsLoad h.is is.load in
      let zeros_behind : List ℕ = zeros (l.site.sizes.fixed - l.site.sizes.init) in
      let app : IsByteApp (n, fresh l) =
      record { name = name_bytes l.got.dir n load.2 h.name; code = load.0; fixed = joined l.got.init zeros_behind load.1 (zero_bytes (l.site.sizes.fixed - l.site.sizes.init)) } in
      record {
        items = plain_items (blank_words l.site) (plains 4 (atomic_of c (Some (Created n (fresh l))) ∷ [])) (tt, (tt, (tt, (tt, (app, tt)))));
        session_state = record { selected = is.selected; load = tt };
      }
  made_bytes a _ _ bytes (made.deleted h) = record { items = (tt, tt); session_state = record { selected = is.selected; load = tt } }

-- ---- a command

passed_bytes : (c : Card) (session_state : SessionState) (o : Option Selected) (a : ApduParts) (budget : ℕ) → session_state.selected ≡ o → AreByteApps c.apps → IsByteSession session_state → IsByteCommand a
    → IsByteResult (application_command c session_state o a budget)
passed_bytes c session_state None a budget e apps is k = record { items = tt; session_state = is }
passed_bytes c session_state (Some s) a budget e apps is k =
    let selection : IsSelection (Some s) = subst IsSelection e is.selected in
    let r : IsByteRun (run c.apps s.name s.session a budget) = run_bytes budget (start c.apps s.name s.session a) (start_bytes c.apps s.name s.session a apps selection.0 selection.1 k) in
    record { items = written_items (run c.apps s.name s.session a budget).writes r.writes; session_state = record { selected = (selection.0, r.session); load = is.load } }

routed_bytes : (c : Card) (session_state : SessionState) (budget : ℕ) (r : Route) → IsByteRoute r → AreByteApps c.apps → IsByteSession session_state → IsByteResult (by_route c session_state budget r)
routed_bytes c session_state budget WrongLength k apps is = record { items = tt; session_state = is }
routed_bytes c session_state budget WrongClass k apps is = record { items = tt; session_state = is }
routed_bytes c session_state budget (ToSelect a) k apps is = selected_bytes c session_state apps is a (manager_command c session_state (select c.apps session_state a)) (selects_law c session_state a)
routed_bytes c session_state budget (ToManager a) k apps is =
    made_bytes c session_state apps is a (order_of a.ins) (manager_command c session_state (manage (room_on c) c.apps session_state a)) k (command_made c session_state a)
routed_bytes c session_state budget (ToApplication a) k apps is = passed_bytes c session_state session_state.selected a budget refl apps is k

-- a command on a card of bytes has a result of bytes
pub commanded : (c : Card) (session_state : SessionState) (b : List ℕ) (budget : ℕ) → IsByteRoute (route b) → AreByteApps c.apps → IsByteSession session_state → IsByteResult (command c session_state b budget)
unfolding command
commanded c session_state b budget k apps is = routed_bytes c session_state budget (route b) k apps is

-- ---- the commands of a load

with_rest : (b : Bool) (r rest : Command) → IsByteResult r → IsByteResult rest → IsByteResult (command_with_rest b r rest)
with_rest true r rest h k = record { items = all_append IsByteItem r.items rest.items h.items k.items; session_state = k.session_state }
with_rest false r rest h k = h

-- so have several commands in a row
pub sent_bytes : (c : Card) (session_state : SessionState) (budget : ℕ) (bs : List (List ℕ)) → AllByRecursion (λ b. IsByteRoute (route b)) bs → AreByteApps c.apps → IsByteSession session_state → IsByteResult (send c session_state budget bs)
unfolding send
sent_bytes c session_state budget [] k apps is = record { items = tt; session_state = is }
sent_bytes c session_state budget (b ∷ bs) k apps is =
    let r = command c session_state b budget in
    let one : IsByteResult r = commanded c session_state b budget k.0 apps is in
    with_rest (is_done r.outcome) r (send (card_done c r.items) r.session_state budget bs) one
    (sent_bytes (card_done c r.items) r.session_state budget bs k.1 (items_bytes r.items c.apps apps one.items) one.session_state)
