-- The commands of the card manager: select, load, create, delete; and how a command is routed to it or to an
-- application. Headers, SELECT and status words are those of ISO/IEC 7816-4:2005 (5.1 and 7.1.1); the commands of class
-- BE are this project's own.
use Rattle.std.specs.Prelude.{ℕ, zero, suc, ◌+◌, ◌-◌, ◌*◌, ◌%◌, Bool, true, false, cond, not, ◌&&◌, ◌||◌, nat_lt, nat_le, ◌==◌, min, List, [], ◌∷◌, ◌++◌, length, take, drop, map, slice_index, bytes_eq, is_some, is_none, is_ok, unwrap_or, Option, Some, None, Result, Ok, Err}
use Rattle.model_card.specs.declared.card.Part.{Part}
use Rattle.model_card.specs.declared.card.Part.TheVariants as part
use Rattle.model_card.specs.declared.card.Sizes.{Sizes}
use Rattle.model_card.specs.declared.unit.AidFault.{AidFault}
use Rattle.model_machine.specs.model_device.specs.Limits.{most_code, most_static, most_session, most_record}
use Rattle.model_machine.specs.model_device.specs.Bytes.{be2, zeros, lookup}
use Rattle.model_machine.specs.Apdu.{ApduParts, apdu_read}
use Rattle.model_card.specs.Units.{name_of}
use Rattle.model_machine.specs.model_device.specs.Card.{App, Card, words_of_lengths}
use Rattle.model_machine.specs.model_device.specs.Layout.{gaps, first_fitting}
use Rattle.model_card.specs.Items.{Change, Created, Deleted, Site, BankItem, Piece, Blank, Note, Enter, Remove}

-- ---- state

-- the selected application, and its session bytes
pub record Selected : Type 0 where
  pub name : List ℕ
  pub session : List ℕ

-- the bytes that each section of an open load has received
pub record Got : Type 0 where
  pub code : List ℕ
  pub init : List ℕ
  pub dir : List ℕ
  pub fci : List ℕ

-- an open load: its site, and the bytes that its sections have received
pub record Open : Type 0 where
  pub site : Site
  pub got : Got

-- the session state: the selection and the open load
pub record SessionState : Type 0 where
  pub selected : Option Selected
  pub load : Option Open

-- the session state after a power-up: nothing selected, and no load open
abbrev pub empty_session_state : SessionState
empty_session_state = record { selected = None; load = None }

-- ---- routing

-- the route of a command: a refusal, SELECT, the manager, or the selected application
pub data Route : Type 0 where
  WrongLength : Route
  WrongClass : Route
  ToSelect : (apdu : ApduParts) → Route
  ToManager : (apdu : ApduParts) → Route
  ToApplication : (apdu : ApduParts) → Route

-- the route of a command APDU, or of bytes that are none
abbrev pub route_of_parts : Option ApduParts → Route
route_of_parts None = WrongLength
route_of_parts (Some a) =
    cond (a.cla == 0xFF) WrongClass (
    cond (a.cla == 0 && a.ins == 0xA4 && a.p1 == 4) (ToSelect a) (cond (a.cla == 0xBE) (ToManager a) (ToApplication a))
    )

-- the route of the bytes of a command
abbrev pub route : List ℕ → Route
route bytes = route_of_parts (apdu_read bytes)

-- ---- answers

-- a command that was done, with 9000: its data, the state after it, its items, and how they change the card
pub record Accepted : Type 0 where
  pub body : List ℕ
  pub session_state : SessionState
  pub items : List BankItem
  pub change : Option Change

-- the answer of the manager
pub data Managed : Type 0 where
  Declines : (sw : ℕ) → Managed
  Accepts : (done : Accepted) → Managed

-- the first status whose condition holds
abbrev pub first_status : List (ℕ × Bool) → Option ℕ
first_status [] = None
first_status (c ∷ cs) = cond c.1 (Some c.0) (first_status cs)

-- the answer to a command, by its first refusal
abbrev pub answer_unless : Option ℕ → Accepted → Managed
answer_unless (Some sw) a = Declines sw
answer_unless None a = Accepts a

-- P1 and P2 as one number
abbrev pub p1p2 : ApduParts → ℕ
p1p2 a = 256 * a.p1 + a.p2

-- whether there are no bytes
abbrev pub is_empty : List ℕ → Bool
is_empty [] = true
is_empty (b ∷ bs) = false

-- a command without items
abbrev pub changes_nothing : List ℕ → SessionState → Accepted
changes_nothing body session_state = record { body = body; session_state = session_state; items = []; change = None }

-- ---- SELECT (00 A4 04): 6A86, 6700, 6A82

-- the refusals of a SELECT, in order
abbrev pub select_refusals : List (List ℕ × App) → ApduParts → List (ℕ × Bool)
select_refusals map a =
    (0x6A86, not (a.p2 == 0 || a.p2 == 0x0C)) ∷ (0x6700, is_empty a.body) ∷ (0x6A82, is_none (lookup map a.body)) ∷ []

-- the data of the answer to a SELECT: with P2 00 the first bytes of the FCI, at most Le; with P2 0C none
abbrev pub select_body : ApduParts → App → List ℕ
select_body a app = cond (a.p2 == 0) (take (unwrap_or a.le 0) app.fci) []

-- what a SELECT does
abbrev pub select_done : SessionState → ApduParts → Option App → Accepted
select_done session_state a None = changes_nothing [] session_state
select_done session_state a (Some app) =
    changes_nothing (select_body a app) (record session_state { selected = Some (record { name = a.body; session = zeros app.session }) })

-- SELECT
abbrev pub select : List (List ℕ × App) → SessionState → ApduParts → Managed
select map session_state a = answer_unless (first_status (select_refusals map a)) (select_done session_state a (lookup map a.body))

-- ---- OPEN (BE 12): 6A86, 6700, 6A80, 6A84

-- the six lengths of the data, and P1 P2 as access list
abbrev pub sizes_in : ApduParts → Sizes
sizes_in a =
    record {
      code = be2 a.body 0;
      fixed = be2 a.body 2;
      init = be2 a.body 4;
      session = be2 a.body 6;
      dir = be2 a.body 8;
      fci = be2 a.body 10;
      deny = p1p2 a;
    }

-- whether sizes are within the limits of an application
abbrev pub fits_limits : Sizes → Bool
fits_limits s =
    nat_le 1 s.code
    && nat_le s.code most_code
    && nat_le s.fixed most_static
    && nat_le s.init s.fixed
    && nat_le s.session most_session
    && nat_le s.dir most_record
    && nat_le s.fci most_record

-- the refusals of an OPEN, in order; `room` returns the place at which a load of some sizes has room, if there is one
abbrev pub open_refusals : (Sizes → Option ℕ) → List (List ℕ × App) → ApduParts → List (ℕ × Bool)
open_refusals room map a =
    (0x6A86, nat_lt 15 (p1p2 a)) ∷ (0x6700, not (length a.body == 12)) ∷ (0x6A80, not (fits_limits (sizes_in a)))
    ∷ (0x6A84, nat_le 32 (length map) || is_none (room (sizes_in a))) ∷ []

-- what an OPEN does: a load is open at the place that has room, and replaces an earlier one
abbrev pub open_done : (Sizes → Option ℕ) → SessionState → ApduParts → Accepted
open_done room session_state a =
    changes_nothing [] (record session_state {
      load = Some (record { site = record { sizes = sizes_in a; place = unwrap_or (room (sizes_in a)) 0 }; got = record { code = []; init = []; dir = []; fci = [] } });
    })

-- OPEN
abbrev pub open_load : (Sizes → Option ℕ) → List (List ℕ × App) → SessionState → ApduParts → Managed
open_load room map session_state a = answer_unless (first_status (open_refusals room map a)) (open_done room session_state a)

-- ---- LOAD (BE 24 code, BE 26 data, BE 20 DIR, BE 22 FCI): 6700, 6985, 6A80

-- the bytes that a section has received
abbrev pub got_of : Part → Got → List ℕ
got_of part.Code g = g.code
got_of part.Data g = g.init
got_of part.Dir g = g.dir
got_of part.Fci g = g.fci

-- the size of a section
abbrev pub size_of : Part → Sizes → ℕ
size_of part.Code s = s.code
size_of part.Data s = s.init
size_of part.Dir s = s.dir
size_of part.Fci s = s.fci

-- the bytes received, with these more in a section
abbrev pub with_got : Part → List ℕ → Got → Got
with_got part.Code b g = record g { code = g.code ++ b }
with_got part.Data b g = record g { init = g.init ++ b }
with_got part.Dir b g = record g { dir = g.dir ++ b }
with_got part.Fci b g = record g { fci = g.fci ++ b }

-- the parts of bytes at a place of a section that lie in one word each, in order
abbrev pub in_words : ℕ → ℕ → List ℕ → List (ℕ × List ℕ)
in_words zero at b = []
in_words (suc n) at b =
    let k = 8 - at % 8 in
    cond (is_empty b) [] ((at, take k b) ∷ in_words n (at + k) (drop k b))

-- the parts of a piece that lie in one word each
abbrev pub word_parts : ℕ → List ℕ → List (ℕ × List ℕ)
word_parts at b = in_words (length b) at b

-- the refusals of a LOAD, in order
abbrev pub load_refusals : Option Open → Part → ApduParts → List (ℕ × Bool)
load_refusals None p a = (0x6700, is_empty a.body) ∷ (0x6985, true) ∷ []
load_refusals (Some o) p a =
    let got = length (got_of p o.got) in
    (0x6700, is_empty a.body) ∷ (0x6985, not (p1p2 a == got)) ∷ (0x6A80, nat_lt (size_of p o.site.sizes) (got + length a.body)) ∷ []

-- what a LOAD does: one item for each word that its piece touches
abbrev pub load_done : SessionState → Option Open → Part → ApduParts → Accepted
load_done session_state None p a = changes_nothing [] session_state
load_done session_state (Some o) p a =
    record {
      body = [];
      session_state = record session_state { load = Some (record o { got = with_got p a.body o.got }) };
      items = map (λ c. Piece o.site p c.0 c.1) (word_parts (length (got_of p o.got)) a.body);
      change = None;
    }

-- LOAD for a section
abbrev pub load_part : Part → SessionState → ApduParts → Managed
load_part p session_state a = answer_unless (first_status (load_refusals session_state.load p a)) (load_done session_state session_state.load p a)

-- ---- CREATE (BE 16): 6A86, 6700, 6985, 6A80, 6A89

-- whether each section has received all its bytes
abbrev pub is_complete : Open → Bool
is_complete o =
    length o.got.code == o.site.sizes.code && length o.got.init == o.site.sizes.init
    && length o.got.dir == o.site.sizes.dir && length o.got.fci == o.site.sizes.fci

-- whether a load is open and complete
abbrev pub can_create : Option Open → Bool
can_create None = false
can_create (Some o) = is_complete o

-- the DIR record of an open load
abbrev pub dir_in : Option Open → List ℕ
dir_in None = []
dir_in (Some o) = o.got.dir

-- whether the name is on the card
abbrev pub is_taken : List (List ℕ × App) → Result (List ℕ) AidFault → Bool
is_taken map (Ok n) = is_some (lookup map n)
is_taken map (Err e) = false

-- the refusals of a CREATE, in order
abbrev pub create_refusals : List (List ℕ × App) → Option Open → ApduParts → List (ℕ × Bool)
create_refusals map load a =
    (0x6A86, not (p1p2 a == 0)) ∷ (0x6700, not (is_empty a.body)) ∷ (0x6985, not (can_create load))
    ∷ (0x6A80, not (is_ok (name_of (dir_in load)))) ∷ (0x6A89, is_taken map (name_of (dir_in load))) ∷ []

-- the application of a complete load: its static bytes are the data, followed by zeros
abbrev pub fresh : Open → App
fresh o =
    record {
      code = o.got.code;
      fixed = o.got.init ++ zeros (o.site.sizes.fixed - o.site.sizes.init);
      session = o.site.sizes.session;
      deny = o.site.sizes.deny;
      dir = o.got.dir;
      fci = o.got.fci;
      place = o.site.place;
    }

-- the items of a CREATE: zeros after the data, a word at a time; the four words of the record; the creation
abbrev pub create_items : Site → List ℕ → List BankItem
create_items s n =
    map (λ c. Blank s c.0 (length c.1)) (word_parts s.sizes.init (zeros (s.sizes.fixed - s.sizes.init)))
    ++ Note s n 0 ∷ Note s n 1 ∷ Note s n 2 ∷ Note s n 3 ∷ Enter s n ∷ []

-- what a CREATE does
abbrev pub create_done : SessionState → Option Open → Result (List ℕ) AidFault → Accepted
create_done session_state None n = changes_nothing [] session_state
create_done session_state (Some o) (Err e) = changes_nothing [] session_state
create_done session_state (Some o) (Ok n) =
    record { body = []; session_state = record session_state { load = None }; items = create_items o.site n; change = Some (Created n (fresh o)) }

-- CREATE
abbrev pub create : List (List ℕ × App) → SessionState → ApduParts → Managed
create map session_state a = answer_unless (first_status (create_refusals map session_state.load a)) (create_done session_state session_state.load (name_of (dir_in session_state.load)))

-- ---- DELETE (BE 18): 6A86, 6700, 6A82, 6985

-- whether the name is selected
abbrev pub is_selected : Option Selected → List ℕ → Bool
is_selected None n = false
is_selected (Some s) n = bytes_eq s.name n

-- the refusals of a DELETE, in order
abbrev pub delete_refusals : List (List ℕ × App) → SessionState → ApduParts → List (ℕ × Bool)
delete_refusals map session_state a =
    (0x6A86, not (p1p2 a == 0)) ∷ (0x6700, is_empty a.body) ∷ (0x6A82, is_none (lookup map a.body)) ∷ (0x6985, is_selected session_state.selected a.body) ∷ []

-- what a DELETE does
abbrev pub delete_done : SessionState → ApduParts → Accepted
delete_done session_state a = record { body = []; session_state = record session_state { load = None }; items = Remove a.body ∷ []; change = Some (Deleted a.body) }

-- DELETE
abbrev pub delete : List (List ℕ × App) → SessionState → ApduParts → Managed
delete map session_state a = answer_unless (first_status (delete_refusals map session_state a)) (delete_done session_state a)

-- ---- the table

-- a command of class BE by its INS: 6D00 for any other
unfoldable pub manage : (Sizes → Option ℕ) → List (List ℕ × App) → SessionState → ApduParts → Managed
manage room map session_state a =
    cond (a.ins == 0x12) (open_load room map session_state a) (
    cond (a.ins == 0x24) (load_part part.Code session_state a) (
    cond (a.ins == 0x26) (load_part part.Data session_state a) (
    cond (a.ins == 0x20) (load_part part.Dir session_state a) (
    cond (a.ins == 0x22) (load_part part.Fci session_state a) (
    cond (a.ins == 0x16) (create map session_state a) (cond (a.ins == 0x18) (delete map session_state a) (Declines 0x6D00))
    )
    )
    )
    )
    )

-- the place at which a load has room on a card of words: the first gap that is long enough
abbrev pub room_on : Card → Sizes → Option ℕ
room_on card s = first_fitting (words_of_lengths s.code s.fixed s.dir s.fci) (gaps card)
