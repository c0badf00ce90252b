-- The device writes of the commands of a load at the most.
use Rattle.std.proofs.Common.{◌≡◌, ℕ, zero, suc, ◌+◌, ◌/◌, ◌%◌, ◌<◌, ◌≤◌, Bool, true, false, cond, List, [], ◌∷◌, ◌++◌, take, drop, length, Option, Some, None, refl, sym, ◌∙◌, ap, subst, inl, inr, arith}
use Rattle.std.specs.Prelude.{◌==◌, option_map, slice_index}
use Rattle.std.proofs.lemmas.Bool.{eq-eqb}
use Rattle.std.proofs.lemmas.Bool.Decides.{eqb_tells}
use Rattle.std.proofs.lemmas.List.{length-take, length-drop, append_assoc}
use Rattle.law_family.specs.model_card.specs.declared.card.Part.{Part}
use Rattle.law_family.specs.model_card.specs.declared.card.Part.TheVariants as part
use Rattle.law_family.specs.model_device.specs.Bytes.{AreBytes, bytes2, up}
use Rattle.law_family.specs.model_machine.specs.Apdu.{ApduParts, Rest, rest_read, short_rest, extended_rest, short_le, apdu_read}
use Rattle.law_family.specs.model_card.specs.Units.{UnitParts}
use Rattle.law_family.specs.model_device.specs.Card.{Card}
use Rattle.law_family.specs.model_card.specs.Items.{moves, card_done}
use Rattle.law_family.specs.model_card.specs.Manager.{SessionState, Route, ToManager, route_of_parts, route, Managed, p1p2, open_load, load_part, create, room_on}
use Rattle.law_family.specs.model_card.specs.Commands.{Command, manager_command, by_route, command}
use Rattle.law_family.specs.model_play.specs.Play.{is_done, command_with_rest, send, piece_commands, section_commands, load_commands}
use Rattle.law_family.specs.model_card.proofs.ItemLemmas.{moves_append}
use Rattle.law_family.specs.model_device.proofs.ListLemmas.{pair_bytes}
use Rattle.law_family.specs.model_device.proofs.ImageLemmas.{all_append}
use Rattle.law_family.specs.law_machine.proofs.AppSizes.{Limited, limited_done}
use Rattle.law_family.specs.law_manager.specs.Orders.{Order, Opens, Loads, Creates, order_of, ins_of_part, managed}
use Rattle.law_family.specs.law_manager.specs.OnCard.{IsCommand}
use Rattle.law_family.specs.law_manager.proofs.Orders.{order_law, part_order}
use Rattle.law_family.specs.law_manager.proofs.OnCard.{commands_law}
use Rattle.law_family.proofs.CardFacts.{all_take, all_drop, AreOnCard, done_stands}
use Rattle.law_family.proofs.PlaySizes.{SessionStateFits, command_fits}
use Rattle.law_family.proofs.FewItems.{IsSent, SessionStateStands, command_stands}
use Rattle.law_wear.specs.Most.{most_of_creation, most_of_load}
use Rattle.law_wear.proofs.Commands.{fixed_in, manager_turns, most_of_order, made_few}
use Rattle.law_wear.proofs.Pieces.{parts_few}

-- ---- commands in turn

-- a running card within the limits
pub record Good (c : Card) (session_state : SessionState) : Type 0 where
  pub limited : Limited c.apps
  pub fits : SessionStateFits c.apps session_state
  pub on : AreOnCard c.apps
  pub stands : SessionStateStands c.apps session_state

-- a card within the limits stays so after a command that may be sent
pub good_after : (c : Card) (session_state : SessionState) (b : List ℕ) (budget : ℕ) → IsSent b → Good c session_state → let r = command c session_state b budget in Good (card_done c r.items) r.session_state
good_after c session_state b budget sent h =
    let r = command c session_state b budget in
    let f = command_fits c session_state b budget h.fits in
    let k = command_stands c session_state b budget sent h.limited h.on h.stands in
    record { limited = limited_done r.items c.apps h.limited f.items; fits = f.session_state; on = done_stands r.items c.apps h.on k.items; stands = k.session_state }

-- a command makes at most n device writes, and runs no instruction
pub record Sends (n : ℕ) (r : Command) : Type 0 where
  pub writes : moves r.items ≤ n
  pub none : r.turns ≡ []

-- so do commands in turn, on every card within the limits whose open load has at most this many static bytes
abbrev SendsWithin : ℕ → ℕ → ℕ → List (List ℕ) → Type 0
SendsWithin fixed budget n bs = (c : Card) (session_state : SessionState) → Good c session_state → fixed_in session_state.load ≤ fixed → Sends n (send c session_state budget bs)

sends_after : (b : Bool) (r rest : Command) (k n : ℕ) → Sends k r → (b ≡ true → Sends n rest) → Sends (k + n) (command_with_rest b r rest)
sends_after true r rest k n h more =
    let first = h.writes in
    let later = (more refl).writes in
    record { writes = omega (arith, moves_append r.items rest.items, first, later); none = ap (λ (ts : List _). ts ++ rest.turns) h.none ∙ (more refl).none }
sends_after false r rest k n h more = let first = h.writes in record { writes = omega (arith, first); none = h.none }

-- a command, after which the open load has again at most this number of static bytes
record Steps (fixed budget k : ℕ) (b : List ℕ) (c : Card) (session_state : SessionState) : Type 0 where
  first : Sends k (command c session_state b budget)
  keeps : is_done (command c session_state b budget).outcome ≡ true → fixed_in (command c session_state b budget).session_state.load ≤ fixed

send_steps : (fixed budget k n : ℕ) (b : List ℕ) (bs : List (List ℕ)) (c : Card) (session_state : SessionState) → IsSent b → Good c session_state → Steps fixed budget k b c session_state → SendsWithin fixed budget n bs → Sends (k + n) (send c session_state budget (b ∷ bs))
unfolding send
send_steps fixed budget k n b bs c session_state sent good h rest =
    let r = command c session_state b budget in
    sends_after (is_done r.outcome) r (send (card_done c r.items) r.session_state budget bs) k n h.first
    (λ done. rest (card_done c r.items) r.session_state (good_after c session_state b budget sent good) (h.keeps done))

-- commands that add k device writes to those after them
abbrev Adds : ℕ → ℕ → ℕ → List (List ℕ) → Type 0
Adds fixed budget k cs = (n : ℕ) (bs : List (List ℕ)) → SendsWithin fixed budget n bs → SendsWithin fixed budget (k + n) (cs ++ bs)

adds_append : (fixed budget k l : ℕ) (cs ds : List (List ℕ)) → Adds fixed budget k cs → Adds fixed budget l ds → Adds fixed budget (k + l) (cs ++ ds)
adds_append fixed budget k l cs ds h j n bs rest c session_state good size =
    let all : Sends (k + (l + n)) (send c session_state budget (cs ++ (ds ++ bs))) = h (l + n) (ds ++ bs) (j n bs rest) c session_state good size in
    let writes = all.writes in
    subst (λ (es : List (List ℕ)). Sends (k + l + n) (send c session_state budget es)) (sym (append_assoc cs ds bs)) (record { writes = omega (arith, writes); none = all.none })

-- ---- the manager's commands

-- the command of bytes that reach the manager, by name
routed : (c : Card) (session_state : SessionState) (budget : ℕ) (b : List ℕ) (a : ApduParts) (o : Order) → route b ≡ ToManager a → order_of a.ins ≡ o
    → command c session_state b budget ≡ manager_command c session_state (managed o (room_on c) c.apps session_state a)
unfolding command
routed c session_state budget b a o r is =
    ap (λ (x : Route). by_route c session_state budget x) r
    ∙ ap (λ (x : Managed). manager_command c session_state x) ((order_law (room_on c) c.apps session_state a).is ∙ ap (λ (x : Order). managed x (room_on c) c.apps session_state a) is)

managed_sends : (c : Card) (session_state : SessionState) (a : ApduParts) (o : Order) → Good c session_state → Sends (most_of_order c session_state a o) (manager_command c session_state (managed o (room_on c) c.apps session_state a))
managed_sends c session_state a o good =
    let m = managed o (room_on c) c.apps session_state a in
    record { writes = made_few c session_state a o (manager_command c session_state m) good.on good.fits.load (commands_law o c session_state a); none = manager_turns c session_state m }

steps_managed : (fixed budget k : ℕ) (b : List ℕ) (c : Card) (session_state : SessionState) (a : ApduParts) (o : Order) → route b ≡ ToManager a → order_of a.ins ≡ o → Good c session_state → most_of_order c session_state a o ≤ k
    → (let r = manager_command c session_state (managed o (room_on c) c.apps session_state a) in is_done r.outcome ≡ true → fixed_in r.session_state.load ≤ fixed) → Steps fixed budget k b c session_state
steps_managed fixed budget k b c session_state a o r is good most keeps =
    grind (arith, routed c session_state budget b a o r is, managed_sends c session_state a o good, (managed_sends c session_state a o good).writes)

-- ---- pieces

-- a LOAD leaves the sizes of the open load
load_size : (c : Card) (session_state : SessionState) (a : ApduParts) (p : Part) (r : Command) → IsCommand c session_state a (Loads p) r → fixed_in r.session_state.load ≤ fixed_in session_state.load
load_size c session_state a p r h = grind (arith, fixed_in)

-- the command of a piece
abbrev piece_bytes : ℕ → ℕ → List ℕ → List ℕ
piece_bytes ins at b = 0xBE ∷ ins ∷ (bytes2 at ++ length b ∷ b)

abbrev piece_apdu : ℕ → ℕ → List ℕ → ApduParts
piece_apdu ins at b = record { cla = 0xBE; ins = ins; p1 = at / 256 % 256; p2 = at % 256; p3 = length b; body = b; le = None }

rest_of_piece : (x : ℕ) (xs : List ℕ) → rest_read (length (x ∷ xs) ∷ x ∷ xs) ≡ Some (record { p3 = length (x ∷ xs); body = x ∷ xs; le = None })
rest_of_piece x xs =
    let b : List ℕ = x ∷ xs in
    let some : (length b == 0) ≡ false = elim (eqb_tells (length b) 0) [ inl own ↦ absurd (let none = own.1 in omega (arith, none)) | inr other ↦ other.0 ] in
    ap (λ (t : Bool). cond t (extended_rest b) (short_rest (length b) b)) some
    ∙ ap (λ (t : Bool). cond t (Some (record { p3 = length b; body = b; le = None })) (cond (length b == length b + 1) (Some (record { p3 = length b; body = take (length b) b; le = Some (short_le (slice_index b (length b))) })) None)) (eq-eqb (length b) (length b) refl)

piece_route : (ins at x : ℕ) (xs : List ℕ) → route (piece_bytes ins at (x ∷ xs)) ≡ ToManager (piece_apdu ins at (x ∷ xs))
unfolding apdu_read
piece_route ins at x xs =
    ap (λ (o : Option Rest). route_of_parts (option_map (λ r. record { cla = 0xBE; ins = ins; p1 = at / 256 % 256; p2 = at % 256; p3 = r.p3; body = r.body; le = r.le }) o)) (rest_of_piece x xs)

module _ (p : Part) where
  abbrev ins : ℕ
  ins = ins_of_part p

  piece_steps : (fixed budget at : ℕ) (b : List ℕ) (c : Card) (session_state : SessionState) → (length b == 0) ≡ false → at % 8 ≡ 0 → Good c session_state → fixed_in session_state.load ≤ fixed → Steps fixed budget (up (length b) 8) (piece_bytes ins at b) c session_state
  piece_steps fixed budget at [] c session_state some aligned good size = absurd (cc some)
  piece_steps fixed budget at (x ∷ xs) c session_state some aligned good size =
      let a = piece_apdu ins at (x ∷ xs) in
      let few = parts_few (p1p2 a) (x ∷ xs) in
      let less = load_size c session_state a p (manager_command c session_state (load_part p session_state a)) (commands_law (Loads p) c session_state a) in
      steps_managed fixed budget (up (length (x ∷ xs)) 8) (piece_bytes ins at (x ∷ xs)) c session_state a (Loads p) (piece_route ins at x xs) (part_order p) good (omega (arith, few, aligned)) (λ done. omega (arith, less, size))

  pieces_add : (fixed budget k at : ℕ) (b : List ℕ) → AreBytes b → at % 8 ≡ 0 → Adds fixed budget (up (length b) 8) (piece_commands k ins at b)
  pieces_add fixed budget zero at b bytes aligned n bs rest c session_state good size = let all = rest c session_state good size in let writes = all.writes in record { writes = omega (arith, writes); none = all.none }
  pieces_add fixed budget (suc k) at b bytes aligned n bs rest c session_state good size =
      by (length b == 0) refl (pieces_add fixed budget k (at + 248) (drop 248 b) (all_drop (λ x. x < 256) 248 b bytes) (omega (arith, aligned)) n bs rest)
    where
      by : (t : Bool) → (length b == 0) ≡ t → SendsWithin fixed budget (up (length (drop 248 b)) 8 + n) (piece_commands k ins (at + 248) (drop 248 b) ++ bs)
          → Sends (up (length b) 8 + n) (send c session_state budget (cond t [] (piece_bytes ins at (take 248 b) ∷ piece_commands k ins (at + 248) (drop 248 b)) ++ bs))
      by true e more = let all = rest c session_state good size in let writes = all.writes in record { writes = omega (arith, writes); none = all.none }
      by false e more =
          let first : length (take 248 b) ≡ _ = length-take 248 b in
          let later : length (drop 248 b) ≡ _ = length-drop 248 b in
          let some : (length (take 248 b) == 0) ≡ false = elim (eqb_tells (length (take 248 b)) 0) [ inl own ↦ absurd (some_taken own.1) | inr other ↦ other.0 ] in
          let steps : Steps fixed budget (up (length (take 248 b)) 8) (piece_bytes ins at (take 248 b)) c session_state = piece_steps fixed budget at (take 248 b) c session_state some aligned good size in
          let all = send_steps fixed budget (up (length (take 248 b)) 8) (up (length (drop 248 b)) 8 + n) (piece_bytes ins at (take 248 b)) (piece_commands k ins (at + 248) (drop 248 b) ++ bs) c session_state (all_take (λ x. x < 256) 248 b bytes) good steps more in
          let writes = all.writes in
          record { writes = omega (arith, first, later, writes); none = all.none }
        where
          some_taken : length (take 248 b) ≡ 0 → ⊥
          some_taken none =
              let first = length-take 248 b in
              elim (eqb_tells (length b) 0) [ inl own ↦ absurd (cc (sym own.0 ∙ e)) | inr other ↦ other.1 (omega (arith, first, none)) ]

  section_adds : (fixed budget : ℕ) (b : List ℕ) → AreBytes b → Adds fixed budget (up (length b) 8) (section_commands ins b)
  section_adds fixed budget b bytes = pieces_add fixed budget (length b) 0 b bytes refl

-- ---- CREATE

abbrev create_bytes : List ℕ
create_bytes = 0xBE ∷ 0x16 ∷ 0x00 ∷ 0x00 ∷ []

abbrev create_apdu : ApduParts
create_apdu = record { cla = 0xBE; ins = 0x16; p1 = 0; p2 = 0; p3 = 0; body = []; le = None }

create_route : route create_bytes ≡ ToManager create_apdu
unfolding apdu_read
create_route = refl

create_alone : (fixed budget : ℕ) → SendsWithin fixed budget (most_of_creation fixed) (create_bytes ∷ [])
unfolding send
create_alone fixed budget c session_state good size =
    let r = command c session_state create_bytes budget in
    let same : r ≡ manager_command c session_state (create c.apps session_state create_apdu) = routed c session_state budget create_bytes create_apdu Creates create_route refl in
    let made = managed_sends c session_state create_apdu Creates good in
    let few : moves (manager_command c session_state (create c.apps session_state create_apdu)).items ≤ most_of_creation (fixed_in session_state.load) = made.writes in
    let sends : Sends (most_of_creation fixed) r = subst (λ (x : Command). Sends (most_of_creation fixed) x) (sym same) (record { writes = omega (arith, few, size); none = made.none }) in
    let all = sends_after (is_done r.outcome) r (send (card_done c r.items) r.session_state budget []) (most_of_creation fixed) 0 sends (λ done. record { writes = omega arith; none = refl }) in
    let writes = all.writes in
    record { writes = omega (arith, writes); none = all.none }

-- ---- OPEN

abbrev open_body : UnitParts → ℕ → ℕ → List ℕ
open_body u fixed session = bytes2 (length u.code) ++ bytes2 fixed ++ bytes2 (length u.init) ++ bytes2 session ++ bytes2 (length u.dir) ++ bytes2 (length u.fci)

abbrev open_bytes : UnitParts → ℕ → ℕ → List ℕ
open_bytes u fixed session = 0xBE ∷ 0x12 ∷ 0x00 ∷ 0x00 ∷ 12 ∷ open_body u fixed session

abbrev open_apdu : UnitParts → ℕ → ℕ → ApduParts
open_apdu u fixed session = record { cla = 0xBE; ins = 0x12; p1 = 0; p2 = 0; p3 = 12; body = open_body u fixed session; le = None }

open_route : (u : UnitParts) (fixed session : ℕ) → route (open_bytes u fixed session) ≡ ToManager (open_apdu u fixed session)
unfolding apdu_read
open_route u fixed session = refl

opened_size : (c : Card) (session_state : SessionState) (u : UnitParts) (fixed session : ℕ) (r : Command) → IsCommand c session_state (open_apdu u fixed session) Opens r → is_done r.outcome ≡ true → fixed_in r.session_state.load ≤ fixed
opened_size c session_state u fixed session r h done = grind arith

open_steps : (budget : ℕ) (u : UnitParts) (fixed session : ℕ) (c : Card) (session_state : SessionState) → Good c session_state → Steps fixed budget 0 (open_bytes u fixed session) c session_state
open_steps budget u fixed session c session_state good =
    let a = open_apdu u fixed session in
    steps_managed fixed budget 0 (open_bytes u fixed session) c session_state a Opens (open_route u fixed session) refl good (omega arith)
    (opened_size c session_state u fixed session (manager_command c session_state (open_load (room_on c) c.apps session_state a)) (commands_law Opens c session_state a))

-- ---- a load

sizes_sent : (u : UnitParts) (fixed session : ℕ) → AreBytes (open_body u fixed session)
sizes_sent u fixed session = grind (arith, all_append, pair_bytes)

-- the commands of a load make at most the device writes of the load, and run nothing
pub load_sends : (budget : ℕ) (u : UnitParts) (fixed session : ℕ) (c : Card) (session_state : SessionState) → AreBytes u.code → AreBytes u.init → AreBytes u.dir → AreBytes u.fci → Good c session_state
    → Sends (most_of_load u fixed) (send c session_state budget (load_commands u fixed session))
load_sends budget u fixed session c session_state code init dir fci good =
    let k1 : ℕ = up (length u.code) 8 in
    let k2 : ℕ = up (length u.init) 8 in
    let k3 : ℕ = up (length u.dir) 8 in
    let k4 : ℕ = up (length u.fci) 8 in
    let b1 = section_commands 0x24 u.code in
    let b2 = section_commands 0x26 u.init in
    let b3 = section_commands 0x20 u.dir in
    let b4 = section_commands 0x22 u.fci in
    let two : Adds fixed budget (k1 + k2) (b1 ++ b2) = adds_append fixed budget k1 k2 b1 b2 (section_adds part.Code fixed budget u.code code) (section_adds part.Data fixed budget u.init init) in
    let three : Adds fixed budget (k1 + k2 + k3) (b1 ++ b2 ++ b3) = adds_append fixed budget (k1 + k2) k3 (b1 ++ b2) b3 two (section_adds part.Dir fixed budget u.dir dir) in
    let four : Adds fixed budget (k1 + k2 + k3 + k4) (b1 ++ b2 ++ b3 ++ b4) = adds_append fixed budget (k1 + k2 + k3) k4 (b1 ++ b2 ++ b3) b4 three (section_adds part.Fci fixed budget u.fci fci) in
    let rest : SendsWithin fixed budget (k1 + k2 + k3 + k4 + most_of_creation fixed) ((b1 ++ b2 ++ b3 ++ b4) ++ create_bytes ∷ []) = four (most_of_creation fixed) (create_bytes ∷ []) (create_alone fixed budget) in
    let all = send_steps fixed budget 0 (k1 + k2 + k3 + k4 + most_of_creation fixed) (open_bytes u fixed session) ((b1 ++ b2 ++ b3 ++ b4) ++ create_bytes ∷ []) c session_state (sizes_sent u fixed session) good (open_steps budget u fixed session c session_state good) rest in
    let writes = all.writes in
    record { writes = omega (arith, writes); none = all.none }
