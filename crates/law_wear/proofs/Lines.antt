-- The device writes of a line on a running card at the most, and what it leaves of the card.
use Rattle.std.proofs.Common.{◌≡◌, ℕ, ◌≤◌, List, ◌∷◌, length, Option, Some, None, refl, ap, arith}
use Rattle.std.specs.Prelude.{option_map}
use Rattle.law_family.specs.model_machine.specs.Apdu.{Rest, rest_read, apdu_read}
use Rattle.law_family.specs.model_machine.specs.Chain.{Turn}
use Rattle.law_family.specs.model_device.specs.Card.{Card}
use Rattle.law_family.specs.model_card.specs.Manager.{SessionState, Route, route_of_parts, route}
use Rattle.law_family.specs.model_card.specs.Commands.{command}
use Rattle.law_family.specs.model_play.specs.DeckGrammar.{DeckLine}
use Rattle.law_family.specs.model_play.specs.DeckGrammar as line
use Rattle.law_family.specs.model_play.specs.Play.{select_bytes, delete_bytes, line_command}
use Rattle.law_family.specs.model_play.specs.ReadyAgain.{IsLine}
use Rattle.law_wear.specs.Most.{most_atomic, most_atomic_of_route, most_of_deletion, most_of_route, most_writes}
use Rattle.law_wear.specs.Laws.{atomic_writes, instructions}
use Rattle.law_wear.proofs.Commands.{CommandWears, command_atoms, command_wears}
use Rattle.law_wear.proofs.Atoms.{load_atoms}
use Rattle.law_wear.proofs.Loads.{Good, load_sends}

-- ---- the most of a line

select_by : (k p2 : ℕ) (o : Option Rest) → most_of_route k (route_of_parts (option_map (λ (r : Rest). record { cla = 0; ins = 0xA4; p1 = 4; p2 = p2; p3 = r.p3; body = r.body; le = r.le }) o)) ≡ 0
select_by k p2 None = refl
select_by k p2 (Some r) = refl

select_none : (k : ℕ) (n : List ℕ) → most_of_route k (route (select_bytes n)) ≡ 0
unfolding apdu_read
select_none k n = select_by k 0x0C (rest_read (length n ∷ n))

delete_by : (k : ℕ) (o : Option Rest) → most_of_route k (route_of_parts (option_map (λ (r : Rest). record { cla = 0xBE; ins = 0x18; p1 = 0; p2 = 0; p3 = r.p3; body = r.body; le = r.le }) o)) ≤ most_of_deletion
delete_by k None = omega arith
delete_by k (Some r) = omega arith

delete_most : (k : ℕ) (n : List ℕ) → most_of_route k (route (delete_bytes n)) ≤ most_of_deletion
unfolding apdu_read
delete_most k n = delete_by k (rest_read (length n ∷ n))

-- a line makes at most the device writes of its row of the table
pub line_wears : (c : Card) (session_state : SessionState) (budget : ℕ) (l : DeckLine) → IsLine l → Good c session_state → CommandWears (λ k. most_writes k l) budget (line_command c session_state budget l)
line_wears c session_state budget (line.Sent (line.Select n)) is h =
    let r = command c session_state (select_bytes n) budget in
    let w = command_wears c session_state (select_bytes n) budget h.fits h.limited h.on h.stands in
    let writes = w.writes in
    record { writes = omega (arith, writes, select_none (instructions r.turns) n); count = w.count }
line_wears c session_state budget (line.Sent (line.Delete n)) is h =
    let r = command c session_state (delete_bytes n) budget in
    let w = command_wears c session_state (delete_bytes n) budget h.fits h.limited h.on h.stands in
    let writes = w.writes in
    record { writes = omega (arith, writes, delete_most (instructions r.turns) n); count = w.count }
line_wears c session_state budget (line.Sent (line.Apdu b)) is h = command_wears c session_state b budget h.fits h.limited h.on h.stands
line_wears c session_state budget (line.Sent (line.Load u fixed session)) is h =
    grind (arith, load_sends budget u fixed session c session_state is.0 is.1 is.2 is.3 h, ap (λ (ts : List Turn). instructions ts) (load_sends budget u fixed session c session_state is.0 is.1 is.2 is.3 h).none)
line_wears c session_state budget _ is h = record { writes = omega arith; count = omega arith }

-- ---- its atomic writes

select_atomic_by : (k p2 : ℕ) (o : Option Rest) → most_atomic_of_route k (route_of_parts (option_map (λ (r : Rest). record { cla = 0; ins = 0xA4; p1 = 4; p2 = p2; p3 = r.p3; body = r.body; le = r.le }) o)) ≡ 0
select_atomic_by k p2 None = refl
select_atomic_by k p2 (Some r) = refl

select_atomic : (k : ℕ) (n : List ℕ) → most_atomic_of_route k (route (select_bytes n)) ≡ 0
unfolding apdu_read
select_atomic k n = select_atomic_by k 0x0C (rest_read (length n ∷ n))

delete_atomic_by : (k : ℕ) (o : Option Rest) → most_atomic_of_route k (route_of_parts (option_map (λ (r : Rest). record { cla = 0xBE; ins = 0x18; p1 = 0; p2 = 0; p3 = r.p3; body = r.body; le = r.le }) o)) ≤ 1
delete_atomic_by k None = omega arith
delete_atomic_by k (Some r) = omega arith

delete_atomic : (k : ℕ) (n : List ℕ) → most_atomic_of_route k (route (delete_bytes n)) ≤ 1
unfolding apdu_read
delete_atomic k n = delete_atomic_by k (rest_read (length n ∷ n))

-- a line makes at most the atomic writes of its row of the table
pub line_atomic : (c : Card) (session_state : SessionState) (budget : ℕ) (l : DeckLine) → Good c session_state → let r = line_command c session_state budget l in atomic_writes r.items ≤ most_atomic (instructions r.turns) l
line_atomic c session_state budget (line.Sent (line.Select n)) h = grind (arith, command_atoms, select_atomic)
line_atomic c session_state budget (line.Sent (line.Delete n)) h = grind (arith, command_atoms, delete_atomic)
line_atomic c session_state budget (line.Sent (line.Apdu b)) h = command_atoms c session_state b budget h.limited h.on h.stands
line_atomic c session_state budget (line.Sent (line.Load u fixed session)) h = load_atoms c session_state budget u fixed session
line_atomic c session_state budget _ h = omega arith

-- ---- more instructions

route_more : (k n : ℕ) (r : Route) → k ≤ n → most_of_route k r ≤ most_of_route n r
route_more k n r h = grind arith

-- more instructions have no fewer device writes at the most
pub most_more : (k n : ℕ) (l : DeckLine) → k ≤ n → most_writes k l ≤ most_writes n l
most_more k n (line.Sent (line.Apdu b)) h = route_more k n (route b) h
most_more k n _ h = omega arith
