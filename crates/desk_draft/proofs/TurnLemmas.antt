-- The turns of a line with what surrounds them, and those of its step.
use Rattle.std.proofs.Common.{◌≡◌, ℕ, zero, suc, Bool, true, false, List, [], ◌∷◌, ◌++◌, Option, Some, None, refl, ap, ◌∙◌}
use Rattle.std.specs.Prelude.{map}
use Rattle.mc_text.specs.model_device.specs.Card.{Card}
use Rattle.mc_text.specs.model_device.specs.PowerUp.{Base, OnCard, AtFault}
use Rattle.mc_text.specs.model_machine.specs.Apdu.{ApduParts}
use Rattle.mc_text.specs.model_machine.specs.Chain.{Turn, Chain, Acted, Follows, Continues, Ends, turn_of_chain, run_of_chain, run_after_turn, chain_session, start}
use Rattle.mc_deck.specs.model_card.specs.Commands.{Command, manager_command, application_command, by_route, command}
use Rattle.mc_deck.specs.model_card.specs.Items.{card_done}
use Rattle.mc_deck.specs.model_card.specs.Manager.{Selected, SessionState, Route, WrongLength, WrongClass, ToSelect, ToManager, ToApplication, route, Managed, Declines, Accepts, select, manage, room_on}
use Rattle.mc_deck.specs.model_play.specs.DeckGrammar.{DeckLine}
use Rattle.mc_deck.specs.model_play.specs.DeckGrammar as line
use Rattle.mc_deck.specs.model_play.specs.Play.{State, BeforePower, AfterPower, Live, Running, Unpowered, Muted, Warm, FailedWrite, Armed, send, command_with_rest, line_command, select_bytes, delete_bytes, load_commands, is_done, card_line, after_power_step, before_power_step, step}
use Rattle.desk_draft.specs.FullTurns.{FullTurn, full_turn, turns_on, turns_of_run, turns_of_application, turns_of_route, turns_of_command, turns_of_sent, turns_of_commands, turns_of_line, turns_of_live, turns_of_line_in}

-- the turns alone
abbrev pub turns_of : List FullTurn → List Turn
turns_of ts = map (λ t. t.turn) ts

turns_append : (ts us : List FullTurn) → turns_of (ts ++ us) ≡ turns_of ts ++ turns_of us
turns_append [] us = refl
turns_append (t ∷ ts) us = ap (λ x. t.turn ∷ x) (turns_append ts us)

reported_turn : (ch : Chain) (t : Turn) → (full_turn ch t).turn ≡ t
unfolding full_turn
reported_turn ch t = refl

on_turns : (t : Acted) (u : FullTurn) (s : List ℕ) (f : Follows) (n : ℕ) → u.turn ≡ t.turn → ((c : Chain) → turns_of (turns_of_run n c) ≡ (run_of_chain n c).turns) → turns_of (turns_on u f (λ c. turns_of_run n c)) ≡ (run_after_turn t s f (λ c. run_of_chain n c)).turns
on_turns t u s (Ends o) n e h = ap (λ x. x ∷ []) e
on_turns t u s (Continues ch) n e h = ap (λ x. x ∷ turns_of (turns_of_run n ch)) e ∙ ap (λ x. t.turn ∷ x) (h ch)

run_turns : (n : ℕ) (ch : Chain) → turns_of (turns_of_run n ch) ≡ (run_of_chain n ch).turns
unfolding turns_of_run run_of_chain
run_turns zero ch = refl
run_turns (suc n) ch = on_turns (turn_of_chain ch) (full_turn ch (turn_of_chain ch).turn) (chain_session ch) (turn_of_chain ch).follows n (reported_turn ch (turn_of_chain ch).turn) (λ c. run_turns n c)

managed_turns : (c : Card) (session_state : SessionState) (m : Managed) → [] ≡ (manager_command c session_state m).turns
managed_turns c session_state (Declines sw) = refl
managed_turns c session_state (Accepts a) = refl

passed_turns : (c : Card) (session_state : SessionState) (s : Option Selected) (a : ApduParts) (budget : ℕ) → turns_of (turns_of_application c s a budget) ≡ (application_command c session_state s a budget).turns
passed_turns c session_state None a budget = refl
passed_turns c session_state (Some s) a budget = run_turns budget (start c.apps s.name s.session a)

route_turns : (c : Card) (session_state : SessionState) (budget : ℕ) (r : Route) → turns_of (turns_of_route c session_state budget r) ≡ (by_route c session_state budget r).turns
route_turns c session_state budget WrongLength = refl
route_turns c session_state budget WrongClass = refl
route_turns c session_state budget (ToSelect a) = managed_turns c session_state (select c.apps session_state a)
route_turns c session_state budget (ToManager a) = managed_turns c session_state (manage (room_on c) c.apps session_state a)
route_turns c session_state budget (ToApplication a) = passed_turns c session_state session_state.selected a budget

command_turns : (c : Card) (session_state : SessionState) (bytes : List ℕ) (budget : ℕ) → turns_of (turns_of_command c session_state bytes budget) ≡ (command c session_state bytes budget).turns
unfolding command
command_turns c session_state bytes budget = route_turns c session_state budget (route bytes)

sent_turns : (b : Bool) (first rest : List FullTurn) (r s : Command) → turns_of first ≡ r.turns → turns_of rest ≡ s.turns → turns_of (turns_of_sent b first rest) ≡ (command_with_rest b r s).turns
sent_turns true first rest r s e f = turns_append first rest ∙ ap (λ x. x ++ turns_of rest) e ∙ ap (λ x. r.turns ++ x) f
sent_turns false first rest r s e f = e

send_turns : (c : Card) (session_state : SessionState) (budget : ℕ) (bs : List (List ℕ)) → turns_of (turns_of_commands c session_state budget bs) ≡ (send c session_state budget bs).turns
unfolding turns_of_commands send
send_turns c session_state budget [] = refl
send_turns c session_state budget (b ∷ bs) =
    let r = command c session_state b budget in
    sent_turns (is_done r.outcome) (turns_of_command c session_state b budget) (turns_of_commands (card_done c r.items) r.session_state budget bs) r (send (card_done c r.items) r.session_state budget bs) (command_turns c session_state b budget)
    (send_turns (card_done c r.items) r.session_state budget bs)

-- a card line other than power, where a card runs or not
live_turns : (n : ℕ) (l : DeckLine) (s : Warm) (live : Live) (base : Base) (w : Option FailedWrite) → ((c : Card) (session_state : SessionState) → turns_of (turns_of_line c session_state s.budget l) ≡ (line_command c session_state s.budget l).turns) → turns_of (turns_of_live live base s.budget l) ≡ (card_line n l s live base w).turns
live_turns n l s (Running session_state) (OnCard c) w h = h c session_state
live_turns n l s (Running session_state) (AtFault cause p) w h = refl
live_turns n l s Unpowered base w h = refl
live_turns n l s Muted base w h = refl

-- a line that no application sees
quiet_turns : (live : Live) (base : Base) (budget : ℕ) (l : DeckLine) → ((c : Card) (session_state : SessionState) → turns_of_line c session_state budget l ≡ []) → turns_of (turns_of_live live base budget l) ≡ []
quiet_turns (Running session_state) (OnCard c) budget l h = ap turns_of (h c session_state)
quiet_turns (Running session_state) (AtFault cause p) budget l h = refl
quiet_turns Unpowered base budget l h = refl
quiet_turns Muted base budget l h = refl

after_power_turns : (n : ℕ) (l : DeckLine) (s : Warm) (w : Option FailedWrite) → turns_of (turns_of_live s.live s.base s.budget l) ≡ (after_power_step n l s w).turns
after_power_turns n (line.Sent (line.Load u fixed session)) s w = live_turns n (line.Sent (line.Load u fixed session)) s s.live s.base w (λ c session_state. send_turns c session_state s.budget (load_commands u fixed session))
after_power_turns n (line.Sent (line.Select a)) s w = live_turns n (line.Sent (line.Select a)) s s.live s.base w (λ c session_state. command_turns c session_state (select_bytes a) s.budget)
after_power_turns n (line.Sent (line.Delete a)) s w = live_turns n (line.Sent (line.Delete a)) s s.live s.base w (λ c session_state. command_turns c session_state (delete_bytes a) s.budget)
after_power_turns n (line.Sent (line.Apdu b)) s w = live_turns n (line.Sent (line.Apdu b)) s s.live s.base w (λ c session_state. command_turns c session_state b s.budget)
after_power_turns n l s w = quiet_turns s.live s.base s.budget l (λ c session_state. refl)

before_power_turns : (n : ℕ) (l : DeckLine) (m : List (List ℕ)) (b : ℕ) (a : Armed) (w : Option FailedWrite) → [] ≡ (before_power_step n l m b a w).turns
before_power_turns n line.Format m b a w = refl
before_power_turns n _ m b a w = refl

-- the turns of a line are those of its step
pub step_turns : (s : State) (l : ℕ × DeckLine) (w : Option FailedWrite) → turns_of (turns_of_line_in s l.1) ≡ (step s l w).turns
unfolding turns_of_line_in step
step_turns (BeforePower m b a) l w = before_power_turns l.0 l.1 m b a w
step_turns (AfterPower s) l w = after_power_turns l.0 l.1 s w
