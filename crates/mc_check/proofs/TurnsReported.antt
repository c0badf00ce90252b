-- The turns of a line are those of its runs.
use Rattle.std.proofs.Common.{arith, ◌≡◌, ℕ, zero, suc, Bool, true, false, List, [], ◌∷◌, ◌++◌, Option, Some, None, refl, ap, ◌∙◌}
use Rattle.std.proofs.lemmas.List.{map-append, append-nil}
use Rattle.law_family.specs.model_machine.specs.Apdu.{ApduParts}
use Rattle.law_family.specs.model_device.specs.Card.{Card}
use Rattle.law_family.specs.model_machine.specs.Chain.{Chain, Turn, Acted, Ran, Follows, Continues, Ends, turn_of_chain, chain_session, run_of_chain, run_after_turn, start as begun}
use Rattle.law_family.specs.model_card.specs.Items.{card_done}
use Rattle.law_family.specs.model_card.specs.Manager.{Selected, SessionState, Route, Managed, Declines, Accepts, route}
use Rattle.law_family.specs.model_play.specs.DeckGrammar.{DeckLine}
use Rattle.law_family.specs.model_play.specs.Laws.{bytes_of}
use Rattle.law_family.specs.model_play.specs.Play.{FailedWrite, Live, State, is_done, send, command_with_rest, line_command, step, Step}
use Rattle.law_family.specs.model_device.specs.PowerUp.{Base}
use Rattle.law_family.specs.model_card.specs.Commands.{Command, command, manager_command, application_command, by_route}
use Rattle.law_family.specs.model_play.proofs.PlayLemmas.{step_is}
use Rattle.mc_check.specs.Turns.{turns_on, turns_from, turns_passed, turns_routed, turns_behind, turns_sent, turns_taken, turns_in, turns_with, bare}
use Rattle.law_family.specs.model_play.proofs.LineKinds.{IsUnheard, StepKind, by_kind, unheard_bytes}

-- ---- runs

bare_append : (xs ys : List (Chain × Turn)) → bare (xs ++ ys) ≡ bare xs ++ bare ys
bare_append xs ys = map-append (λ (t : Chain × Turn). t.1) xs ys

on_reported : (ch : Chain) (t : Acted) (session : List ℕ) (f : Follows) (rest : Chain → List (Chain × Turn)) (run : Chain → Ran) → ((c : Chain) → bare (rest c) ≡ (run c).turns) → bare ((ch, t.turn) ∷ turns_on f rest) ≡ (run_after_turn t session f run).turns
on_reported ch t session (Ends o) rest run h = refl
on_reported ch t session (Continues c) rest run h = ap (λ (ts : List Turn). t.turn ∷ ts) (h c)

run_reported : (n : ℕ) (ch : Chain) → bare (turns_from n ch) ≡ (run_of_chain n ch).turns
unfolding turns_from run_of_chain
run_reported zero ch = refl
run_reported (suc n) ch = on_reported ch (turn_of_chain ch) (chain_session ch) (turn_of_chain ch).follows (λ c. turns_from n c) (λ c. run_of_chain n c) (λ c. run_reported n c)

-- ---- commands

passed_reported : (c : Card) (session_state : SessionState) (budget : ℕ) (o : Option Selected) (a : ApduParts) → bare (turns_passed c.apps budget o a) ≡ (application_command c session_state o a budget).turns
passed_reported c session_state budget None a = refl
passed_reported c session_state budget (Some s) a = run_reported budget (begun c.apps s.name s.session a)

managed_reported : (c : Card) (session_state : SessionState) (m : Managed) → [] ≡ (manager_command c session_state m).turns
managed_reported c session_state (Declines sw) = refl
managed_reported c session_state (Accepts a) = refl

routed_reported : (c : Card) (session_state : SessionState) (budget : ℕ) (r : Route) → bare (turns_routed c.apps session_state budget r) ≡ (by_route c session_state budget r).turns
routed_reported c session_state budget r = grind (arith, managed_reported, passed_reported)

command_reported : (c : Card) (session_state : SessionState) (budget : ℕ) (b : List ℕ) → bare (turns_routed c.apps session_state budget (route b)) ≡ (command c session_state b budget).turns
unfolding command
command_reported c session_state budget b = routed_reported c session_state budget (route b)

-- a command, and those after it
both_reported : (d : Bool) (r rest : Command) (xs ys : List (Chain × Turn)) → bare xs ≡ r.turns → bare ys ≡ rest.turns → bare (xs ++ turns_behind d ys) ≡ (command_with_rest d r rest).turns
both_reported true r rest xs ys h k = bare_append xs ys ∙ ap (λ (ts : List Turn). ts ++ bare ys) h ∙ ap (λ (ts : List Turn). r.turns ++ ts) k
both_reported false r rest xs ys h k = ap bare (append-nil xs) ∙ h

sent_reported : (c : Card) (session_state : SessionState) (budget : ℕ) (bs : List (List ℕ)) → bare (turns_sent c session_state budget bs) ≡ (send c session_state budget bs).turns
unfolding send
sent_reported c session_state budget [] = refl
sent_reported c session_state budget (b ∷ bs) =
    let r = command c session_state b budget in
    let d = card_done c r.items in
    both_reported (is_done r.outcome) r (send d r.session_state budget bs) (turns_routed c.apps session_state budget (route b)) (turns_sent d r.session_state budget bs) (command_reported c session_state budget b) (sent_reported d r.session_state budget bs)

-- a command with nothing after it
last_reported : (d : Bool) (xs : List (Chain × Turn)) → bare (xs ++ turns_behind d []) ≡ bare xs
last_reported true xs = ap bare (append-nil xs)
last_reported false xs = ap bare (append-nil xs)

one_reported : (c : Card) (session_state : SessionState) (budget : ℕ) (b : List ℕ) → bare (turns_sent c session_state budget (b ∷ [])) ≡ (command c session_state b budget).turns
one_reported c session_state budget b = last_reported (is_done (command c session_state b budget).outcome) (turns_routed c.apps session_state budget (route b)) ∙ command_reported c session_state budget b

-- ---- lines

line_reported : (c : Card) (session_state : SessionState) (budget : ℕ) (l : DeckLine) → bare (turns_sent c session_state budget (bytes_of l)) ≡ (line_command c session_state budget l).turns
line_reported c session_state budget l = grind (arith, one_reported, sent_reported)

none_taken : (v : Live) (b : Base) (budget : ℕ) (l : DeckLine) → IsUnheard l v b → bare (turns_taken v b budget (bytes_of l)) ≡ []
none_taken v b budget l h = grind (arith, unheard_bytes)

kind_reported : {w : Option FailedWrite} {z : State} {n : ℕ} {l : DeckLine} {u : Step} → StepKind w z n l u → bare (turns_in z (bytes_of l)) ≡ u.turns
kind_reported h = grind (arith, none_taken, line_reported)

step_reported : (s : State) (l : ℕ × DeckLine) (w : Option FailedWrite) → bare (turns_in s (bytes_of l.1)) ≡ (step s l w).turns
step_reported s l w = kind_reported (by_kind s l w)

-- the turns of a line are those of the runs that begin in the state before it
pub line_reports : (s : State) (l : ℕ × DeckLine) (w : Option FailedWrite) → bare (turns_with (step s l w)) ≡ (step s l w).turns
line_reports s l w = grind (arith, step_is, step_reported)
