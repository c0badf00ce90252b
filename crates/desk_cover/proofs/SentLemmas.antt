-- The full turns of a line are those of the command that its player sends.
use Rattle.std.proofs.Common.{◌≡◌, ◌⊎◌, inl, inr, ℕ, zero, suc, Bool, true, false, List, [], ◌∷◌, ◌++◌, length, take, Option, Some, None, refl, sym, ap, subst, ◌∙◌}
use Rattle.std.specs.List.{AllByRecursion}
use Rattle.mc_words.specs.model_device.specs.Card as model
use Rattle.mc_words.specs.model_device.specs.Device.{DeviceState, BenchState}
use Rattle.mc_words.specs.model_device.specs.PowerUp.{Base, OnCard}
use Rattle.mc_arith.specs.model_machine.specs.Apdu.{ApduParts}
use Rattle.mc_arith.specs.model_machine.specs.Chain.{Chain, Follows, Continues, Ends, Turn, start, turn_of_chain}
use Rattle.mc_bank.specs.model_card.specs.Commands.{command}
use Rattle.mc_bank.specs.model_card.specs.Items.{StopAt, card_done}
use Rattle.mc_bank.specs.model_card.specs.Manager.{Selected, SessionState, Route, WrongLength, WrongClass, ToSelect, ToManager, ToApplication, route}
use Rattle.mc_deck.specs.model_play.specs.DeckGrammar.{DeckLine}
use Rattle.mc_deck.specs.model_play.specs.DeckGrammar as line
use Rattle.mc_deck.specs.model_play.specs.Play.{FailedWrite, Live, Running, State, BeforePower, AfterPower, delete_bytes, is_done, load_commands, select_bytes, step}
use Rattle.mc_deck.specs.model_play.specs.TraceText.{before_stop, shown_turns}
use Rattle.mc_deck.specs.model_play.proofs.PlayLemmas.{step_is}
use Rattle.desk_draft.specs.FullTurns.{FullTurn, full_turn, turns_of_application, turns_of_command, turns_of_commands, turns_of_line_in, turns_of_live, turns_of_route, turns_of_run, turns_of_sent, turns_of_step, turns_on}
use Rattle.desk_draft.proofs.TurnLemmas.{step_turns, turns_of}
use Rattle.mc_card.specs.Ends.{is_passed}
use Rattle.mc_card.specs.Parts.{card_in, session_state_in}
use Rattle.mc_script.specs.Classes.{IsManaged}
use Rattle.mc_script.specs.declared.player.Player.{Player}
use Rattle.mc_script.specs.declared.player.Power.{Power}
use Rattle.mc_script.specs.declared.player.Power.TheVariants as power
use Rattle.mc_script.specs.Players.{IsPlayerAt, LiveIs}
use Rattle.mc_script.specs.Runs.{SentCommand, line_bytes, sent_by}
use Rattle.mc_script.specs.Watching.{seen_of, seen_of_application, seen_of_route, seen_of_run, seen_on}
use Rattle.mc_script.proofs.SendLemmas.{load_managed, not_passed}
use Rattle.desk_cover.specs.Watching.{full_turn_of}

-- ---- what a watcher sees of a command

full_on : (t : FullTurn) (f : Follows) (n : ℕ) → ((c : Chain) → seen_of_run full_turn_of n c ≡ turns_of_run n c) → seen_on full_turn_of t f (λ c. seen_of_run full_turn_of n c) ≡ turns_on t f (λ c. turns_of_run n c)
full_on t (Ends o) n h = refl
full_on t (Continues ch) n h = ap (λ (ts : List FullTurn). t ∷ ts) (h ch)

full_run : (n : ℕ) (ch : Chain) → seen_of_run full_turn_of n ch ≡ turns_of_run n ch
unfolding seen_of_run turns_of_run
full_run zero ch = refl
full_run (suc n) ch = full_on (full_turn ch (turn_of_chain ch).turn) (turn_of_chain ch).follows n (λ c. full_run n c)

full_application : (c : model.Card) (s : Option Selected) (a : ApduParts) (budget : ℕ) → seen_of_application full_turn_of c s a budget ≡ turns_of_application c s a budget
full_application c None a budget = refl
full_application c (Some s) a budget = full_run budget (start c.apps s.name s.session a)

full_route : (c : model.Card) (session_state : SessionState) (budget : ℕ) (r : Route) → seen_of_route full_turn_of c session_state budget r ≡ turns_of_route c session_state budget r
full_route c session_state budget WrongLength = refl
full_route c session_state budget WrongClass = refl
full_route c session_state budget (ToSelect a) = refl
full_route c session_state budget (ToManager a) = refl
full_route c session_state budget (ToApplication a) = full_application c session_state.selected a budget

-- the full turns of a command that is sent to a card
abbrev sent_turns : SentCommand → List FullTurn
sent_turns s = turns_of_command s.card s.session_state s.bytes s.budget

-- ---- commands that run no application

route_none : (c : model.Card) (session_state : SessionState) (budget : ℕ) (r : Route) → is_passed r session_state.selected ≡ false → turns_of_route c session_state budget r ≡ []
route_none c session_state budget WrongLength e = refl
route_none c session_state budget WrongClass e = refl
route_none c session_state budget (ToSelect a) e = refl
route_none c session_state budget (ToManager a) e = refl
route_none c session_state budget (ToApplication a) e = by_selected session_state.selected e
  where
    by_selected : (s : Option Selected) → is_passed (ToApplication a) s ≡ false → turns_of_route c (record session_state { selected = s }) budget (ToApplication a) ≡ []
    by_selected None e = refl
    by_selected (Some s) e = absurd (cc e)

sent_none : (b : Bool) (first rest : List FullTurn) → first ≡ [] → rest ≡ [] → turns_of_sent b first rest ≡ []
sent_none true first rest e f = ap (λ ts. ts ++ rest) e ∙ f
sent_none false first rest e f = e

-- the commands of a load have no turns
commands_none : (c : model.Card) (session_state : SessionState) (budget : ℕ) (bs : List (List ℕ)) → AllByRecursion IsManaged bs → turns_of_commands c session_state budget bs ≡ []
unfolding turns_of_commands
commands_none c session_state budget [] all = refl
commands_none c session_state budget (b ∷ bs) all =
    let r = command c session_state b budget in
    sent_none (is_done r.outcome) (turns_of_command c session_state b budget) (turns_of_commands (card_done c r.items) r.session_state budget bs)
    (route_none c session_state budget (route b) (not_passed b session_state all.0)) (commands_none (card_done c r.items) r.session_state budget bs all.1)

-- ---- a line of a player

module _ {N : Type 0} (state : N → DeviceState) (bench : N → BenchState) where
  -- the turns of a line are those of its command, or there are none
  abbrev AreSent : Player N → State → DeckLine → Type 0
  AreSent p s l = (turns_of_line_in s l ≡ sent_turns (sent_by state p l)) ⊎ (turns_of_line_in s l ≡ [])

  on_card : (p : Player N) (budget : ℕ) (l : DeckLine) → p.budget ≡ budget → let all = turns_of_live (Running (session_state_in state p.card)) (OnCard (card_in state p.card)) budget l in (all ≡ sent_turns (sent_by state p l)) ⊎ (all ≡ [])
  on_card p budget (line.Sent (line.Select n)) e = inl (ap (λ (k : ℕ). turns_of_command (card_in state p.card) (session_state_in state p.card) (select_bytes n) k) (sym e))
  on_card p budget (line.Sent (line.Delete n)) e = inl (ap (λ (k : ℕ). turns_of_command (card_in state p.card) (session_state_in state p.card) (delete_bytes n) k) (sym e))
  on_card p budget (line.Sent (line.Apdu b)) e = inl (ap (λ (k : ℕ). turns_of_command (card_in state p.card) (session_state_in state p.card) b k) (sym e))
  on_card p budget (line.Sent (line.Load u fixed session)) e = inr (commands_none (card_in state p.card) (session_state_in state p.card) budget (load_commands u fixed session) (load_managed u fixed session))
  on_card p budget _ e = inr refl

  by_live : (p : Player N) (budget : ℕ) (l : DeckLine) (x : Power) (base : Base) (live : Live) → LiveIs state x p.card base live → p.budget ≡ budget → (turns_of_live live base budget l ≡ sent_turns (sent_by state p l)) ⊎ (turns_of_live live base budget l ≡ [])
  by_live p budget l power.BeforePower base live h e = absurd h
  by_live p budget l power.Off base live h e = inr (ap (λ (v : Live). turns_of_live v base budget l) h)
  by_live p budget l power.Mute base live h e = inr (ap (λ (v : Live). turns_of_live v base budget l) h)
  by_live p budget l power.On base live h e =
      let f : Base → Live → Type 0 = λ b v. (turns_of_live v b budget l ≡ sent_turns (sent_by state p l)) ⊎ (turns_of_live v b budget l ≡ []) in
      subst (λ (b : Base). f b live) (sym h.base) (subst (λ (v : Live). f (OnCard (card_in state p.card)) v) (sym h.live) (on_card p budget l e))

  are_sent : (p : Player N) (s : State) (l : DeckLine) → IsPlayerAt state bench p s → AreSent p s l
  unfolding turns_of_line_in
  are_sent p (BeforePower m b a) l at = inr refl
  are_sent p (AfterPower w) l at = by_live p w.budget l p.power w.base w.live at.stands.0 at.budget

  shown_none : (o : Option StopAt) (ts : List Turn) → ts ≡ [] → shown_turns ts o ≡ []
  shown_none None ts e = e
  shown_none (Some t) ts e = ap (λ (us : List Turn). before_stop us t.at) e

  command_shown : (p : Player N) (s : State) (l : ℕ × DeckLine) (w : Option FailedWrite) → IsPlayerAt state bench p s → (let t = step s l w in take (length (shown_turns t.turns t.stop)) (sent_turns (sent_by state p l.1)) ≡ turns_of_step t)
  unfolding turns_of_step
  command_shown p s l w at =
      let t = step s l w in
      let k = length (shown_turns t.turns t.stop) in
      let is = step_is s l w in
      let all : turns_of_line_in t.before t.line ≡ turns_of_line_in s l.1 = ap (λ (u : State). turns_of_line_in u t.line) is.before ∙ ap (λ (m : DeckLine). turns_of_line_in s m) is.line in
      elim (are_sent p s l.1 at) [
        | inl same ↦ ap (take k) (sym same ∙ sym all)
        | inr none ↦
            let no_turns : t.turns ≡ [] = sym (step_turns s l w) ∙ ap turns_of none in
            let no_shown : k ≡ 0 = ap length (shown_none t.stop t.turns no_turns) in
            ap (λ (i : ℕ). take i (sent_turns (sent_by state p l.1))) no_shown ∙ sym (ap (λ (i : ℕ). take i (turns_of_line_in t.before t.line)) no_shown)
      ]

  -- what is seen of a step is what is seen first of its line's command
  pub sent_shown : (p : Player N) (s : State) (l : ℕ × DeckLine) (w : Option FailedWrite) → IsPlayerAt state bench p s → (let t = step s l w in take (length (shown_turns t.turns t.stop)) (seen_of full_turn_of (sent_by state p l.1)) ≡ turns_of_step t)
  sent_shown p s l w at =
      let t = step s l w in
      let full = full_route (card_in state p.card) (session_state_in state p.card) p.budget (route (line_bytes l.1)) in
      ap (λ (ts : List FullTurn). take (length (shown_turns t.turns t.stop)) ts) full ∙ command_shown p s l w at
