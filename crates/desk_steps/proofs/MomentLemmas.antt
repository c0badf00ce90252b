-- The moments of a line are those of the command that its player sends, and their full turns are those of the line.
use Rattle.std.proofs.Common.{◌≡◌, ◌⊎◌, inl, inr, ℕ, zero, suc, List, [], ◌∷◌, length, take, Option, Some, None, refl, sym, ap, subst, ◌∙◌}
use Rattle.std.specs.Prelude.{map}
use Rattle.mc_words.specs.model_device.specs.Card as model
use Rattle.mc_words.specs.model_device.specs.Device.{DeviceState, BenchState}
use Rattle.mc_words.specs.model_device.specs.PowerUp.{Base, OnCard}
use Rattle.mc_text.specs.model_machine.specs.Apdu.{ApduParts}
use Rattle.mc_text.specs.model_machine.specs.Chain.{Chain, Follows, Continues, Ends, Turn, start, turn_of_chain}
use Rattle.mc_bank.specs.model_card.specs.Items.{StopAt}
use Rattle.mc_bank.specs.model_card.specs.Manager.{Selected, SessionState, Route, WrongLength, WrongClass, ToSelect, ToManager, ToApplication, route}
use Rattle.mc_deck.specs.model_play.specs.DeckGrammar.{DeckLine}
use Rattle.mc_deck.specs.model_play.specs.Play.{FailedWrite, Live, Running, State, BeforePower, AfterPower, step}
use Rattle.mc_deck.specs.model_play.specs.TraceText.{before_stop, shown_turns}
use Rattle.mc_deck.specs.model_play.proofs.PlayLemmas.{step_is}
use Rattle.desk_draft.specs.FullTurns.{FullTurn, turns_of_line_in, turns_of_live, turns_of_step}
use Rattle.desk_draft.proofs.TurnLemmas.{step_turns, turns_of}
use Rattle.mc_card.specs.Parts.{card_in, session_state_in}
use Rattle.mc_script.specs.declared.player.Player.{Player}
use Rattle.mc_script.specs.declared.player.Power.{Power}
use Rattle.mc_script.specs.declared.player.Power.TheVariants as power
use Rattle.mc_script.specs.Players.{IsPlayerAt, LiveIs}
use Rattle.mc_script.specs.Runs.{SentCommand, line_bytes, sent_by}
use Rattle.mc_script.specs.Watching.{seen_of, seen_of_application, seen_of_route, seen_of_run, seen_on}
use Rattle.desk_cover.specs.Watching.{full_turn_of}
use Rattle.desk_cover.proofs.SentLemmas.{sent_shown}
use Rattle.desk_steps.specs.Moments.{Moment, full_of, moment, moments_of_line, moments_of_live, moments_of_step}

-- ---- full turns of moments

map_on : (x : Moment) (f : Follows) (n : ℕ) → ((c : Chain) → map full_of (seen_of_run moment n c) ≡ seen_of_run full_turn_of n c) → map full_of (seen_on moment x f (λ c. seen_of_run moment n c)) ≡ seen_on full_turn_of (full_of x) f (λ c. seen_of_run full_turn_of n c)
map_on x (Ends o) n h = refl
map_on x (Continues ch) n h = ap (λ (ts : List FullTurn). full_of x ∷ ts) (h ch)

map_run : (n : ℕ) (ch : Chain) → map full_of (seen_of_run moment n ch) ≡ seen_of_run full_turn_of n ch
unfolding seen_of_run
map_run zero ch = refl
map_run (suc n) ch = map_on (moment (suc n) ch) (turn_of_chain ch).follows n (λ c. map_run n c)

map_application : (c : model.Card) (s : Option Selected) (a : ApduParts) (budget : ℕ) → map full_of (seen_of_application moment c s a budget) ≡ seen_of_application full_turn_of c s a budget
map_application c None a budget = refl
map_application c (Some s) a budget = map_run budget (start c.apps s.name s.session a)

map_route : (c : model.Card) (s : SessionState) (budget : ℕ) (r : Route) → map full_of (seen_of_route moment c s budget r) ≡ seen_of_route full_turn_of c s budget r
map_route c s budget WrongLength = refl
map_route c s budget WrongClass = refl
map_route c s budget (ToSelect a) = refl
map_route c s budget (ToManager a) = refl
map_route c s budget (ToApplication a) = map_application c s.selected a budget

map_front : (k : ℕ) (xs : List Moment) → map full_of (take k xs) ≡ take k (map full_of xs)
map_front zero xs = refl
map_front (suc k) [] = refl
map_front (suc k) (x ∷ xs) = ap (λ (ts : List FullTurn). full_of x ∷ ts) (map_front k xs)

map_sent : (k : ℕ) (s : SentCommand) → map full_of (take k (seen_of moment s)) ≡ take k (seen_of full_turn_of s)
map_sent k s = map_front k (seen_of moment s) ∙ ap (λ (ts : List FullTurn). take k ts) (map_route s.card s.session_state s.budget (route s.bytes))

-- ---- a line of a player

module _ {N : Type 0} (state : N → DeviceState) (bench : N → BenchState) where
  -- the moments of a line are those of its command, or it has no turns
  abbrev AreSent : Player N → Base → Live → ℕ → DeckLine → Type 0
  AreSent p base live budget l = (moments_of_live live base budget l ≡ seen_of moment (sent_by state p l)) ⊎ ((turns_of_live live base budget l ≡ []) × (moments_of_live live base budget l ≡ []))

  on_card : (p : Player N) (budget : ℕ) (l : DeckLine) → p.budget ≡ budget → AreSent p (OnCard (card_in state p.card)) (Running (session_state_in state p.card)) budget l
  on_card p budget l e = inl (ap (λ (k : ℕ). seen_of moment (record { card = card_in state p.card; session_state = session_state_in state p.card; bytes = line_bytes l; budget = k })) (sym e))

  by_live : (p : Player N) (budget : ℕ) (l : DeckLine) (x : Power) (base : Base) (live : Live) → LiveIs state x p.card base live → p.budget ≡ budget → AreSent p base live budget l
  by_live p budget l power.BeforePower base live h e = absurd h
  by_live p budget l power.Off base live h e = inr (ap (λ (v : Live). turns_of_live v base budget l) h, ap (λ (v : Live). moments_of_live v base budget l) h)
  by_live p budget l power.Mute base live h e = inr (ap (λ (v : Live). turns_of_live v base budget l) h, ap (λ (v : Live). moments_of_live v base budget l) h)
  by_live p budget l power.On base live h e =
      subst (λ (b : Base). AreSent p b live budget l) (sym h.base) (subst (λ (v : Live). AreSent p (OnCard (card_in state p.card)) v budget l) (sym h.live) (on_card p budget l e))

  are_sent : (p : Player N) (s : State) (l : DeckLine) → IsPlayerAt state bench p s → (moments_of_line s l ≡ seen_of moment (sent_by state p l)) ⊎ ((turns_of_line_in s l ≡ []) × (moments_of_line s l ≡ []))
  unfolding turns_of_line_in moments_of_line
  are_sent p (BeforePower m b a) l at = inr (refl, refl)
  are_sent p (AfterPower w) l at = by_live p w.budget l p.power w.base w.live at.stands.0 at.budget

  shown_none : (o : Option StopAt) (ts : List Turn) → ts ≡ [] → shown_turns ts o ≡ []
  shown_none None ts e = e
  shown_none (Some t) ts e = ap (λ (us : List Turn). before_stop us t.at) e

  -- the moments of a step are the first of those of its line's command
  pub moments_shown : (p : Player N) (s : State) (l : ℕ × DeckLine) (w : Option FailedWrite) → IsPlayerAt state bench p s → (let t = step s l w in take (length (shown_turns t.turns t.stop)) (seen_of moment (sent_by state p l.1)) ≡ moments_of_step t)
  unfolding moments_of_step
  moments_shown p s l w at =
      let t = step s l w in
      let k = length (shown_turns t.turns t.stop) in
      let is = step_is s l w in
      let all : moments_of_line t.before t.line ≡ moments_of_line s l.1 = ap (λ (u : State). moments_of_line u t.line) is.before ∙ ap (λ (m : DeckLine). moments_of_line s m) is.line in
      elim (are_sent p s l.1 at) [
        | inl same ↦ ap (take k) (sym same ∙ sym all)
        | inr none ↦
            let no_turns : t.turns ≡ [] = sym (step_turns s l w) ∙ ap turns_of none.0 in
            let no_shown : k ≡ 0 = ap length (shown_none t.stop t.turns no_turns) in
            ap (λ (i : ℕ). take i (seen_of moment (sent_by state p l.1))) no_shown ∙ sym (ap (λ (i : ℕ). take i (moments_of_line t.before t.line)) no_shown)
      ]

  -- their full turns are those of the step
  pub moments_full : (p : Player N) (s : State) (l : ℕ × DeckLine) (w : Option FailedWrite) → IsPlayerAt state bench p s → (let t = step s l w in map full_of (moments_of_step t) ≡ turns_of_step t)
  moments_full p s l w at =
      let t = step s l w in
      let k = length (shown_turns t.turns t.stop) in
      ap (λ (xs : List Moment). map full_of xs) (sym (moments_shown p s l w at)) ∙ map_sent k (sent_by state p l.1) ∙ sent_shown state bench p s l w at
