-- What is seen of the instructions of a step is what is seen first of the command that its player sends.
use Rattle.std.proofs.Common.{◌≡◌, ◌⊎◌, inl, inr, ℕ, false, List, [], length, take, Option, Some, None, refl, sym, ap, subst, ◌∙◌}
use Rattle.mc_words.specs.model_device.specs.Device.{DeviceState, BenchState}
use Rattle.mc_words.specs.model_device.specs.PowerUp.{Base, OnCard}
use Rattle.mc_apdu.specs.model_machine.specs.Chain.{Turn}
use Rattle.mc_bank.specs.model_card.specs.Items.{StopAt}
use Rattle.law_events.specs.law_promise.specs.model_play.specs.DeckGrammar.{DeckLine}
use Rattle.law_events.specs.law_promise.specs.model_play.specs.DeckGrammar as line
use Rattle.law_events.specs.law_promise.specs.model_play.specs.Family.{is_running, live_in}
use Rattle.law_events.specs.law_promise.specs.model_play.specs.Play.{Armed, FailedWrite, Live, Running, Unpowered, Muted, State, BeforePower, AfterPower, Warm, after_power_step, before_power_step, card_line, step}
use Rattle.law_events.specs.law_promise.specs.model_play.specs.TraceText.{before_stop, shown_turns}
use Rattle.law_events.specs.law_promise.specs.model_play.proofs.PlayLemmas.{step_is}
use Rattle.mc_card.specs.Parts.{card_in, session_state_in}
use Rattle.mc_script.specs.declared.player.Player.{Player}
use Rattle.mc_script.specs.declared.player.Power.{Power}
use Rattle.mc_script.specs.declared.player.Power.TheVariants as power
use Rattle.mc_script.specs.Players.{IsPlayerAt, LiveIs}
use Rattle.mc_script.specs.Runs.{line_bytes, sent_by}
use Rattle.mc_script.specs.Watching.{seen_of}
use Rattle.lab_record.specs.Logs.{sight}
use Rattle.lab_record.specs.Playing.{sights_of_line, sights_of_live, sights_of_step}

-- ---- lines without a card

without_card : (n : ℕ) (l : DeckLine) (s : Warm) (live : Live) (base : Base) (w : Option FailedWrite) → is_running live ≡ false → (card_line n l s live base w).turns ≡ []
without_card n l s (Running x) base w h = absurd (cc h)
without_card n l s Unpowered base w h = refl
without_card n l s Muted base w h = refl

after_power : (n : ℕ) (l : DeckLine) (s : Warm) (w : Option FailedWrite) → is_running s.live ≡ false → (after_power_step n l s w).turns ≡ []
after_power n (line.Sent sent) s w h = without_card n (line.Sent sent) s s.live s.base w h
after_power n _ s w h = refl

before_power : (n : ℕ) (l : DeckLine) (m : List (List ℕ)) (b : ℕ) (a : Armed) (w : Option FailedWrite) → (before_power_step n l m b a w).turns ≡ []
before_power n line.Format m b a w = refl
before_power n _ m b a w = refl

-- where no card runs, a line has no turns
no_turns : (s : State) (l : ℕ × DeckLine) (w : Option FailedWrite) → is_running (live_in s) ≡ false → (step s l w).turns ≡ []
unfolding step
no_turns (BeforePower m b a) l w h = before_power l.0 l.1 m b a w
no_turns (AfterPower s) l w h = after_power l.0 l.1 s w h

shown_none : (o : Option StopAt) (ts : List Turn) → ts ≡ [] → shown_turns ts o ≡ []
shown_none None ts e = e
shown_none (Some t) ts e = ap (λ (us : List Turn). before_stop us t.at) e

-- ---- a line of a player

module _ {N : Type 0} (state : N → DeviceState) (bench : N → BenchState) where
  -- what is seen of a line is what is seen of its command, or no card runs
  abbrev AreSent : Player N → Base → Live → ℕ → DeckLine → Type 0
  AreSent p base live budget l = (sights_of_live live base budget l ≡ seen_of sight (sent_by state p l)) ⊎ ((is_running live ≡ false) × (sights_of_live live base budget l ≡ []))

  on_card : (p : Player N) (budget : ℕ) (l : DeckLine) → p.budget ≡ budget → AreSent p (OnCard (card_in state p.card)) (Running (session_state_in state p.card)) budget l
  on_card p budget l e = inl (ap (λ (k : ℕ). seen_of sight (record { card = card_in state p.card; session_state = session_state_in state p.card; bytes = line_bytes l; budget = k })) (sym e))

  by_live : (p : Player N) (budget : ℕ) (l : DeckLine) (x : Power) (base : Base) (live : Live) → LiveIs state x p.card base live → p.budget ≡ budget → AreSent p base live budget l
  by_live p budget l power.BeforePower base live h e = absurd h
  by_live p budget l power.Off base live h e = inr (ap is_running h, ap (λ (v : Live). sights_of_live v base budget l) h)
  by_live p budget l power.Mute base live h e = inr (ap is_running h, ap (λ (v : Live). sights_of_live v base budget l) h)
  by_live p budget l power.On base live h e =
      subst (λ (b : Base). AreSent p b live budget l) (sym h.base) (subst (λ (v : Live). AreSent p (OnCard (card_in state p.card)) v budget l) (sym h.live) (on_card p budget l e))

  are_sent : (p : Player N) (s : State) (l : DeckLine) → IsPlayerAt state bench p s → (sights_of_line s l ≡ seen_of sight (sent_by state p l)) ⊎ ((is_running (live_in s) ≡ false) × (sights_of_line s l ≡ []))
  unfolding sights_of_line
  are_sent p (BeforePower m b a) l at = inr (refl, refl)
  are_sent p (AfterPower w) l at = by_live p w.budget l p.power w.base w.live at.stands.0 at.budget

  -- what is seen of a step is what is seen first of its line's command
  pub sights_shown : (p : Player N) (s : State) (l : ℕ × DeckLine) (w : Option FailedWrite) → IsPlayerAt state bench p s → (let t = step s l w in take (length (shown_turns t.turns t.stop)) (seen_of sight (sent_by state p l.1)) ≡ sights_of_step t)
  unfolding sights_of_step
  sights_shown p s l w at =
      let t = step s l w in
      let k = length (shown_turns t.turns t.stop) in
      let is = step_is s l w in
      let all : sights_of_line t.before t.line ≡ sights_of_line s l.1 = ap (λ (u : State). sights_of_line u t.line) is.before ∙ ap (λ (m : DeckLine). sights_of_line s m) is.line in
      elim (are_sent p s l.1 at) [
        | inl same ↦ ap (take k) (sym same ∙ sym all)
        | inr none ↦
            let no_shown : k ≡ 0 = ap length (shown_none t.stop t.turns (no_turns s l w none.0)) in
            ap (λ (i : ℕ). take i (seen_of sight (sent_by state p l.1))) no_shown ∙ sym (ap (λ (i : ℕ). take i (sights_of_line t.before t.line)) no_shown)
      ]
