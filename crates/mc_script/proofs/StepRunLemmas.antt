-- The steps of a run turn by turn, of the commands of a load, and of a line on a card that runs.
use Rattle.std.proofs.Common.{◌≡◌, ◌⊎◌, ℕ, zero, suc, ◌+◌, ◌≤◌, Bool, true, false, cond, List, [], ◌∷◌, Option, Some, refl, arith, sym, ap, subst, ◌∙◌, inl, inr}
use Rattle.std.specs.Prelude.{option_map}
use Rattle.model_play.specs.model_device.specs.declared.device.Stop.{Stop}
use Rattle.model_play.specs.model_device.specs.declared.device.Stop.TheVariants.{Off, Worn}
use Rattle.model_play.specs.model_device.specs.Device.{DeviceState, BenchState}
use Rattle.model_play.specs.model_device.specs.Card as model
use Rattle.model_play.specs.model_device.specs.Card.{means}
use Rattle.model_play.specs.model_device.specs.PowerUp.{Base}
use Rattle.model_play.specs.model_machine.specs.Chain.{Chain, Turn, Acted, Ran, Follows, Continues, Ends, turn_of_chain, turn_of, end_of, chain_session, run_after_turn, run_of_chain}
use Rattle.model_play.specs.DeckGrammar.{DeckLine}
use Rattle.model_play.specs.DeckGrammar as line
use Rattle.model_play.specs.Play.{Live, Unpowered, Muted, State, BeforePower, AfterPower, line_command}
use Rattle.mc_machine.specs.declared.outcome.Outcome.{Outcome}
use Rattle.mc_machine.specs.declared.outcome.Turn.{Turn as CodeTurn}
use Rattle.mc_machine.specs.Turns.{outcome_value, turn_value}
use Rattle.mc_card.specs.declared.card.Card.{Card}
use Rattle.mc_card.specs.Parts.{device_in, card_in, session_state_in, with_device}
use Rattle.mc_script.specs.declared.answer.Answer.{Answer}
use Rattle.mc_script.specs.declared.answer.Answer.TheVariants as answer
use Rattle.mc_script.specs.declared.armed.Armed.{Armed}
use Rattle.mc_script.specs.declared.player.Power.{Power}
use Rattle.mc_script.specs.declared.player.Power.TheVariants as power
use Rattle.mc_script.specs.declared.player.Player.{Player}
use Rattle.mc_script.specs.Players.{LiveIs, IsPlayerAt}
use Rattle.mc_script.specs.Arming.{answer_after_stop}
use Rattle.mc_script.specs.StepCounts.{instructions, most_search, command_search, OnlyFirstOpens, first_search, StepsOf, line_search, search_on, search_in, instructions_on, instructions_in, is_stopped, LineSteps}
use Rattle.mc_script.proofs.RanLemmas.{end_ends}
use Rattle.mc_script.proofs.CardLemmas.{session_state_over}
use Rattle.mc_script.proofs.StepLemmas.{NoneOpens}

-- ---- the count of a run by its first turn

pub end_count : (n : ℕ) (ch : Chain) (o : _) → (turn_of n ch).follows ≡ Ends o → (run_of_chain n ch).count ≡ (turn_of n ch).count
unfolding run_of_chain
end_count zero ch o e = refl
end_count (suc n) ch o e = ap (λ (f : Follows). (run_after_turn (turn_of_chain ch) (chain_session ch) f (λ c. run_of_chain n c)).count) e

goes_count : (n : ℕ) (ch next : Chain) → (turn_of_chain ch).follows ≡ Continues next → (run_of_chain (suc n) ch).count ≡ (turn_of_chain ch).count + (run_of_chain n next).count
unfolding run_of_chain
goes_count n ch next e = ap (λ (f : Follows). (run_after_turn (turn_of_chain ch) (chain_session ch) f (λ c. run_of_chain n c)).count) e

pub goes_at : (n left : ℕ) (ch next : Chain) → n ≡ suc left → (turn_of_chain ch).follows ≡ Continues next → (run_of_chain n ch).count ≡ (turn_of n ch).count + (run_of_chain left next).count
goes_at n left ch next is e = subst (λ (k : ℕ). (run_of_chain k ch).count ≡ (turn_of k ch).count + (run_of_chain left next).count) (sym is) (goes_count left ch next e)

after_first : (t : Acted) (session : List ℕ) (f : Follows) (rest : Chain → Ran) → t.count ≤ (run_after_turn t session f rest).count
after_first t session (Ends o) rest = omega arith
after_first t session (Continues c) rest = omega arith

pub first_count : (n : ℕ) (ch : Chain) → (turn_of n ch).count ≤ (run_of_chain n ch).count
unfolding run_of_chain
first_count zero ch = omega arith
first_count (suc n) ch = after_first (turn_of_chain ch) (chain_session ch) (turn_of_chain ch).follows (λ c. run_of_chain n c)

-- a turn that ends its chain
pub ends_so : (t : Acted) (turn : CodeTurn) (o : Outcome) → t.turn ≡ turn_value turn t.turn.wrote → t.turn.end ≡ end_of t.follows → turn.end ≡ Some o → t.follows ≡ Ends (outcome_value o)
ends_so t turn o is end e = end_ends t.follows (outcome_value o) (sym end ∙ ap (λ (u : Turn). u.end) is ∙ ap (λ (x : Option Outcome). option_map outcome_value x) e)

-- ---- the commands of a load

closed_search : (c : model.Card) (bs : List (List ℕ)) → NoneOpens bs → first_search c bs ≡ 0
closed_search c [] h = refl
closed_search c (b ∷ bs) h = ap (λ (x : Bool). cond x (most_search c) 0) h.0

-- the commands that are left, after one that was done
pub record SearchesLeft (c : model.Card) (left : List (List ℕ)) (old now bound : ℕ) : Type 0 where
  pub opens : OnlyFirstOpens left
  pub least : old ≤ now
  pub most : now + first_search c left ≤ bound

pub left_on : (c d : model.Card) (b : List ℕ) (bs : List (List ℕ)) (n old now new bound : ℕ) → SearchesLeft c (b ∷ bs) old now bound → n ≡ 0 → StepsOf n (command_search c b) false now new → SearchesLeft d bs old new bound
left_on c d b bs n old now new bound h idle steps = grind (arith, steps.least refl, steps.most, closed_search d bs h.opens, h.least, h.most)

-- the steps of commands up to one that ended them, or that was stopped
pub left_end : (c : model.Card) (b : List ℕ) (bs : List (List ℕ)) (n m k old now new : ℕ) (stopped : Bool) → SearchesLeft c (b ∷ bs) old now (old + k) → n ≡ 0 → m ≡ 0 → StepsOf n (command_search c b) stopped now new → StepsOf m k stopped old new
left_end c b bs n m k old now new stopped h idle still steps = grind (arith, steps.most, h.least, h.most)

-- the steps of all commands
pub left_none : (c : model.Card) (m k old now : ℕ) (stopped : Bool) → SearchesLeft c [] old now (old + k) → m ≡ 0 → StepsOf m k stopped old now
left_none c m k old now stopped h still = grind (arith, h.least, h.most)

-- ---- lines

-- whether a line sends commands to a card
abbrev pub sends : DeckLine → Bool
sends (line.Sent sent) = true
sends _ = false

-- what a line may count by its state: nothing
record CountsNone (s : State) (l : DeckLine) : Type 0 where
  executes : instructions_in s l ≡ 0
  searches : search_in s l ≡ 0

on_none : (live : Live) (base : Base) (budget : ℕ) (l : DeckLine) → sends l ≡ false → (instructions_on live base budget l ≡ 0) × (search_on live base l ≡ 0)
on_none live base budget l h = grind arith

quiet_none : (s : State) (l : DeckLine) → sends l ≡ false → CountsNone s l
quiet_none (BeforePower m b a) l h = record { executes = refl; searches = refl }
quiet_none (AfterPower w) l h = let r = on_none w.live w.base w.budget l h in record { executes = r.0; searches = r.1 }

-- the steps of a line that makes none
none_steps : (s : State) (l : DeckLine) (a : Option Answer) (old new : ℕ) → CountsNone s l → new ≡ old → LineSteps s l a old new
none_steps s l a old new h same = grind (arith, h.executes, h.searches)

pub quiet_steps : (s : State) (l : DeckLine) (a : Option Answer) (old new : ℕ) → sends l ≡ false → new ≡ old → LineSteps s l a old new
quiet_steps s l a old new h same = none_steps s l a old new (quiet_none s l h) same

-- the steps of the line that was given
pub given_steps : (s : State) (l k : DeckLine) (a : Option Answer) (old new : ℕ) → l ≡ k → LineSteps s k a old new → LineSteps s l a old new
given_steps s l k a old new is h = subst (λ (x : DeckLine). LineSteps s x a old new) (sym is) h

-- the answer of a line that a stop hit
stop_answers : (how : Stop) (a : Armed) → is_stopped (Some (answer_after_stop how a)) ≡ true
stop_answers Off a = refl
stop_answers Worn a = refl

module _ {N : Type 0} (state : N → DeviceState) (bench : N → BenchState) where
  -- a line when no card runs
  none_live : (p : Player N) (s : State) (l : DeckLine) (w : Power) → IsPlayerAt state bench p s → p.power ≡ w → ((base : Base) (live : Live) → LiveIs state w p.card base live → (live ≡ Unpowered) ⊎ (live ≡ Muted)) → CountsNone s l
  none_live p (BeforePower m b a) l w at is dead = record { executes = refl; searches = refl }
  none_live p (AfterPower v) l w at is dead =
      elim (dead v.base v.live (subst (λ (x : Power). LiveIs state x p.card v.base v.live) is at.stands.0)) [
        | inl off ↦ record { executes = ap (λ (x : Live). instructions_on x v.base v.budget l) off; searches = ap (λ (x : Live). search_on x v.base l) off }
        | inr mute ↦ record { executes = ap (λ (x : Live). instructions_on x v.base v.budget l) mute; searches = ap (λ (x : Live). search_on x v.base l) mute }
      ]

  pub before_power_steps : (p : Player N) (s : State) (l : DeckLine) (a : Option Answer) (old new : ℕ) → p.power ≡ power.BeforePower → IsPlayerAt state bench p s → new ≡ old → LineSteps s l a old new
  before_power_steps p s l a old new is at same = none_steps s l a old new (none_live p s l power.BeforePower at is (λ base live h. absurd h)) same

  pub off_steps : (p : Player N) (s : State) (l : DeckLine) (a : Option Answer) (old new : ℕ) → p.power ≡ power.Off → IsPlayerAt state bench p s → new ≡ old → LineSteps s l a old new
  off_steps p s l a old new is at same = none_steps s l a old new (none_live p s l power.Off at is (λ base live h. inl h)) same

  pub mute_steps : (p : Player N) (s : State) (l : DeckLine) (a : Option Answer) (old new : ℕ) → p.power ≡ power.Mute → IsPlayerAt state bench p s → new ≡ old → LineSteps s l a old new
  mute_steps p s l a old new is at same = none_steps s l a old new (none_live p s l power.Mute at is (λ base live h. inr h)) same

  -- a line on a card that runs
  record CountsOn (p : Player N) (u : Card N) (s : State) (l : DeckLine) : Type 0 where
    executes : instructions_in s l ≡ instructions (line_command (card_in state u) (session_state_in state u) p.budget l).turns
    searches : search_in s l ≡ line_search (card_in state u) l

  counts_on : (p : Player N) (u : Card N) (s : State) (l : DeckLine) → IsPlayerAt state bench p s → p.power ≡ power.On → state (device_in u) ≡ state (device_in p.card) → u ≡ with_device p.card (device_in u) → CountsOn p u s l
  counts_on p u (BeforePower m b a) l at on same rest = absurd (cc (sym at.stands.0 ∙ on))
  counts_on p u (AfterPower w) l at on same rest =
      grind (arith, p.card, subst (λ (x : Power). LiveIs state x p.card w.base w.live) on at.stands.0, sym (ap (λ (x : DeviceState). means x.words) same), sym (session_state_over state p.card u rest same))

  ran_steps : (p : Player N) (u : Card N) (s : State) (l : DeckLine) (a : Answer) (stopped : Bool) (old new : ℕ) → CountsOn p u s l → (is_stopped (Some a) ≡ false → stopped ≡ false)
      → StepsOf (instructions (line_command (card_in state u) (session_state_in state u) p.budget l).turns) (line_search (card_in state u) l) stopped old new → LineSteps s l (Some a) old new
  ran_steps p u s l a stopped old new on goes h = grind (arith, on.executes, on.searches, h.most)

  -- a line that was answered
  pub done_steps : (p : Player N) (u : Card N) (s : State) (l : DeckLine) (old new : ℕ) → IsPlayerAt state bench p s → p.power ≡ power.On → state (device_in u) ≡ state (device_in p.card) → u ≡ with_device p.card (device_in u)
      → StepsOf (instructions (line_command (card_in state u) (session_state_in state u) p.budget l).turns) (line_search (card_in state u) l) false old new → LineSteps s l (Some answer.Outcome) old new
  done_steps p u s l old new at on same rest h = ran_steps p u s l answer.Outcome false old new (counts_on p u s l at on same rest) (λ x. refl) h

  -- a line that a stop hit
  pub stop_steps : (p : Player N) (u : Card N) (s : State) (l : DeckLine) (how : Stop) (ans : Answer) (old new : ℕ) → IsPlayerAt state bench p s → p.power ≡ power.On → state (device_in u) ≡ state (device_in p.card) → u ≡ with_device p.card (device_in u)
      → ans ≡ answer_after_stop how p.armed → StepsOf (instructions (line_command (card_in state u) (session_state_in state u) p.budget l).turns) (line_search (card_in state u) l) true old new → LineSteps s l (Some ans) old new
  stop_steps p u s l how ans old new at on same rest is h =
      ran_steps p u s l ans true old new (counts_on p u s l at on same rest) (λ x. absurd (cc (sym (ap (λ (y : Answer). is_stopped (Some y)) is ∙ stop_answers how p.armed) ∙ x))) h
