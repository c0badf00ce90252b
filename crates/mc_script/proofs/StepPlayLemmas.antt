-- The steps of the lines of a play, and of a whole play.
use Rattle.std.proofs.Common.{◌≡◌, ℕ, ◌+◌, Bool, true, false, List, [], ◌∷◌, ◌++◌, Option, Some, None, refl, arith, ap, subst, ◌∙◌}
use Rattle.std.specs.Prelude.{option_map}
use Rattle.std.specs.List.{AllByRecursion}
use Rattle.model_play.specs.model_device.specs.Device.{DeviceState}
use Rattle.model_play.specs.model_device.specs.Card.{App}
use Rattle.model_play.specs.model_device.specs.PowerUp.{Base, OnCard, AtFault}
use Rattle.model_play.specs.model_card.specs.Items.{StopAt}
use Rattle.model_play.specs.model_card.specs.Commands.{Command}
use Rattle.model_play.specs.DeckGrammar.{DeckLine}
use Rattle.model_play.specs.DeckGrammar as line
use Rattle.model_play.specs.Play.{LineResult, OffAt, FailureStop, Live, Running, Warm, State, BeforePower, AfterPower, FailedWrite, Step, step, card_line, line_says, power_says, power_result, power_moves, play_at_power, hit_of, dump_result, static_of}
use Rattle.model_play.proofs.PlayLemmas.{step_is}
use Rattle.mc_card.specs.declared.card.Card.{Card}
use Rattle.mc_script.specs.declared.answer.Answer.{Answer}
use Rattle.mc_script.specs.declared.player.Power.{Power}
use Rattle.mc_script.specs.declared.player.Player.{Player}
use Rattle.mc_script.specs.Players.{answer_value, dump_value}
use Rattle.mc_script.specs.Counting.{total}
use Rattle.mc_script.specs.StepCounts.{instructions, search_in, instructions_on, instructions_in, is_stopped, LineSteps, PlaySteps}

-- ---- the instructions of a line, by its step

card_turns : (n : ℕ) (l : DeckLine) (s : Warm) (live : Live) (base : Base) (w : Option FailedWrite) → instructions (card_line n l s live base w).turns ≡ instructions_on live base s.budget l
card_turns n l s live base w = grind arith

-- a line that sends no command executes no instruction
none_executed : (live : Live) (base : Base) (budget : ℕ) (l : DeckLine) → ((c : _) (session_state : _) → instructions_on (Running session_state) (OnCard c) budget l ≡ 0) → 0 ≡ instructions_on live base budget l
none_executed live base budget l h = grind arith

line_turns : (s : State) (l : ℕ × DeckLine) (w : Option FailedWrite) → instructions (step s l w).turns ≡ instructions_in s l.1
unfolding step
line_turns (BeforePower m b a) (n, line.Format) w = refl
line_turns (BeforePower m b a) (n, _) w = refl
line_turns (AfterPower s) (n, line.Sent sent) w = card_turns n (line.Sent sent) s s.live s.base w
line_turns (AfterPower s) (n, l) w = none_executed s.live s.base s.budget l (λ c session_state. refl)

-- ---- the result of a line that no stop hit

-- whether a result is that of a stop
abbrev pub is_stop_result : Option LineResult → Bool
is_stop_result (Some (OffAt k)) = true
is_stop_result (Some FailureStop) = true
is_stop_result _ = false

power_base : (m : ℕ) (b : Base) → is_stop_result (Some (power_result m b)) ≡ false
power_base m (OnCard c) = refl
power_base m (AtFault cause p) = refl

power_unstopped : (s : Warm) (t : Option StopAt) → t ≡ None → is_stop_result (Some (power_says s t)) ≡ false
power_unstopped s None h = power_base (power_moves s) s.base
power_unstopped s (Some t) h = absurd (cc h)

command_unstopped : (r : Command) (t : Option StopAt) → t ≡ None → is_stop_result (Some (line_says r t)) ≡ false
command_unstopped r None h = refl
command_unstopped r (Some t) h = absurd (cc h)

card_unstopped : (n : ℕ) (l : DeckLine) (s : Warm) (live : Live) (base : Base) (w : Option FailedWrite) → (card_line n l s live base w).stop ≡ None → is_stop_result (card_line n l s live base w).result ≡ false
card_unstopped n l s live base w h = grind (arith, command_unstopped)

static_result : (o : Option App) → is_stop_result (Some (static_of o)) ≡ false
static_result None = refl
static_result (Some a) = refl

dump_unstopped : (live : Live) (base : Base) (x : List ℕ) → is_stop_result (Some (dump_result live base x)) ≡ false
dump_unstopped live base x = grind (arith, static_result)

unstopped : (s : State) (l : ℕ × DeckLine) (w : Option FailedWrite) → (step s l w).stop ≡ None → is_stop_result (step s l w).result ≡ false
unfolding step
unstopped (BeforePower m b a) (n, line.Power) w h = power_unstopped (play_at_power m b a) (hit_of a (power_moves (play_at_power m b a)) w) h
unstopped (BeforePower m b a) (n, line.Format) w h = refl
unstopped (BeforePower m b a) (n, _) w h = refl
unstopped (AfterPower s) (n, line.Power) w h = power_unstopped s (hit_of s.armed (power_moves s) w) h
unstopped (AfterPower s) (n, line.Sent sent) w h = card_unstopped n (line.Sent sent) s s.live s.base w h
unstopped (AfterPower s) (n, line.Dump x) w h = dump_unstopped s.live s.base x
unstopped (AfterPower s) (n, _) w h = refl

module _ {N : Type 0} (state : N → DeviceState) where
  -- the answer of a dump line is that of no stop
  dump_answer : (p : Power) (c : Card N) (x : List ℕ) → is_stop_result (Some (dump_value state p c x)) ≡ false
  dump_answer p c x = grind (arith, static_result)

  -- an answer is that of a stop if its result is
  stop_answer : (p : Player N) (a : Option Answer) → is_stop_result (option_map (answer_value state p) a) ≡ false → is_stopped a ≡ false
  stop_answer p a h = grind arith

  -- ---- one line of a play

  -- the steps of a line, by its step
  pub step_counts : (p : Player N) (s : State) (l : ℕ × DeckLine) (w : Option FailedWrite) (a : Option Answer) (old new : ℕ) → option_map (answer_value state p) a ≡ (step s l w).result → LineSteps s l.1 a old new → PlaySteps (step s l w ∷ []) old new
  step_counts p s l w a old new says h =
      let t = step s l w in
      let is = step_is s l w in
      let turns : instructions t.turns ≡ instructions_in s l.1 = line_turns s l w in
      let search : search_in t.before t.line ≡ search_in s l.1 = ap (λ (x : State). search_in x t.line) is.before ∙ ap (λ (x : DeckLine). search_in s x) is.line in
      let high = h.most in
      record {
        least = λ none.
            let free : is_stop_result (option_map (answer_value state p) a) ≡ false = ap is_stop_result says ∙ unstopped s l w none.0 in
            let low = h.least (stop_answer p a free) in
            omega (arith, low, turns);
        most = omega (arith, high, turns, search);
      }

-- ---- more lines

pub steps_none : (old : ℕ) → PlaySteps [] old old
steps_none old = record { least = λ none. omega arith; most = omega arith }

total_append : (f : Step → ℕ) (ts us : List Step) → total f (ts ++ us) ≡ total f ts + total f us
total_append f [] us = omega arith
total_append f (t ∷ ts) us = let rest = total_append f ts us in omega (arith, rest)

all_front : (ts us : List Step) → AllByRecursion (λ t. t.stop ≡ None) (ts ++ us) → AllByRecursion (λ t. t.stop ≡ None) ts × AllByRecursion (λ t. t.stop ≡ None) us
all_front [] us h = (tt, h)
all_front (t ∷ ts) us h = let r = all_front ts us h.1 in ((h.0, r.0), r.1)

-- the steps of lines, and of the lines after them
pub steps_then : (ts us : List Step) (old mid new : ℕ) → PlaySteps ts old mid → PlaySteps us mid new → PlaySteps (ts ++ us) old new
steps_then ts us old mid new first rest = grind (arith, total_append, all_front)

-- the same steps, of another expression for the lines
pub steps_as : (ts us : List Step) (old new : ℕ) → ts ≡ us → PlaySteps ts old new → PlaySteps us old new
steps_as ts us old new is h = subst (λ (x : List Step). PlaySteps x old new) is h
