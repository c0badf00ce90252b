-- Every play from a blank device has its running card settled, and so an exploration begins with a settled card or with
-- none.
use Rattle.std.proofs.Common.{arith}
use Rattle.std.specs.Prelude.{◌≡◌, ℕ, nat_le, Bool, true, false, List, [], ◌∷◌, drop, Option, Some, None, ⊤, refl}
use Rattle.model_play.specs.model_device.specs.declared.device.Stop.{Stop}
use Rattle.model_play.specs.model_device.specs.declared.device.Stop.TheVariants as stop
use Rattle.model_play.specs.model_device.specs.Image.{Journal}
use Rattle.model_play.specs.model_device.specs.Card.{Card}
use Rattle.model_play.specs.model_device.specs.Device.{blank_words, device_words}
use Rattle.model_play.specs.model_device.specs.PowerUp.{Base, OnCard, AtFault, base_after_migration}
use Rattle.model_play.specs.model_card.specs.Items.{StopAt}
use Rattle.model_play.specs.model_card.specs.Commands.{Command}
use Rattle.model_play.specs.DeckGrammar.{DeckLine}
use Rattle.model_play.specs.Play.{Armed, Unarmed, Live, Running, Unpowered, Muted, Warm, State, BeforePower, AfterPower, FailedWrite, step, command_step, live_after, power_live, power_after, stopped_power, play_at_power, start, plays, steady_failures, first_failure, last_state, Step}
use Rattle.law_explore.specs.Rules.{Exploration}
use Rattle.law_explore.specs.States.{warm_in, play_of_deck, first_warm, first_play}
use Rattle.law_explore.specs.Search.{first_state}
use Rattle.law_explore.specs.Safety.{IsSettled, FirstLaw}
use Rattle.law_explore.proofs.Actions.{IsStarted, Agrees}
use Rattle.model_play.proofs.LineKinds.{past_power, found_by_power, StepKind, Early, Quiet, Powers, Sends, by_kind}

-- the running card of a play is settled
abbrev Settles : State → Type 0
Settles (BeforePower m b a) = ⊤
Settles (AfterPower s) = IsSettled s.live s.base s.owed

stopped_settles : (k : Stop) (b : Base) (o : ℕ) → IsSettled (live_after k) b o
stopped_settles stop.Off b o = tt
stopped_settles stop.Worn b o = tt

powered_settles : (b : Base) → IsSettled (power_live b) (base_after_migration b) 0
powered_settles (OnCard c) = (refl, refl)
powered_settles (AtFault cause place) = tt

stopped_power_settles : (s : Warm) (t : StopAt) (b : Bool) → Settles (AfterPower (stopped_power s t b))
stopped_power_settles s t true = stopped_settles t.kind _ _
stopped_power_settles s t false = stopped_settles t.kind _ _

power_settles : (s : Warm) (t : Option StopAt) → Settles (AfterPower (power_after s t))
power_settles s None = powered_settles s.base
power_settles s (Some t) = stopped_power_settles s t (nat_le t.at s.owed)

command_settles : (n : ℕ) (l : DeckLine) (c : Card) (o : ℕ) (j : Journal) (v : Live) (g : ℕ) (a : Armed) (r : Command) (t : Option StopAt) → (o ≡ 0) × (c.layout ≡ 2)
    → Settles (command_step n l (past_power (OnCard c) o j v g a) c r t).after
command_settles n l c o j v g a r None h = h
command_settles n l c o j v g a r (Some t) h = stopped_settles t.kind _ _

kind_settles : {w : Option FailedWrite} {z : State} {n : ℕ} {l : DeckLine} {u : Step} → StepKind w z n l u → Settles z → Settles u.after
kind_settles (Early p) h = tt
kind_settles (Quiet p q) h = h
kind_settles (Powers z) h = power_settles (found_by_power z) _
kind_settles {w} (Sends {n = n} {o = o} {g = g} {j = j} {a = a} k c session_state) h = grind (arith, command_settles)

step_settles : (z : State) (l : ℕ × DeckLine) (w : Option FailedWrite) → Settles z → Settles (step z l w).after
step_settles z l w h = kind_settles (by_kind z l w) h

play_settles : (z : State) (ls : List (ℕ × DeckLine)) (ws : List (Option FailedWrite)) → Settles z → Settles (last_state z (plays z ls ws))
unfolding plays
play_settles z [] ws h = h
play_settles z (l ∷ ls) ws h = play_settles (step z l (first_failure ws)).after ls (drop 1 ws) (step_settles z l (first_failure ws) h)

deck_settles : (ls : List (ℕ × DeckLine)) → Settles (play_of_deck ls)
unfolding play_of_deck
deck_settles ls = play_settles (start (blank_words device_words)) ls (steady_failures (start (blank_words device_words)) ls) tt

warmed_settles : (m : List (List ℕ)) (b : ℕ) (a : Armed) → Settles (AfterPower (play_at_power m b a))
unfolding play_at_power
warmed_settles m b a = tt

warm_settles : (z : State) → Settles z → Settles (AfterPower (warm_in z))
warm_settles (BeforePower m b a) h = warmed_settles m b a
warm_settles (AfterPower s) h = h

-- ---- the first play

record IsFirst (s : Warm) : Type 0 where
  unarmed : s.armed ≡ Unarmed
  started : IsStarted s.live s.base s.owed

first_by : (b : Base) (o : ℕ) (j : Journal) (v : Live) (g : ℕ) (a : Armed) → IsSettled v b o → IsFirst (first_warm (past_power b o j v g a))
first_by (OnCard c) o j (Running session_state) g a h = record { unarmed = refl; started = h }
first_by (AtFault cause place) o j (Running session_state) g a h = absurd h
first_by (OnCard c) o j Unpowered g a h = record { unarmed = refl; started = (refl, refl) }
first_by (AtFault cause place) o j Unpowered g a h = record { unarmed = refl; started = tt }
first_by (OnCard c) o j Muted g a h = record { unarmed = refl; started = (refl, refl) }
first_by (AtFault cause place) o j Muted g a h = record { unarmed = refl; started = tt }

first_is : (ls : List (ℕ × DeckLine)) → IsFirst (first_play ls)
unfolding first_play
first_is ls =
    let s = warm_in (play_of_deck ls) in
    first_by s.base s.owed s.by s.live s.budget s.armed (warm_settles (play_of_deck ls) (deck_settles ls))

-- the first play of a deck goes on as the first state does
pub first_agrees : (x : Exploration) → Agrees (AfterPower (first_play x.lines)) (first_state x)
unfolding first_state
first_agrees x =
    let f = first_is x.lines in
    record { warm = first_play x.lines; is = refl; base = refl; live = refl; budget = refl; unarmed = f.unarmed; started = f.started }

-- an exploration begins with a settled card or with none
pub first_law : FirstLaw
first_law ls = grind (arith, first_is ls, first_play ls)
