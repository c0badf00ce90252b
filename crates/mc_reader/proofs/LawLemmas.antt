-- A card that runs answers every command that no stop hits.
use Rattle.std.proofs.Common.{◌≡◌, ℕ, ◌+◌, ◌≤◌, Bool, true, false, List, [], ◌∷◌, ◌++◌, length, drop, Option, Some, None, refl, sym, ap, ◌∙◌, arith}
use Rattle.std.specs.List.{AllByRecursion}
use Rattle.std.proofs.lemmas.List.{length-append}
use Rattle.mc_words.specs.model_device.specs.Bytes.{bytes2, lookup}
use Rattle.mc_words.specs.model_device.specs.Card.{App, Card}
use Rattle.mc_words.specs.model_device.specs.PowerUp.{base_after_migration, AtFault, Base, OnCard}
use Rattle.mc_words.specs.model_device.specs.declared.device.Stop.{Stop}
use Rattle.mc_words.specs.model_device.specs.declared.device.Stop.TheVariants as stop
use Rattle.mc_apdu.specs.model_machine.specs.Chain.{Abended, Outcome, Reply}
use Rattle.mc_deck.specs.model_card.specs.Commands.{Command}
use Rattle.mc_deck.specs.model_card.specs.Items.{StopAt}
use Rattle.mc_deck.specs.model_play.specs.DeckGrammar.{DeckLine}
use Rattle.mc_deck.specs.model_play.specs.DeckGrammar as line
use Rattle.mc_deck.specs.model_play.specs.Play.{after_power_step, before_power_step, card_line, dump_result, first_failure, line_after, line_command, line_says, play_at_power, plays, power_live, power_moves, power_result, power_says, result_of_stop, start, static_of, step, Absent, AfterPower, Answered, Armed, BeforePower, FailedWrite, FailureStop, Formatted, LineResult, Live, Muted, NoCard, OffAt, Ready, Running, Silenced, State, Static, Step, Unpowered, Unusable, Warm}
use Rattle.mc_deck.specs.model_play.specs.Play as play
use Rattle.mc_reader.specs.Answers.{outcome_bytes, result_bytes, steps_behind}
use Rattle.mc_reader.specs.Lines.{last_number, line_in, line_with_number, lines_of, number_after, session_lines}
use Rattle.mc_reader.specs.Meanings.{meaning, power_after, Meaning, Nothing, Orders, PowerOff, PowerOn, Refused, ToCard, Unheard, WantsAtr}
use Rattle.mc_reader.specs.Laws.{has_running_card, runs_on, steps_of_session, AreAnswered, IsAnswered, KeepsRunning}

-- ---- one command

two_bytes : (o : Outcome) → 2 ≤ length (outcome_bytes o)
two_bytes (Reply body sw) = let sum = length-append body (bytes2 sw) in omega (arith, sum)
two_bytes (Abended cause) = omega arith

answered_by : (r : Command) (t : Option StopAt) → t ≡ None → 2 ≤ length (result_bytes (Some (line_says r t)))
answered_by r None e = two_bytes r.outcome
answered_by r (Some t) e = absurd (cc e)

command_answered : (n : ℕ) (f : List ℕ) (s : Warm) (live : Live) (base : Base) (w : Option FailedWrite) → s.live ≡ live → s.base ≡ base
    → has_running_card (card_line n (line.Sent (line.Apdu f)) s live base w).before ≡ true → (card_line n (line.Sent (line.Apdu f)) s live base w).stop ≡ None → 2 ≤ length (result_bytes (card_line n (line.Sent (line.Apdu f)) s live base w).result)
command_answered n f s (Running x) (OnCard c) w e k runs none = answered_by (line_command c x s.budget (line.Sent (line.Apdu f))) _ none
command_answered n f s (Running x) (AtFault cause p) w e k runs none = absurd (cc (sym (ap (λ (v : Live). runs_on v s.base) e ∙ ap (λ (b : Base). runs_on (Running x) b) k) ∙ runs))
command_answered n f s Unpowered base w e k runs none = absurd (cc (sym (ap (λ (v : Live). runs_on v s.base) e) ∙ runs))
command_answered n f s Muted base w e k runs none = absurd (cc (sym (ap (λ (v : Live). runs_on v s.base) e) ∙ runs))

step_answered : (n : ℕ) (f : List ℕ) (s : State) (w : Option FailedWrite) (ts : List Step) → IsAnswered (ToCard f) (step s (n, line.Sent (line.Apdu f)) w ∷ ts)
unfolding step
step_answered n f (BeforePower m b a) w ts = λ runs none. absurd (cc runs)
step_answered n f (AfterPower s) w ts = λ runs none. command_answered n f s s.live s.base w refl refl runs none

-- ---- the frames of a session

frames_answered : (fs : List (List ℕ)) (n : ℕ) (powered : Bool) (s : State) (ws : List (Option FailedWrite)) → AreAnswered powered fs (plays s (lines_of n powered fs) ws)
unfolding plays
frames_answered [] n powered s ws = tt
frames_answered (f ∷ fs) n powered s ws = by (meaning powered f) (λ k p z ws. frames_answered fs k p z ws)
  where
    -- the steps of this frame's line and of those after it
    played : Meaning → List Step
    played m = plays s (line_with_number n (line_in m) ++ lines_of (number_after n (line_in m)) (power_after powered m) fs) ws

    by : (m : Meaning) → ((k : ℕ) (p : Bool) (z : State) (ws : List (Option FailedWrite)) → AreAnswered p fs (plays z (lines_of k p fs) ws))
        → IsAnswered m (played m) × AreAnswered (power_after powered m) fs (steps_behind (line_in m) (played m))
    by PowerOn later = (tt, later (n + 1) true (step s (n + 1, line.Power) (first_failure ws)).after (drop 1 ws))
    by PowerOff later = (tt, later n false s ws)
    by WantsAtr later = (tt, later n powered s ws)
    by Nothing later = (tt, later n powered s ws)
    by (Orders l) later = (tt, later (n + 1) powered (step s (n + 1, l) (first_failure ws)).after (drop 1 ws))
    by (Refused status) later = (tt, later n powered s ws)
    by (ToCard g) later = (step_answered (n + 1) g s (first_failure ws) (plays (step s (n + 1, line.Sent (line.Apdu g)) (first_failure ws)).after (lines_of (n + 1) powered fs) (drop 1 ws)), later (n + 1) powered (step s (n + 1, line.Sent (line.Apdu g)) (first_failure ws)).after (drop 1 ws))
    by Unheard later = (tt, later n powered s ws)

deck_before : (deck : List (ℕ × DeckLine)) (fs : List (List ℕ)) (k : ℕ) (s : State) (ws : List (Option FailedWrite)) → AreAnswered false fs (drop (length deck) (plays s (deck ++ lines_of k false fs) ws))
unfolding plays
deck_before [] fs k s ws = frames_answered fs k false s ws
deck_before (l ∷ deck) fs k s ws = deck_before deck fs k (step s l (first_failure ws)).after (drop 1 ws)

pub session_answered : (deck : List (ℕ × DeckLine)) (fs : List (List ℕ)) (m : List (List ℕ)) (ws : List (Option FailedWrite)) → AreAnswered false fs (drop (length deck) (steps_of_session deck fs m ws))
session_answered deck fs m ws = deck_before deck fs (last_number deck) (start m) ws

-- ---- a card that runs

abbrev is_ready : LineResult → Bool
is_ready (Ready n) = true
is_ready _ = false

no_ready : (r : LineResult) (writes : ℕ) (P : Type 0) → is_ready r ≡ false → Some r ≡ Some (Ready writes) → P
no_ready (Ready n) writes P none e = absurd (cc none)
no_ready Formatted writes P none e = absurd (cc e)
no_ready (Unusable cause place) writes P none e = absurd (cc e)
no_ready (OffAt k) writes P none e = absurd (cc e)
no_ready FailureStop writes P none e = absurd (cc e)
no_ready NoCard writes P none e = absurd (cc e)
no_ready Silenced writes P none e = absurd (cc e)
no_ready (Answered o) writes P none e = absurd (cc e)
no_ready (Static bytes) writes P none e = absurd (cc e)
no_ready Absent writes P none e = absurd (cc e)

stop_not_ready : (t : StopAt) (k : Stop) → is_ready (result_of_stop t k) ≡ false
stop_not_ready t stop.Off = refl
stop_not_ready t stop.Worn = refl

-- a power line
power_begins : (s : Warm) (live : Live) (base : Base) (t : Option StopAt) (writes : ℕ) → s.base ≡ base → Some (power_says s t) ≡ Some (Ready writes) → has_running_card (AfterPower (play.power_after s t)) ≡ true
power_begins s live base (Some t) writes e is = no_ready (result_of_stop t t.kind) writes _ (stop_not_ready t t.kind) is
power_begins s live (OnCard c) None writes e is = ap (λ (b : Base). runs_on (power_live b) (base_after_migration b)) e
power_begins s live (AtFault cause p) None writes e is = absurd (cc (sym (ap (λ (b : Base). Some (power_result (power_moves s) b)) e) ∙ is))

power_goes_on : (s : Warm) (live : Live) (base : Base) (t : Option StopAt) → s.base ≡ base → runs_on live base ≡ true → t ≡ None → has_running_card (AfterPower (play.power_after s t)) ≡ true
power_goes_on s live base (Some t) e runs none = absurd (cc none)
power_goes_on s live (OnCard c) None e runs none = ap (λ (b : Base). runs_on (power_live b) (base_after_migration b)) e
power_goes_on s (Running x) (AtFault cause p) None e runs none = absurd (cc runs)
power_goes_on s Unpowered (AtFault cause p) None e runs none = absurd (cc runs)
power_goes_on s Muted (AtFault cause p) None e runs none = absurd (cc runs)

-- a dump
dump_not_ready : (live : Live) (base : Base) (n : List ℕ) → is_ready (dump_result live base n) ≡ false
dump_not_ready (Running x) (OnCard c) n = by (lookup c.apps n)
  where
    by : (o : Option App) → is_ready (static_of o) ≡ false
    by None = refl
    by (Some a) = refl
dump_not_ready (Running x) (AtFault cause p) n = refl
dump_not_ready Unpowered base n = refl
dump_not_ready Muted base n = refl

-- a card line
answer_not_ready : (r : Command) (t : Option StopAt) → is_ready (line_says r t) ≡ false
answer_not_ready r None = refl
answer_not_ready r (Some t) = stop_not_ready t t.kind

command_goes_on : (s : Warm) (c : Card) (r : Command) (t : Option StopAt) → t ≡ None → has_running_card (AfterPower (line_after s c r t)) ≡ true
command_goes_on s c r None none = refl
command_goes_on s c r (Some t) none = absurd (cc none)

card_line_keeps : (n : ℕ) (l : DeckLine) (s : Warm) (live : Live) (base : Base) (w : Option FailedWrite) → s.live ≡ live → s.base ≡ base → KeepsRunning (card_line n l s live base w)
card_line_keeps n l s (Running x) (OnCard c) w e k =
    record { begins = λ writes is. no_ready _ writes _ (answer_not_ready (line_command c x s.budget l) _) is; goes_on = λ runs none. command_goes_on s c (line_command c x s.budget l) _ none }
card_line_keeps n l s (Running x) (AtFault cause p) w e k =
    record { begins = λ writes is. absurd (cc is); goes_on = λ runs none. absurd (cc (sym (ap (λ (v : Live). runs_on v s.base) e ∙ ap (λ (b : Base). runs_on (Running x) b) k) ∙ runs)) }
card_line_keeps n l s Unpowered base w e k = record { begins = λ writes is. absurd (cc is); goes_on = λ runs none. absurd (cc (sym (ap (λ (v : Live). runs_on v s.base) e) ∙ runs)) }
card_line_keeps n l s Muted base w e k = record { begins = λ writes is. absurd (cc is); goes_on = λ runs none. absurd (cc (sym (ap (λ (v : Live). runs_on v s.base) e) ∙ runs)) }

-- a line before the first power line, and after it
first_keeps : (n : ℕ) (l : DeckLine) (m : List (List ℕ)) (b : ℕ) (a : Armed) (w : Option FailedWrite) → KeepsRunning (before_power_step n l m b a w)
first_keeps n line.Power m b a w =
    record { begins = λ writes is. power_begins (play_at_power m b a) Unpowered (play_at_power m b a).base _ writes refl is; goes_on = λ runs none. absurd (cc runs) }
first_keeps n _ m b a w = record { begins = λ writes is. absurd (cc is); goes_on = λ runs none. absurd (cc runs) }

later_keeps : (n : ℕ) (l : DeckLine) (s : Warm) (w : Option FailedWrite) → KeepsRunning (after_power_step n l s w)
later_keeps n line.Power s w =
    record { begins = λ writes is. power_begins s s.live s.base _ writes refl is; goes_on = λ runs none. power_goes_on s s.live s.base _ refl runs none }
later_keeps n (line.Dump x) s w = record { begins = λ writes is. no_ready _ writes _ (dump_not_ready s.live s.base x) is; goes_on = λ runs none. runs }
later_keeps n (line.Sent sent) s w = card_line_keeps n (line.Sent sent) s s.live s.base w refl refl
later_keeps n _ s w = record { begins = λ writes is. absurd (cc is); goes_on = λ runs none. runs }

step_keeps : (s : State) (l : ℕ × DeckLine) (w : Option FailedWrite) → KeepsRunning (step s l w)
unfolding step
step_keeps (BeforePower m b a) l w = first_keeps l.0 l.1 m b a w
step_keeps (AfterPower s) l w = later_keeps l.0 l.1 s w

plays_keep : (ls : List (ℕ × DeckLine)) (s : State) (ws : List (Option FailedWrite)) → AllByRecursion KeepsRunning (plays s ls ws)
unfolding plays
plays_keep [] s ws = tt
plays_keep (l ∷ ls) s ws = (step_keeps s l (first_failure ws), plays_keep ls (step s l (first_failure ws)).after (drop 1 ws))

pub session_runs : (deck : List (ℕ × DeckLine)) (fs : List (List ℕ)) (m : List (List ℕ)) (ws : List (Option FailedWrite)) → AllByRecursion KeepsRunning (steps_of_session deck fs m ws)
session_runs deck fs m ws = plays_keep (session_lines deck fs) (start m) ws
