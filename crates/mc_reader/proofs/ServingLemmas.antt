-- One frame that was served, and the frames after it.
use Rattle.std.proofs.Common.{◌≡◌, ℕ, ◌+◌, Bool, List, [], ◌∷◌, ◌++◌, drop, Option, Some, None, Result, refl, sym, ◌∙◌, ap, subst}
use Rattle.std.specs.Prelude.{option_map}
use Rattle.mc_words.specs.model_device.specs.Device.{DeviceState, BenchState}
use Rattle.mc_deck.specs.model_play.specs.DeckGrammar.{DeckLine}
use Rattle.mc_deck.specs.model_play.specs.DeckGrammar as line
use Rattle.mc_deck.specs.model_play.specs.Play.{State, FailedWrite, Step, LineResult, StandsForState, step, plays}
use Rattle.mc_streams.specs.declared.refusals.WriteFault.{WriteFault}
use Rattle.mc_text.specs.Texts.{Sunk, Puts}
use Rattle.mc_script.specs.declared.answer.Answer.{Answer}
use Rattle.mc_script.specs.declared.player.Player.{Player}
use Rattle.mc_script.specs.Players.{answer_value, IsPlayerAt, IsUnfused}
use Rattle.mc_script.specs.Plays.{Bench, Played}
use Rattle.mc_script.specs.Lines.{bench_of}
use Rattle.mc_script.proofs.PlayLemmas.{plays_on, played_on, played_none}
use Rattle.mc_reader.specs.Meanings.{Meaning, PowerOn, PowerOff, WantsAtr, Nothing, Orders, Refused, ToCard, Unheard, meaning, power_after}
use Rattle.mc_reader.specs.Lines.{line_in, line_with_number, number_after, lines_of}
use Rattle.mc_reader.specs.Answers.{result_bytes, answer_to, first_result, steps_behind, answer_each}
use Rattle.mc_reader.specs.Results.{reply_to_frame, answer_frame}
use Rattle.mc_reader.specs.Serving.{Moves, PlaysLine, ServesFrame, ServedFrames}
use Rattle.mc_reader.proofs.AnswerLemmas.{answer_is}

-- ---- one frame

module _ {N : Type 0} (state : N → DeviceState) (bench : N → BenchState) where
  -- a frame without a line
  without_line : (p q : Player N) (s : State) (n : ℕ) (m : Meaning) (x y : Sunk) (r : Result (Unit {0}) WriteFault) → line_in m ≡ None
      → IsPlayerAt state bench p s → q ≡ p → Puts x (answer_frame (answer_to m None)) r y → ServesFrame state bench p s n m x r q y
  without_line p q s n m x y r none at same puts =
      record {
        after = s;
        at = subst (λ v. IsPlayerAt state bench v s) (sym same) at;
        reported = None;
        moves = subst (λ (o : Option DeckLine). Moves s n o (bench_of state bench p) None s (bench_of state bench q)) (sym none) (refl, ap (bench_of state bench) same);
        puts = puts;
      }

  -- a frame with a line, whose answer follows from the line's result
  with_line : (p q : Player N) (s : State) (n : ℕ) (m : Meaning) (l : DeckLine) (answer : Option Answer) (x y : Sunk) (r : Result (Unit {0}) WriteFault) → line_in m ≡ Some l
      → IsPlayerAt state bench p s → PlaysLine state bench p (Some l) answer q → Puts x (answer_frame (answer_to m (option_map (answer_value state q) answer))) r y → ServesFrame state bench p s n m x r q y
  with_line p q s n m l answer x y r some at plays puts =
      let done = plays s (n + 1) at in
      let t = step s (n + 1, l) done.0 in
      record {
        after = t.after;
        at = done.1.at;
        reported = t.result;
        moves = subst (λ (o : Option DeckLine). Moves s n o (bench_of state bench p) t.result t.after (bench_of state bench q)) (sym some) (done.0, done.1.played, refl, refl);
        puts = subst (λ (o : Option LineResult). Puts x (answer_frame (answer_to m o)) r y) done.1.answers puts;
      }

  -- a frame whose line was played, and whose answer was written
  pub frame_served : (p q : Player N) (s : State) (n : ℕ) (m : Meaning) (answer : Option Answer) (x y : Sunk) (r : Result (Unit {0}) WriteFault)
      → IsPlayerAt state bench p s → PlaysLine state bench p (line_in m) answer q → Puts x (answer_frame (reply_to_frame m q.outcome answer)) r y → ServesFrame state bench p s n m x r q y
  frame_served p q s n PowerOn answer x y r at plays puts = with_line p q s n PowerOn line.Power answer x y r refl at plays puts
  frame_served p q s n PowerOff answer x y r at plays puts = without_line p q s n PowerOff x y r refl at plays puts
  frame_served p q s n WantsAtr answer x y r at plays puts = without_line p q s n WantsAtr x y r refl at plays puts
  frame_served p q s n Nothing answer x y r at plays puts = without_line p q s n Nothing x y r refl at plays puts
  frame_served p q s n (Orders l) answer x y r at plays puts = with_line p q s n (Orders l) l answer x y r refl at plays puts
  frame_served p q s n (Refused w) answer x y r at plays puts = without_line p q s n (Refused w) x y r refl at plays puts
  frame_served p q s n (ToCard f) answer x y r at plays puts =
      with_line p q s n (ToCard f) (line.Sent (line.Apdu f)) answer x y r refl at plays
      (subst (λ (t : List ℕ). Puts x (answer_frame (Some t)) r y) (sym (answer_is state q answer)) puts)
  frame_served p q s n Unheard answer x y r at plays puts = without_line p q s n Unheard x y r refl at plays puts

-- ---- a frame, and those after it

-- no frame
pub frames_none : (s : State) (n : ℕ) (powered : Bool) (a : Bench) → StandsForState a.device.words s → IsUnfused a.bench → ServedFrames s n powered [] [] a [] a
frames_none s n powered a stands unfused = record { played = played_none s a stands unfused; answers = refl }

-- the lines of frames after one with a meaning, and the answers to it and to them
record ServedBehind (s : State) (n : ℕ) (powered : Bool) (m : Meaning) (fs : List (List ℕ)) (worn : List (Option FailedWrite)) (a : Bench) (os : List (Option (List ℕ))) (c : Bench) : Type 0 where
  played : Played s (line_with_number n (line_in m) ++ lines_of (number_after n (line_in m)) (power_after powered m) fs) worn a c
  answers :
      let ts = plays s (line_with_number n (line_in m) ++ lines_of (number_after n (line_in m)) (power_after powered m) fs) worn in
      os ≡ answer_to m (first_result ts) ∷ answer_each (power_after powered m) fs (steps_behind (line_in m) ts)

-- frames after a frame without a line
behind_none : (s u : State) (n : ℕ) (q : Bool) (fs : List (List ℕ)) (ws : List (Option FailedWrite)) (a b c : Bench) (reported : Option LineResult) (os : List (Option (List ℕ)))
    → Moves s n None a reported u b → ServedFrames u n q fs ws b os c → ServedFrames s n q fs ws a os c
behind_none s u n q fs ws a b c reported os m h =
    subst (λ (v : State). ServedFrames v n q fs ws a os c) m.0 (subst (λ (d : Bench). ServedFrames u n q fs ws d os c) m.1 h)

-- frames after a line
record BehindLine (s : State) (n : ℕ) (l : DeckLine) (q : Bool) (fs : List (List ℕ)) (worn : List (Option FailedWrite)) (a c : Bench) (reported : Option LineResult) (os : List (Option (List ℕ))) : Type 0 where
  played : Played s ((n + 1, l) ∷ lines_of (n + 1) q fs) worn a c
  first : reported ≡ first_result (plays s ((n + 1, l) ∷ lines_of (n + 1) q fs) worn)
  rest : os ≡ answer_each q fs (drop 1 (plays s ((n + 1, l) ∷ lines_of (n + 1) q fs) worn))

behind_line : (s u : State) (n : ℕ) (l : DeckLine) (q : Bool) (fs : List (List ℕ)) (ws : List (Option FailedWrite)) (a b c : Bench) (reported : Option LineResult) (os : List (Option (List ℕ)))
    (m : Moves s n (Some l) a reported u b) → ServedFrames u (n + 1) q fs ws b os c → BehindLine s n l q fs (m.0 ∷ ws) a c reported os
behind_line s u n l q fs ws a b c reported os m h =
    let w = m.0 in
    let t = step s (n + 1, l) w in
    let rest : ServedFrames t.after (n + 1) q fs ws b os c = subst (λ (v : State). ServedFrames v (n + 1) q fs ws b os c) m.3 h in
    let e = plays_on s (n + 1, l) w (lines_of (n + 1) q fs) ws in
    record {
      played = played_on s (n + 1, l) w (lines_of (n + 1) q fs) ws a b c m.1 rest.played;
      first = m.2 ∙ sym (ap first_result e);
      rest = rest.answers ∙ sym (ap (λ (ts : List Step). answer_each q fs (drop 1 ts)) e);
    }

-- the failed write of a line that may be missing
abbrev pub failures_of_move : (s u : State) (n : ℕ) (o : Option DeckLine) (a b : Bench) (reported : Option LineResult) → Moves s n o a reported u b → List (Option FailedWrite)
failures_of_move s u n None a b reported m = []
failures_of_move s u n (Some l) a b reported m = m.0 ∷ []

behind : (s u : State) (n : ℕ) (powered : Bool) (m : Meaning) (fs : List (List ℕ)) (ws : List (Option FailedWrite)) (a b c : Bench) (reported : Option LineResult) (os : List (Option (List ℕ)))
    (moves : Moves s n (line_in m) a reported u b) → ServedFrames u (number_after n (line_in m)) (power_after powered m) fs ws b os c
    → ServedBehind s n powered m fs (failures_of_move s u n (line_in m) a b reported moves ++ ws) a (answer_to m reported ∷ os) c
behind s u n powered PowerOn fs ws a b c reported os m h =
    let r = behind_line s u n line.Power _ fs ws a b c reported os m h in
    record { played = r.played; answers = ap (λ (qs : List (Option (List ℕ))). None ∷ qs) r.rest }
behind s u n powered PowerOff fs ws a b c reported os m h =
    let r = behind_none s u n _ fs ws a b c reported os m h in
    record { played = r.played; answers = ap (λ (qs : List (Option (List ℕ))). None ∷ qs) r.answers }
behind s u n powered WantsAtr fs ws a b c reported os m h =
    let r = behind_none s u n _ fs ws a b c reported os m h in
    record { played = r.played; answers = ap (λ (qs : List (Option (List ℕ))). answer_to WantsAtr None ∷ qs) r.answers }
behind s u n powered Nothing fs ws a b c reported os m h =
    let r = behind_none s u n _ fs ws a b c reported os m h in
    record { played = r.played; answers = ap (λ (qs : List (Option (List ℕ))). None ∷ qs) r.answers }
behind s u n powered (Orders l) fs ws a b c reported os m h =
    let r = behind_line s u n l _ fs ws a b c reported os m h in
    record { played = r.played; answers = ap (λ (qs : List (Option (List ℕ))). answer_to (Orders l) None ∷ qs) r.rest }
behind s u n powered (Refused w) fs ws a b c reported os m h =
    let r = behind_none s u n _ fs ws a b c reported os m h in
    record { played = r.played; answers = ap (λ (qs : List (Option (List ℕ))). answer_to (Refused w) None ∷ qs) r.answers }
behind s u n powered (ToCard f) fs ws a b c reported os m h =
    let r = behind_line s u n (line.Sent (line.Apdu f)) _ fs ws a b c reported os m h in
    let ts = plays s ((n + 1, line.Sent (line.Apdu f)) ∷ lines_of (n + 1) powered fs) (m.0 ∷ ws) in
    record {
      played = r.played;
      answers = ap (λ (o : Option LineResult). Some (result_bytes o) ∷ os) r.first ∙ ap (λ (qs : List (Option (List ℕ))). Some (result_bytes (first_result ts)) ∷ qs) r.rest;
    }
behind s u n powered Unheard fs ws a b c reported os m h =
    let r = behind_none s u n _ fs ws a b c reported os m h in
    record { played = r.played; answers = ap (λ (qs : List (Option (List ℕ))). Some [] ∷ qs) r.answers }

-- a frame that was served, and those after it
pub frames_on : (s u : State) (n : ℕ) (powered : Bool) (f : List ℕ) (fs : List (List ℕ)) (ws : List (Option FailedWrite)) (a b c : Bench) (reported : Option LineResult) (os : List (Option (List ℕ)))
    (moves : Moves s n (line_in (meaning powered f)) a reported u b)
    → ServedFrames u (number_after n (line_in (meaning powered f))) (power_after powered (meaning powered f)) fs ws b os c
    → ServedFrames s n powered (f ∷ fs) (failures_of_move s u n (line_in (meaning powered f)) a b reported moves ++ ws) a (answer_to (meaning powered f) reported ∷ os) c
frames_on s u n powered f fs ws a b c reported os moves h =
    let r = behind s u n powered (meaning powered f) fs ws a b c reported os moves h in
    record { played = r.played; answers = r.answers }
