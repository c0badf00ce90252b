-- What a device refuses of a play is possible.
use Rattle.std.proofs.Common.{◌≡◌, ℕ, zero, suc, ◌+◌, ◌≤◌, Bool, true, false, List, [], ◌∷◌, Option, Some, None, refl, arith}
use Rattle.std.specs.Prelude.{nat_le}
use Rattle.std.proofs.lemmas.Bool.{and_parts, leb-true}
use Rattle.model_play.specs.model_device.specs.PowerUp.{OnCard}
use Rattle.model_play.specs.model_card.specs.Items.{moves, StopAt}
use Rattle.model_play.specs.model_card.specs.Commands.{Command}
use Rattle.model_play.specs.model_device.specs.Card.{Card}
use Rattle.model_play.specs.DeckGrammar.{DeckLine}
use Rattle.model_play.specs.DeckGrammar as line
use Rattle.model_play.specs.Play.{armed_stop_in, hit_of, is_card_line, line_after, line_command, moves_of, play_at_power, power_after, power_moves, start, steady_at, step, stopped_power, Armed, Running, BeforePower, AfterPower, FailedWrite, IsBeforeCut, MayHit, Possible, State, Step, Warm}
use Rattle.model_play.proofs.LineKinds.{armed_after, past_power, by_kind, Early, Powers, Quiet, Sends, StepKind}
use Rattle.law_residual.specs.Refusals.{Refusals, count_before_armed, failure_on, failure_or, failures_on, first_refused, refused_or}
use Rattle.law_residual.specs.Laws.{counts_from_one, CountFromOne, PossibleLaw}
use Rattle.law_residual.proofs.OnDevice.{ArmedFromOne}

-- ---- which lines write

kind_writes : {w : Option FailedWrite} {z : State} {n : ℕ} {l : DeckLine} {u : Step} → StepKind w z n l u → 1 ≤ moves_of z (n, l) → is_card_line l ≡ true
unfolding moves_of step
kind_writes {l = line.Power} k h = refl
kind_writes {l = line.Sent x} k h = refl
kind_writes {z = BeforePower m b a} {l = line.Format} k h = absurd (omega (arith, h))
kind_writes {z = BeforePower m b a} {l = l} k h = absurd (omega (arith, h))
kind_writes {z = AfterPower s} {l = l} k h = absurd (omega (arith, h))

-- ---- what is refused

before_all : (a : Armed) (m : ℕ) → count_before_armed a m ≤ m
before_all a m = grind arith

before_cut : (a : Armed) (m j : ℕ) → 1 ≤ j → j ≤ count_before_armed a m → IsBeforeCut a j
before_cut a m j low h = grind arith

refused_may : (r : Refusals) (z : State) (l : ℕ × DeckLine) (d k n : ℕ) → k + n ≤ count_before_armed (armed_stop_in z) (moves_of z l) → MayHit z l (first_refused r d k n)
refused_may r z l d k zero h = tt
refused_may r z l d k (suc n) h = by (r (d + (k + 1))) (refused_may r z l d (k + 1) n (omega (arith, h)))
  where
    by : (o : Option (List ℕ)) → MayHit z l (first_refused r d (k + 1) n) → MayHit z l (refused_or (k + 1) o (first_refused r d (k + 1) n))
    by None later = later
    by (Some x) later =
        let all = before_all (armed_stop_in z) (moves_of z l) in
        record {
          card_line = kind_writes (by_kind z l None) (omega (arith, h, all));
          low = omega arith;
          high = omega (arith, h, all);
          first = before_cut (armed_stop_in z) (moves_of z l) (k + 1) (omega arith) (omega (arith, h));
        }

asked_may : (z : State) (l : ℕ × DeckLine) (a : Armed) → armed_stop_in z ≡ a → ArmedFromOne a → MayHit z l (steady_at a l.1 (moves_of z l))
asked_may z l a e f = grind (arith, and_parts, leb-true)

either_may : (z : State) (l : ℕ × DeckLine) (v w : Option FailedWrite) → MayHit z l v → MayHit z l w → MayHit z l (failure_or v w)
either_may z l None w f g = g
either_may z l (Some v) w f g = f

-- ---- stops that are armed later

stopped_from_one : (s : Warm) (t : StopAt) (b : Bool) → ArmedFromOne (stopped_power s t b).armed
stopped_from_one s t true = tt
stopped_from_one s t false = tt

power_from_one : (s : Warm) (o : Option StopAt) → ArmedFromOne (power_after s o).armed
power_from_one s None = tt
power_from_one s (Some t) = stopped_from_one s t (nat_le t.at s.owed)

line_from_one : (s : Warm) (c : Card) (r : Command) (o : Option StopAt) → ArmedFromOne (line_after s c r o).armed
line_from_one s c r None = tt
line_from_one s c r (Some t) = tt

armed_from_one : (l : DeckLine) (a : Armed) → counts_from_one l ≡ true → ArmedFromOne a → ArmedFromOne (armed_after l a)
armed_from_one l a h f = grind (arith, leb-true)

next_from_one : {w : Option FailedWrite} {z : State} {n : ℕ} {l : DeckLine} {u : Step} → StepKind w z n l u → counts_from_one l ≡ true → ArmedFromOne (armed_stop_in z) → ArmedFromOne (armed_stop_in u.after)
next_from_one (Early {l = l} {a = a} p) h f = armed_from_one l a h f
next_from_one (Quiet {l = l} {s = s} p q) h f = armed_from_one l s.armed h f
next_from_one {w} (Powers (BeforePower m b a)) h f = let s = play_at_power m b a in power_from_one s (hit_of s.armed (power_moves s) w)
next_from_one {w} (Powers (AfterPower s)) h f = power_from_one s (hit_of s.armed (power_moves s) w)
next_from_one {w} (Sends {o = o} {g = g} {j = j} {a = a} k c q) h f = let r = line_command c q g (line.Sent k) in line_from_one (past_power (OnCard c) o j (Running q) g a) c r (hit_of a (moves r.items) w)

-- ---- plays

possible_from : (ls : List (ℕ × DeckLine)) (r : Refusals) (d : ℕ) (z : State) → CountFromOne ls → ArmedFromOne (armed_stop_in z) → Possible z ls (failures_on r d z ls)
unfolding failures_on
possible_from [] r d z counts f = tt
possible_from (l ∷ ls) r d z counts f =
    let w = failure_on r d z l in
    let a = armed_stop_in z in
    let m = moves_of z l in
    let may : MayHit z l w = either_may z l (first_refused r d 0 (count_before_armed a m)) (steady_at a l.1 m) (refused_may r z l d 0 (count_before_armed a m) (omega arith)) (asked_may z l a refl f) in
    (may, possible_from ls r (d + (step z l w).moves) (step z l w).after counts.1 (next_from_one (by_kind z l w) counts.0 f))

-- the failed writes of a play on a device are possible
pub possible_law : PossibleLaw
possible_law r m ls counts = possible_from ls r 0 (start m) counts tt
