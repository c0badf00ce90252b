-- A play of one line and a play of the lines after it are one play.
use Rattle.std.proofs.Common.{◌≡◌, ◌⊎◌, ℕ, zero, suc, ◌+◌, Bool, List, [], ◌∷◌, ◌++◌, Option, Result, Ok, Err, refl, arith, sym, ap, subst, ◌∙◌, append_assoc}
use Rattle.model_play.specs.model_device.specs.Device.{DeviceState, BenchState, next_count}
use Rattle.model_play.specs.DeckGrammar.{DeckLine}
use Rattle.model_play.specs.Play.{Armed, State, FailedWrite, Step, plays, step, armed_stop_in, last_state, StandsForState, moves_of, steady_at, steady_failures, failures_of_tape}
use Rattle.model_play.proofs.PlayLemmas.{step_is}
use Rattle.mc_streams.specs.Streams.{Grew}
use Rattle.mc_streams.specs.declared.refusals.WriteFault.{WriteFault}
use Rattle.mc_streams.proofs.StreamsLemmas.{grew_append, grew_none, rose_later}
use Rattle.mc_script.specs.Counting.{count_after_rises, when_poked, on_at_end, CountsCalls, LineCounts, PlayCounts}
use Rattle.mc_script.specs.Players.{IsUnfused}
use Rattle.mc_script.specs.Plays.{Bench, PlayedLine, PlayTape, Played, texts, PlayEnds}
use Rattle.mc_script.specs.StepCounts.{PlaySteps, CountsFrom}
use Rattle.mc_text.specs.Texts.{Sunk, Writes, Fails}
use Rattle.mc_script.proofs.AfterPowerLemmas.{PokesFirst, pokes_first}
use Rattle.mc_script.proofs.TapeLemmas.{tape_on}
use Rattle.mc_script.proofs.QuietLemmas.{grows_none}
use Rattle.mc_script.proofs.StepPlayLemmas.{steps_none, steps_then, steps_as}

-- ---- counts

-- a count that rose twice
pub raised_add : (n a b : ℕ) → count_after_rises n (a + b) ≡ count_after_rises (count_after_rises n a) b
raised_add n zero b = let e : 0 + b ≡ b = omega arith in ap (λ k. count_after_rises n k) e
raised_add n (suc a) b = let e : suc a + b ≡ suc (a + b) = omega arith in ap (λ k. count_after_rises n k) e ∙ raised_add (next_count n) a b

-- the number of times that power had come when the last word was poked, over lines and those after them: if power came,
-- no word was poked after it
poked_on : (b c : BenchState) (p q q' : ℕ) → c.powers ≡ count_after_rises b.powers p → c.poked ≡ when_poked b q → (p ≡ 0) ⊎ (q' ≡ 0) → when_poked c q' ≡ when_poked b (q + q')
poked_on b c p q q' powers poked apart = grind arith

-- the counts of lines, and of the lines after them
counts_on : (b c e : BenchState) (d f g : DeviceState) (p q k m p' q' k' m' : ℕ) → CountsCalls b d p q k m c f → CountsCalls c f p' q' k' m' e g → (p ≡ 0) ⊎ (q' ≡ 0) → CountsCalls b d (p + p') (q + q') (k + k') (m + m') e g
counts_on b c e d f g p q k m p' q' k' m' one rest apart = grind (arith, raised_add, poked_on)

-- the counts of a line, and of the lines after it
play_counts_on : (a b c : Bench) (t : Step) (ts : List Step) → LineCounts a.bench a.device t b.bench b.device → PlayCounts b.bench b.device (armed_stop_in t.after) ts c.bench c.device → PokesFirst t ts
    → PlayCounts a.bench a.device (armed_stop_in t.before) (t ∷ ts) c.bench c.device
play_counts_on a b c t ts one rest first =
    record {
      counts = counts_on a.bench b.bench c.bench a.device b.device c.device _ _ _ _ _ _ _ _ one.counts rest.counts first;
      arms = omega (arith, one.arms.arms, rest.arms);
      wears = omega (arith, one.arms.wears, rest.wears);
    }

-- the counts of no line
counts_none : (a : Bench) (due : Armed) → PlayCounts a.bench a.device due [] a.bench a.device
counts_none a due = grind arith

-- ---- a line, and the lines after it

-- a play begins with its first line
pub plays_on : (s : State) (l : ℕ × DeckLine) (w : Option FailedWrite) (ls : List (ℕ × DeckLine)) (ws : List (Option FailedWrite)) → plays s (l ∷ ls) (w ∷ ws) ≡ step s l w ∷ plays (step s l w).after ls ws
unfolding plays
plays_on s l w ls ws = refl

-- no line
pub plays_none : (s : State) → plays s [] [] ≡ []
unfolding plays
plays_none s = refl

-- the failed writes of a steady bench
steady_on : (s : State) (l : ℕ × DeckLine) (w : Option FailedWrite) (ls : List (ℕ × DeckLine)) (ws : List (Option FailedWrite)) → w ≡ steady_at (armed_stop_in s) l.1 (moves_of s l) → ws ≡ steady_failures (step s l w).after ls → w ∷ ws ≡ steady_failures s (l ∷ ls)
unfolding steady_failures
steady_on s l w ls ws first rest = rw (← first, rest) refl

-- the counts of a play that begins with a line
counts_from : (s : State) (l : ℕ × DeckLine) (w : Option FailedWrite) (ts : List Step) (a b c : Bench) → LineCounts a.bench a.device (step s l w) b.bench b.device → PlayCounts b.bench b.device (armed_stop_in (step s l w).after) ts c.bench c.device
    → PokesFirst (step s l w) ts → PlayCounts a.bench a.device (armed_stop_in s) (step s l w ∷ ts) c.bench c.device
counts_from s l w ts a b c one rest first =
    subst (λ (u : State). PlayCounts a.bench a.device (armed_stop_in u) (step s l w ∷ ts) c.bench c.device) (step_is s l w).before (play_counts_on a b c (step s l w) ts one rest first)

-- a play of a line and of the lines after it
pub played_on : (s : State) (l : ℕ × DeckLine) (w : Option FailedWrite) (ls : List (ℕ × DeckLine)) (ws : List (Option FailedWrite)) (a b c : Bench) → PlayedLine s l w (step s l w) a b → Played (step s l w).after ls ws b c → Played s (l ∷ ls) (w ∷ ws) a c
played_on s l w ls ws a b c did rest =
    let e = plays_on s l w ls ws in
    record {
      possible = (did.may, rest.possible);
      words = subst (λ (ts : List Step). StandsForState c.device.words (last_state s ts)) (sym e) rest.words;
      counts = subst (λ (ts : List Step). PlayCounts a.bench a.device (armed_stop_in s) ts c.bench c.device) (sym e) (counts_from s l w _ a b c did.counts rest.counts (pokes_first s l w ls ws));
      steady = λ steady. steady_on s l w ls ws (did.steady steady) (rest.steady (did.counts.counts.steady ∙ steady));
      power = rest.power ∙ ap (λ (on : Bool). on_at_end on (plays (step s l w).after ls ws)) did.power ∙ ap (λ (ts : List Step). on_at_end a.device.on ts) (sym e);
      tape = tape_on s l ls w ws a.device b.device c.device did.may did.tape rest.tape;
      in_turn = (b, did, rest.in_turn);
      unfused = rest.unfused;
    }

-- the failed writes of no line
steady_none : (s : State) → [] ≡ steady_failures s []
unfolding steady_failures
steady_none s = refl

-- the tape of no line
tape_none : (s : State) (d : DeviceState) → PlayTape s [] [] d d
unfolding failures_of_tape
tape_none s d = record { entries = []; grows = grows_none d.tape; worn = refl; accounts = refl; left = refl }

-- a play of no line
pub played_none : (s : State) (a : Bench) → StandsForState a.device.words s → IsUnfused a.bench → Played s [] [] a a
played_none s a stands unfused =
    record {
      possible = tt;
      words = subst (λ (ts : List Step). StandsForState a.device.words (last_state s ts)) (sym (plays_none s)) stands;
      counts = subst (λ (ts : List Step). PlayCounts a.bench a.device (armed_stop_in s) ts a.bench a.device) (sym (plays_none s)) (counts_none a (armed_stop_in s));
      steady = λ steady. steady_none s;
      power = ap (λ (ts : List Step). on_at_end a.device.on ts) (sym (plays_none s));
      tape = tape_none s a.device;
      in_turn = refl;
      unfused = unfused;
    }

-- ---- texts

-- the texts of a line that was written, and of a play after it
pub ends_on : (f : Step → List ℕ) (x y z : Sunk) (rest : List (ℕ × DeckLine)) (t : Step) (ts : List Step) (r : Result (Unit {0}) WriteFault) → Writes x (f t) y → PlayEnds f y rest ts r z → PlayEnds f x rest (t ∷ ts) r z
ends_on f x y z rest t ts (Ok u) first h = (h.0, record { whole = grew_append x.taken y.taken z.taken (f t) (texts f ts) first.whole h.1.whole; counted = h.1.counted ∙ first.counted })
ends_on f x y z rest t ts (Err e) first h =
    record {
      before = t ∷ h.before;
      last = h.last;
      are = ap (λ (us : List Step). t ∷ us) h.are;
      front = h.front;
      back = h.back;
      parts = h.parts;
      some_left = h.some_left;
      written =
          subst (λ (bs : List ℕ). Grew x.taken z.taken bs) (sym (append_assoc (f t) (texts f h.before) h.front))
          (grew_append x.taken y.taken z.taken (f t) (texts f h.before ++ h.front) first.whole h.written);
      cause = rose_later x.faults y.faults z.faults (omega (arith, first.counted)) h.cause;
    }

-- the text of a line that was not wholly written
pub ends_cut : (f : Step → List ℕ) (x y : Sunk) (rest : List (ℕ × DeckLine)) (t : Step) (e : WriteFault) → Fails x (f t) y → PlayEnds f x rest (t ∷ []) (Err e) y
ends_cut f x y rest t e h =
    record {
      before = [];
      last = t;
      are = refl;
      front = h.part.front;
      back = h.part.rest;
      parts = h.part.parts;
      some_left = h.part.some_left;
      written = h.part.grew;
      cause = h.cause;
    }

-- ---- plays

-- a line that was played and written, and the play of the lines after it
pub from_on : (f : Step → List ℕ) (s : State) (l : ℕ × DeckLine) (w : Option FailedWrite) (ls : List (ℕ × DeckLine)) (a b c : Bench) (x y z : Sunk) (r : Result (Unit {0}) WriteFault) (old mid new : ℕ) → PlayedLine s l w (step s l w) a b → PlaySteps (step s l w ∷ []) old mid → Writes x (f (step s l w)) y
    → CountsFrom f (step s l w).after ls b y r c z mid new → CountsFrom f s (l ∷ ls) a x r c z old new
from_on f s l w ls a b c x y z r old mid new did steps wrote h =
    let k = h.from in
    let one = plays_on s l w k.lines k.worn in
    record {
      from =
          record {
            lines = l ∷ k.lines;
            rest = k.rest;
            are = ap (λ (ks : List (ℕ × DeckLine)). l ∷ ks) k.are;
            worn = w ∷ k.worn;
            played = played_on s l w k.lines k.worn a b c did k.played;
            text = subst (λ (ts : List Step). PlayEnds f x k.rest ts r z) (sym one) (ends_on f x y z k.rest (step s l w) _ r wrote k.text);
          };
      steps = steps_as (step s l w ∷ plays (step s l w).after k.lines k.worn) (plays s (l ∷ k.lines) (w ∷ k.worn)) old new (sym one) (steps_then (step s l w ∷ []) (plays (step s l w).after k.lines k.worn) old mid new steps h.steps);
    }

-- a line that was played, and whose text was not wholly written
pub from_cut : (f : Step → List ℕ) (s : State) (l : ℕ × DeckLine) (w : Option FailedWrite) (ls : List (ℕ × DeckLine)) (a b : Bench) (x y : Sunk) (e : WriteFault) (old new : ℕ) → PlayedLine s l w (step s l w) a b → PlaySteps (step s l w ∷ []) old new → StandsForState b.device.words (step s l w).after → IsUnfused b.bench
    → Fails x (f (step s l w)) y → CountsFrom f s (l ∷ ls) a x (Err e) b y old new
from_cut f s l w ls a b x y e old new did steps stands unfused failed =
    let all = plays_on s l w [] [] ∙ ap (λ (ts : List Step). step s l w ∷ ts) (plays_none (step s l w).after) in
    record {
      from =
          record {
            lines = l ∷ [];
            rest = ls;
            are = refl;
            worn = w ∷ [];
            played = played_on s l w [] [] a b b did (played_none (step s l w).after b stands unfused);
            text = subst (λ (ts : List Step). PlayEnds f x ls ts (Err e) y) (sym all) (ends_cut f x y ls (step s l w) e failed);
          };
      steps = steps_as (step s l w ∷ []) (plays s (l ∷ []) (w ∷ [])) old new (sym all) steps;
    }

-- no line is left
pub from_none : (f : Step → List ℕ) (s : State) (a : Bench) (x : Sunk) (old : ℕ) → StandsForState a.device.words s → IsUnfused a.bench → CountsFrom f s [] a x (Ok tt) a x old old
from_none f s a x old stands unfused =
    record {
      from = grind (arith, played_none, plays_none, grew_none);
      steps = steps_as [] (plays s [] []) old old (sym (plays_none s)) (steps_none old);
    }
