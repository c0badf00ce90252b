-- The lines of a deck that are swept one by one, and their text.
use Rattle.std.specs.Prelude.{◌≡◌, ℕ, ◌+◌, ◌<◌, ◌≤◌, Bool, true, false, ◌&&◌, nat_le, List, [], ◌∷◌, ◌++◌, length, map, take, drop, slice_get, Option, Some, None, refl}
use Rattle.std.proofs.Common.{arith, ap, sym, subst, ◌∙◌, length-append}
use Rattle.std.proofs.lemmas.Bool.{le-leb, cases_lt, and_from, and_left, and_parts}
use Rattle.std.proofs.Math.ListN.{drop_of_length-le}
use Rattle.law_explore.specs.model_device.specs.Card.{Card}
use Rattle.law_explore.specs.model_play.specs.Play.{Live, Warm, State, BeforePower, AfterPower, FailedWrite, step, card_line, hit_of, play_at_power, power_moves, power_after, stopped_power, line_after, armed_stop_in, is_card_line, plays, steady_failures}
use Rattle.law_explore.specs.model_device.specs.PowerUp.{Base}
use Rattle.law_explore.specs.model_card.specs.Commands.{Command}
use Rattle.law_explore.specs.model_card.specs.Items.{StopAt}
use Rattle.law_explore.specs.model_play.specs.DeckGrammar.{DeckLine}
use Rattle.law_explore.specs.model_play.specs.DeckGrammar as line
use Rattle.law_explore.specs.model_device.proofs.ListLemmas.{length_map as map-length}
use Rattle.mc_lab.specs.Remarks.{Remark}
use Rattle.mc_lab.specs.declared.sweep_trial.Place.{Place}
use Rattle.mc_lab.specs.declared.sweep_text.Sums.{Sums}
use Rattle.mc_lab.specs.declared.sweep_word.SweepWord.{SweepWord}
use Rattle.mc_lab.specs.Sweeps.{state_on_blank, state_after_lines, count_from, is_unarmed, is_swept, line_sweep, sweeps_with, all_marks, are_fine, rows_of, rows_text, Swept, plays_of, sweep, sweep_behind, sweep_text, sums_text, text_of, names_from, total, writes_behind, is_broken_at, is_whole}
use Rattle.mc_lab.specs.SweepBodies.{line_at, front_of, line_in, names_in, cut_write_at, writes_in, IsUnarmedLine}
use Rattle.mc_lab.specs.SweepEnds.{free_behind, is_open, is_open_at, sweeps_at, sweeps_from, AddsSums, AtMost, IsLineOf}
use Rattle.mc_lab.proofs.SweepPlays.{played_one}
use Rattle.mc_lab.proofs.SweepPlayers.{take_one}
use Rattle.mc_lab.proofs.SweepLoops.{counted_length, SweptAs}
use Rattle.law_explore.specs.model_device.proofs.BoolLemmas.{and_false}
use Rattle.std.proofs.lemmas.Option.{slice_get-get_or}
use Rattle.mc_lab.proofs.BelowLemmas.{drop_at}

-- ---- stops that are armed

stopped_free : (s : Warm) (t : StopAt) (b : Bool) → is_unarmed (stopped_power s t b).armed ≡ true
stopped_free s t true = refl
stopped_free s t false = refl

power_free : (s : Warm) (t : Option StopAt) → is_unarmed (power_after s t).armed ≡ true
power_free s None = refl
power_free s (Some t) = stopped_free s t (nat_le t.at s.owed)

command_free : (s : Warm) (c : Card) (r : Command) (t : Option StopAt) → is_unarmed (line_after s c r t).armed ≡ true
command_free s c r None = refl
command_free s c r (Some t) = refl

card_free : (n : ℕ) (l : DeckLine) (s : Warm) (live : Live) (base : Base) (w : Option FailedWrite) → is_unarmed (armed_stop_in (card_line n l s live base w).after) ≡ true
card_free n l s live base w = grind (arith, command_free)

free_step : (s : State) (n : ℕ) (l : DeckLine) (w : Option FailedWrite) → is_unarmed (armed_stop_in (step s (n, l) w).after) ≡ free_behind l (is_unarmed (armed_stop_in s))
unfolding step
free_step (BeforePower m b a) n line.Power w = power_free (play_at_power m b a) (hit_of a (power_moves (play_at_power m b a)) w)
free_step (AfterPower s) n line.Power w = power_free s (hit_of s.armed (power_moves s) w)
free_step (AfterPower s) n (line.Sent sent) w = card_free n (line.Sent sent) s s.live s.base w
free_step (BeforePower m b a) n _ w = refl
free_step (AfterPower s) n _ w = refl

-- before the first line no stop is armed
pub free_start : (ls : List (ℕ × DeckLine)) → true ≡ is_unarmed (armed_stop_in (state_on_blank (take 0 ls)))
unfolding state_after_lines plays steady_failures
free_start ls = refl

-- whether a stop is armed after a line follows from the line and what was before it
pub free_on : (ls : List (ℕ × DeckLine)) (i n : ℕ) (l : DeckLine) (free : Bool) → slice_get ls i ≡ Some (n, l) → free ≡ is_unarmed (armed_stop_in (state_on_blank (take i ls)))
    → free_behind l free ≡ is_unarmed (armed_stop_in (state_on_blank (take (i + 1) ls)))
free_on ls i n l free here is =
    ap (λ (b : Bool). free_behind l b) is
    ∙ sym (free_step (state_on_blank (take i ls)) n l _)
    ∙ sym (ap (λ (x : List (ℕ × DeckLine)). is_unarmed (armed_stop_in (state_on_blank x))) (take_one i ls (n, l) here) ∙ ap (λ (s : State). is_unarmed (armed_stop_in s)) (played_one (take i ls) (n, l)))

-- whether no stop is armed after the first lines
abbrev pub is_free_at : List (ℕ × DeckLine) → ℕ → Bool
is_free_at ls i = is_unarmed (armed_stop_in (state_on_blank (take i ls)))

-- a line that leaves it as it was
pub free_same : (ls : List (ℕ × DeckLine)) (i k n : ℕ) (l : DeckLine) → k ≡ i + 1 → slice_get ls i ≡ Some (n, l) → ((b : Bool) → free_behind l b ≡ b) → is_free_at ls k ≡ is_free_at ls i
free_same ls i k n l next here h = ap (is_free_at ls) next ∙ sym (free_on ls i n l (is_free_at ls i) here refl) ∙ h (is_free_at ls i)

-- a line that decides it
pub free_decided : (ls : List (ℕ × DeckLine)) (i k n : ℕ) (l : DeckLine) (free : Bool) → k ≡ i + 1 → slice_get ls i ≡ Some (n, l) → ((b : Bool) → free_behind l b ≡ free) → is_free_at ls k ≡ free
free_decided ls i k n l free next here h = ap (is_free_at ls) next ∙ sym (free_on ls i n l (is_free_at ls i) here refl) ∙ h (is_free_at ls i)

-- ---- lines that may be swept

-- a place that is open is a line without an armed stop
pub open_is : (p : Place) → is_open_at p.deck.now p.at ≡ true → IsUnarmedLine p
open_is p h = grind (arith, and_parts)

-- a line that is not sent to the card is not open
pub shut_card : (front : List (ℕ × DeckLine)) (l : ℕ × DeckLine) → is_card_line l.1 ≡ false → is_open front l ≡ false
shut_card front l h = and_left (is_card_line l.1) (is_unarmed (armed_stop_in (state_on_blank front))) h

-- a line after which a stop is armed is not open
pub shut_armed : (front : List (ℕ × DeckLine)) (l : ℕ × DeckLine) → is_unarmed (armed_stop_in (state_on_blank front)) ≡ false → is_open front l ≡ false
shut_armed front l h = ap (λ (b : Bool). is_card_line l.1 && b) h ∙ and_false (is_card_line l.1)

-- a line to the card with no stop armed is open
pub open_both : (front : List (ℕ × DeckLine)) (l : ℕ × DeckLine) → is_card_line l.1 ≡ true → is_unarmed (armed_stop_in (state_on_blank front)) ≡ true → is_open front l ≡ true
open_both front l card free = and_from (is_card_line l.1) (is_unarmed (armed_stop_in (state_on_blank front))) card free

swept_true : (p : Place) → IsUnarmedLine p → 1 ≤ writes_in p → is_swept (front_of p) (line_in p) ≡ true
swept_true p o some = and_from (is_open (front_of p) (line_in p)) (nat_le 1 (writes_in p)) (open_both (front_of p) (line_in p) o.card o.unarmed) (le-leb 1 (writes_in p) some)

swept_false : (p : Place) → writes_in p ≡ 0 → is_swept (front_of p) (line_in p) ≡ false
swept_false p none = ap (λ (n : ℕ). is_open (front_of p) (line_in p) && nat_le 1 n) none ∙ and_false (is_open (front_of p) (line_in p))

not_swept : (p : Place) → is_swept (front_of p) (line_in p) ≡ false → [] ≡ sweeps_at p
not_swept p h = sym (ap (λ (b : Bool). sweeps_with b (line_sweep (names_in p) (front_of p) (line_in p)) []) h)

-- a line that writes nothing is not swept
pub none_swept : (p : Place) → writes_in p ≡ 0 → [] ≡ sweeps_at p
none_swept p none = not_swept p (swept_false p none)

-- ---- the greatest number of writes

-- the most writes of the lines up to one bound those up to the next
pub most_more : (ls : List (ℕ × DeckLine)) (n most w new : ℕ) → AtMost ls n most → (is_open_at ls n ≡ true → writes_behind (take n ls) (line_at ls n) ≤ w) → most ≤ new → w ≤ new → AtMost ls (n + 1) new
most_more ls n most w new so_far here old now i lt is_open_there = grind (arith, cases_lt)

-- ---- sums

-- no swept line adds nothing to the sums
pub adds_none : (a : Sums) (ss : List Swept) → [] ≡ ss → AddsSums a ss a
adds_none a ss none = subst (λ (ts : List Swept). AddsSums a ts a) none (record { lines = omega arith; writes = omega arith; plays = omega arith })

total_append : (f : Swept → ℕ) (xs ys : List Swept) → total f (xs ++ ys) ≡ total f xs + total f ys
total_append f [] ys = omega arith
total_append f (x ∷ xs) ys = let e = total_append f xs ys in omega (arith, e)

-- the sums of two lists of swept lines add up
pub adds_on : (a b c : Sums) (xs ys : List Swept) → AddsSums a xs b → AddsSums b ys c → AddsSums a (xs ++ ys) c
adds_on a b c xs ys one rest = grind (arith, length-append xs ys, total_append (λ s. length s.words) xs ys, total_append (λ s. s.plays) xs ys)

-- ---- a line that was swept

swept_is : (p : Place) → line_sweep (names_in p) (front_of p) (line_in p)
    ≡ record { number = (line_in p).0; words = map (λ t. t.word) (map (cut_write_at p) (count_from 1 (writes_in p))); plays = plays_of (map (cut_write_at p) (count_from 1 (writes_in p))) }
unfolding line_sweep
swept_is p = refl

-- the swept line, by its number, its words and its plays
one_swept : (p : Place) (number n : ℕ) (words : List SweepWord) (plays : ℕ) → number ≡ (line_in p).0 → SweptAs p n words plays → IsUnarmedLine p → 1 ≤ n
    → sweeps_at p ≡ record { number = number; words = take n words; plays = plays } ∷ []
one_swept p number n words plays is s o some = grind (arith, swept_true, swept_is)

-- the swept line of a place
pub place_line : (p : Place) (number n : ℕ) (words : List SweepWord) (plays : ℕ) → number ≡ (line_in p).0 → SweptAs p n words plays → IsUnarmedLine p → 1 ≤ n
    → (s : Swept) × (sweeps_at p ≡ s ∷ []) × (s.number ≡ number) × (s.words ≡ take n words)
place_line p number n words plays is s o some = (record { number = number; words = take n words; plays = plays }, one_swept p number n words plays is s o some, refl, refl)

-- the words of a place are those of its swept line
pub line_of_place : (marks : List Remark) (s : Swept) (number n : ℕ) (words : List SweepWord) (broken : Bool) → s.number ≡ number → s.words ≡ take n words → broken ≡ is_broken_at marks number (take n words)
    → IsLineOf marks s number (take n words) broken
line_of_place marks s number n words broken k w b =
    record { number_is = k; words_are = w; broken_is = b ∙ ap (λ (i : ℕ). is_broken_at marks i (take n words)) (sym k) ∙ ap (λ (ws : List SweepWord). is_broken_at marks s.number ws) (sym w) }

taken_length : (p : Place) (n : ℕ) (words : List SweepWord) (plays : ℕ) → SweptAs p n words plays → length (take n words) ≡ n
taken_length p n words plays s =
    ap length s.words_are ∙ map-length (λ t. t.word) (map (cut_write_at p) (count_from 1 (writes_in p))) ∙ counted_length (cut_write_at p) (writes_in p) ∙ sym s.writes

-- a swept line adds one line, its writes and its plays to the sums
pub place_adds : (p : Place) (number n : ℕ) (words : List SweepWord) (plays : ℕ) (a b : Sums) → number ≡ (line_in p).0 → SweptAs p n words plays → IsUnarmedLine p → 1 ≤ n
    → b.lines ≡ a.lines + 1 → b.writes ≡ a.writes + n → b.plays ≡ a.plays + plays → AddsSums a (sweeps_at p) b
place_adds p number n words plays a b is s o some x y z = grind (arith, taken_length, one_swept)

-- ---- the rest of the lines

swept_split : (b : Bool) (s : Swept) (rest : List Swept) → sweeps_with b s rest ≡ sweeps_with b s [] ++ rest
swept_split true s rest = refl
swept_split false s rest = refl

behind_line : (names : List (List ℕ)) (front : List (ℕ × DeckLine)) (l : ℕ × DeckLine) (ls : List (ℕ × DeckLine))
    → sweep_behind names front (l ∷ ls) ≡ sweeps_with (is_swept front l) (line_sweep names front l) (sweep_behind names (front ++ l ∷ []) ls)
unfolding sweep_behind
behind_line names front l ls = refl

behind_none : (names : List (List ℕ)) (front : List (ℕ × DeckLine)) → sweep_behind names front [] ≡ []
unfolding sweep_behind
behind_none names front = refl

left_by : (names : List (List ℕ)) (ls : List (ℕ × DeckLine)) (i : ℕ) (x : ℕ × DeckLine) → slice_get ls i ≡ Some x
    → sweeps_from names ls i ≡ sweeps_with (is_swept (take i ls) x) (line_sweep names (take i ls) x) [] ++ sweeps_from names ls (i + 1)
left_by names ls i x here =
    ap (λ (l : List (ℕ × DeckLine)). sweep_behind names (take i ls) l) (drop_at ls i x here)
    ∙ behind_line names (take i ls) x (drop (i + 1) ls)
    ∙ swept_split (is_swept (take i ls) x) (line_sweep names (take i ls) x) (sweep_behind names (take i ls ++ x ∷ []) (drop (i + 1) ls))
    ∙ ap (λ (f : List (ℕ × DeckLine)). sweeps_with (is_swept (take i ls) x) (line_sweep names (take i ls) x) [] ++ sweep_behind names f (drop (i + 1) ls)) (sym (take_one i ls x here))

-- the swept line at a place, if it is swept
abbrev pub swept_at : List (List ℕ) → List (ℕ × DeckLine) → ℕ → List Swept
swept_at names ls i = sweeps_with (is_swept (take i ls) (line_at ls i)) (line_sweep names (take i ls) (line_at ls i)) []

-- the swept lines from a place on are its own and those after it
pub left_step : (names : List (List ℕ)) (ls : List (ℕ × DeckLine)) (i : ℕ) → i < length ls → sweeps_from names ls i ≡ swept_at names ls i ++ sweeps_from names ls (i + 1)
left_step names ls i h = left_by names ls i (line_at ls i) (slice_get-get_or ls i (0, line.Named) h)

-- no swept line is left past the last line
pub left_none : (names : List (List ℕ)) (ls : List (ℕ × DeckLine)) (i : ℕ) → length ls ≤ i → [] ≡ sweeps_from names ls i
left_none names ls i h = sym (ap (λ (l : List (ℕ × DeckLine)). sweep_behind names (take i ls) l) (drop_of_length-le ls h) ∙ behind_none names (take i ls))

-- ---- the whole text

module _ (marks : List Remark) (ls : List (ℕ × DeckLine)) (names : List (List ℕ)) (is : names ≡ names_from [] ls) where
  abbrev all_swept : List Swept
  all_swept = sweeps_from names ls 0

  -- the text of all swept lines is that of the sweep
  pub text_whole : text_of marks all_swept ≡ sweep_text marks ls
  unfolding sweep_text sweep
  text_whole = ap (λ (ns : List (List ℕ)). text_of marks (sweep_behind ns [] ls)) is

  -- each line that must be whole is, and each mark is of a swept line
  pub whole_is : (b : Bool) → b ≡ are_fine marks (rows_of (all_marks marks) all_swept) → b ≡ is_whole marks ls
  unfolding is_whole sweep
  whole_is b e = e ∙ ap (λ (ns : List (List ℕ)). are_fine marks (rows_of (all_marks marks) (sweep_behind ns [] ls))) is

  -- the rows and the sums that were written are the text of the sweep
  pub text_is : (a b : Sums) → a.lines ≡ 0 → a.writes ≡ 0 → a.plays ≡ 0 → AddsSums a all_swept b
      → rows_text marks (rows_of (all_marks marks) all_swept) ++ sums_text b.lines b.writes b.plays ≡ sweep_text marks ls
  text_is a b x y z adds = grind (arith, text_whole)
