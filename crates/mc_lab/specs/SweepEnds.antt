-- A sweep line by line, and the ends of the call.
use Rattle.std.specs.Prelude.{◌≡◌, ℕ, ◌+◌, ◌*◌, ◌≤◌, ◌<◌, Bool, true, false, ◌&&◌, List, [], length, take, drop, Result, Ok, Err}
use Rattle.law_explore.specs.model_play.specs.Play.{armed_stop_in, is_card_line}
use Rattle.law_explore.specs.model_play.specs.DeckGrammar.{DeckLine}
use Rattle.law_explore.specs.model_play.specs.DeckGrammar as line
use Rattle.mc_text.specs.Texts.{Sunk, Writes, Fails}
use Rattle.mc_script.specs.declared.job.JobFault.{JobFault}
use Rattle.mc_script.specs.declared.job.JobFault.TheVariants as fault
use Rattle.mc_lab.specs.Sweeps.{state_on_blank, is_unarmed, is_swept, line_sweep, sweeps_with, are_fine, is_broken, MarksLeft, Row, Swept, sweep_behind, total, writes_behind, names_from}
use Rattle.mc_lab.specs.Remarks.{Remark}
use Rattle.mc_lab.specs.declared.sweep_marks.Pending.{Pending}
use Rattle.mc_lab.specs.declared.sweep_trial.Place.{Place}
use Rattle.mc_lab.specs.declared.sweep_text.Sums.{Sums}
use Rattle.mc_lab.specs.declared.sweep_word.SweepWord.{SweepWord}
use Rattle.mc_lab.specs.declared.sweep_line.Ends.{Ends}
use Rattle.mc_lab.specs.declared.sweep_line.Pair.{Pair}
use Rattle.mc_lab.specs.SweepBodies.{line_at, front_of, line_in, names_in, AccountsHaveRoom}

-- ---- lines

-- whether no stop is armed after a line, by whether none was before it
abbrev pub free_behind : DeckLine → Bool → Bool
free_behind (line.Cut k fill) free = false
free_behind (line.Fail k) free = false
free_behind line.Power free = true
free_behind (line.Sent sent) free = true
free_behind l free = free

-- whether a line after others is one to the card for which no stop is armed
abbrev pub is_open : List (ℕ × DeckLine) → ℕ × DeckLine → Bool
is_open front l = is_card_line l.1 && is_unarmed (armed_stop_in (state_on_blank front))

-- whether the line at a place of a deck is one to the card for which no stop is armed
abbrev pub is_open_at : List (ℕ × DeckLine) → ℕ → Bool
is_open_at ls i = is_open (take i ls) (line_at ls i)

-- each of the first `n` lines that may be swept makes at most `most` device writes
abbrev pub AtMost : List (ℕ × DeckLine) → ℕ → ℕ → Type 0
AtMost ls n most = (i : ℕ) → i < n → is_open_at ls i ≡ true → writes_behind (take i ls) (line_at ls i) ≤ most

-- a line that may be swept makes 4,294,967,295 device writes or more
abbrev pub HasTooMany : List (ℕ × DeckLine) → ℕ → Type 0
HasTooMany ls i = (is_open_at ls i ≡ true) × (4294967295 ≤ writes_behind (take i ls) (line_at ls i))

-- the swept line of a place, if it is swept
abbrev pub sweeps_at : Place → List Swept
sweeps_at p = sweeps_with (is_swept (front_of p) (line_in p)) (line_sweep (names_in p) (front_of p) (line_in p)) []

-- the swept lines among those from a place of a deck on
abbrev pub sweeps_from : List (List ℕ) → List (ℕ × DeckLine) → ℕ → List Swept
sweeps_from names ls i = sweep_behind names (take i ls) (drop i ls)

-- the marks that are left, as the definition has them
abbrev pub pending_value : List Remark → Pending → MarksLeft
pending_value marks p = record { last = p.last; left = drop p.next marks }

-- a swept line has this number and these words, and is broken or not
pub record IsLineOf (marks : List Remark) (s : Swept) (number : ℕ) (words : List SweepWord) (broken : Bool) : Type 0 where
  pub number_is : s.number ≡ number
  pub words_are : s.words ≡ words
  pub broken_is : broken ≡ is_broken marks s

-- whether rows are as marked, added to whether those before them are
abbrev pub AddsFine : List Remark → Bool → List Row → Bool → Type 0
AddsFine marks a rs b = b ≡ (a && are_fine marks rs)

-- ---- sums

-- sums after those of swept lines are added
pub record AddsSums (a : Sums) (ss : List Swept) (b : Sums) : Type 0 where
  pub lines : b.lines ≡ a.lines + length ss
  pub writes : b.writes ≡ a.writes + total (λ s. length s.words) ss
  pub plays : b.plays ≡ a.plays + total (λ s. s.plays) ss

-- bounds for the sums of `n` lines
pub record IsSmall (a : Sums) (n : ℕ) : Type 0 where
  pub lines : a.lines ≤ n
  pub writes : a.writes ≤ n * 4294967296
  pub plays : a.plays ≤ n * 562949953421312

-- ---- ends

-- the room for a sweep of a deck
pub record IsRoom (ls : List (ℕ × DeckLine)) (names : List (List ℕ)) (e : Ends) (p : Pair) (words : ℕ) : Type 0 where
  pub names_are : names ≡ names_from [] ls
  pub accounts : AccountsHaveRoom e p (length names)
  pub most : AtMost ls (length ls) words
  pub few : words ≤ 4294967295

-- the text was written, by the result of the call; without room nothing was
abbrev pub ReportsSweep : Sunk → List ℕ → Result Bool JobFault → Sunk → Type 0
ReportsSweep a text (Ok whole) b = Writes a text b
ReportsSweep a text (Err fault.WriteFault) b = Fails a text b
ReportsSweep a text (Err fault.NoMemory) b = b ≡ a
