-- Sweeps: power cut in every device write of every line of a deck, and in every write of the recovery after it, and the
-- observed states of the card.
use Rattle.std.specs.Prelude.{ℕ, zero, suc, ◌+◌, Bool, true, false, cond, not, ◌&&◌, ◌||◌, nat_le, nat_lt, ◌==◌, List, [], ◌∷◌, ◌++◌, length, map, replicate, bytes_eq, codes, decimal, Option, Some, None, option_map}
use Rattle.law_explore.specs.model_device.specs.declared.cause.Cause.{Cause}
use Rattle.law_explore.specs.model_device.specs.Bytes.{zeros, has_name, lookup}
use Rattle.law_explore.specs.model_device.specs.Device.{blank_words, device_words}
use Rattle.law_explore.specs.model_device.specs.Card.{App}
use Rattle.law_explore.specs.model_play.specs.Play.{Armed, Unarmed, ArmedCut, ArmedFail, Live, Running, State, BeforePower, AfterPower, Step, LineResult, Unusable, start, step, plays, steady_failures, steady_at, last_state, moves_of, armed_stop_in, is_card_line}
use Rattle.law_explore.specs.model_device.specs.PowerUp.{Base, OnCard}
use Rattle.law_explore.specs.model_device.specs.Words.{cause_text}
use Rattle.law_explore.specs.model_play.specs.DeckGrammar.{DeckLine}
use Rattle.law_explore.specs.model_play.specs.DeckGrammar as line
use Rattle.mc_lab.specs.Remarks.{Remark}
use Rattle.mc_lab.specs.declared.sweep_word.SweepWord.{SweepWord}
use Rattle.mc_lab.specs.declared.sweep_word.SweepWord.TheVariants.{Before, After, Same, Between, Torn}

-- ---- plays

-- the step of a line from a state, on a device whose only failed writes are those of `fail` lines
abbrev pub steady_step : State → ℕ × DeckLine → Step
steady_step s l = step s l (steady_at (armed_stop_in s) l.1 (moves_of s l))

-- the state after lines that are played from a state
unfoldable pub state_after_lines : State → List (ℕ × DeckLine) → State
state_after_lines s ls = last_state s (plays s ls (steady_failures s ls))

-- the state after lines that are played on a blank device
abbrev pub state_on_blank : List (ℕ × DeckLine) → State
state_on_blank ls = state_after_lines (start (blank_words device_words)) ls

-- ---- the observed state of a card

-- the names that a line mentions
abbrev pub names_in_line : DeckLine → List (List ℕ)
names_in_line (line.Sent (line.Load u fixed session)) = u.aid ∷ []
names_in_line (line.Sent (line.Select n)) = n ∷ []
names_in_line (line.Sent (line.Delete n)) = n ∷ []
names_in_line (line.Dump n) = n ∷ []
names_in_line _ = []

-- names, and those of some others that are new
abbrev pub with_names : List (List ℕ) → List (List ℕ) → List (List ℕ)
with_names names [] = names
with_names names (n ∷ ns) = with_names (cond (has_name n names) names (names ++ n ∷ [])) ns

-- the names of a deck, in order of first mention, after those that were mentioned before
abbrev pub names_from : List (List ℕ) → List (ℕ × DeckLine) → List (List ℕ)
names_from names [] = names
names_from names (l ∷ ls) = names_from (with_names names (names_in_line l.1)) ls

-- the observed state after a power line without a cut: the static bytes under each name, `None` if it is absent; or why
-- the words are not a card
pub data ReportedState : Type 0 where
  Holds : (held : List (Option (List ℕ))) → ReportedState
  NoCard : (cause : Cause) (place : ℕ) → ReportedState

-- the static bytes under each name
abbrev pub static_bytes_under : List (List ℕ) → List (List ℕ × App) → List (Option (List ℕ))
static_bytes_under names apps = map (λ n. option_map (λ a. a.fixed) (lookup apps n)) names

-- the applications of a card that runs; none if no card runs
abbrev pub running_apps : Live → Base → List (List ℕ × App)
running_apps (Running session_state) (OnCard c) = c.apps
running_apps live base = []

-- the applications of a card that runs in a state of a play
abbrev pub running_in : State → List (List ℕ × App)
running_in (BeforePower m b a) = []
running_in (AfterPower s) = running_apps s.live s.base

-- the observed state after a power line, by its result
abbrev pub state_by_result : List (List ℕ) → Option LineResult → State → ReportedState
state_by_result names (Some (Unusable cause place)) s = NoCard cause place
state_by_result names r s = Holds (static_bytes_under names (running_in s))

-- the observed state after the step of a power line
abbrev pub state_of_step : List (List ℕ) → Step → ReportedState
state_of_step names t = state_by_result names t.result t.after

-- the observed state after lines and a power line without a cut
unfoldable pub state_after_power : List (List ℕ) → List (ℕ × DeckLine) → ReportedState
unfolding state_after_lines
state_after_power names ls = state_of_step names (steady_step (state_on_blank ls) (0, line.Power))

-- equal static bytes, or both absent
abbrev pub is_same_held : Option (List ℕ) → Option (List ℕ) → Bool
is_same_held None None = true
is_same_held (Some a) (Some b) = bytes_eq a b
is_same_held None (Some b) = false
is_same_held (Some a) None = false

-- equal static bytes under each name
abbrev pub are_same_held : List (Option (List ℕ)) → List (Option (List ℕ)) → Bool
are_same_held [] [] = true
are_same_held (x ∷ xs) (y ∷ ys) = is_same_held x y && are_same_held xs ys
are_same_held [] (y ∷ ys) = false
are_same_held (x ∷ xs) [] = false

-- equal observed states
abbrev pub is_same : ReportedState → ReportedState → Bool
is_same (Holds a) (Holds b) = are_same_held a b
is_same (NoCard c p) (NoCard d q) = bytes_eq (cause_text c) (cause_text d) && (p == q)
is_same (Holds a) (NoCard d q) = false
is_same (NoCard c p) (Holds b) = false

-- ---- words

-- the word of a state, by whether it is the state before, and whether it is the state after
abbrev pub word_by : Bool → Bool → SweepWord
word_by true false = Before
word_by false true = After
word_by true true = Same
word_by false false = Between

-- whether all states are equal to the first
abbrev pub all_same : ReportedState → List ReportedState → Bool
all_same t [] = true
all_same t (u ∷ us) = is_same u t && all_same t us

-- a word, or `torn` if the states differ
abbrev pub word_if : Bool → SweepWord → SweepWord
word_if true w = w
word_if false w = Torn

-- the word of a write, by the state before, the state after, its first state and its other states
abbrev pub word_of : ReportedState → ReportedState → ReportedState → List ReportedState → SweepWord
word_of before after t ts = word_if (all_same t ts) (word_by (is_same t before) (is_same t after))

-- ---- the plays of a swept line

-- n numbers from k on
abbrev pub count_from : ℕ → ℕ → List ℕ
count_from k zero = []
count_from k (suc n) = k ∷ count_from (k + 1) n

-- the other word that a cut leaves: eight bytes FF
abbrev pub ones : List ℕ
ones = replicate 8 0xFF

-- the statement that arms a cut, with the number of a line
abbrev pub cut_statement : ℕ → ℕ → List ℕ → ℕ × DeckLine
cut_statement n k fill = (n, line.Cut k fill)

-- a power statement, with the number of a line
abbrev pub power : ℕ → ℕ × DeckLine
power n = (n, line.Power)

-- the lines before a line, and that line with its write `k` cut
abbrev pub under_cut : List (ℕ × DeckLine) → ℕ × DeckLine → ℕ → List ℕ → List (ℕ × DeckLine)
under_cut front l k fill = front ++ cut_statement l.0 k fill ∷ l ∷ []

-- those lines, and a power line after them whose write `j` is cut
abbrev pub under_cuts : List (ℕ × DeckLine) → ℕ × DeckLine → ℕ → List ℕ → ℕ → List (ℕ × DeckLine)
under_cuts front l k fill j = under_cut front l k fill ++ cut_statement l.0 j fill ∷ power l.0 ∷ []

-- the number of device writes of a line after others
abbrev pub writes_behind : List (ℕ × DeckLine) → ℕ × DeckLine → ℕ
writes_behind front l = moves_of (state_on_blank front) l

-- the observed states after a cut if the recovery after it is cut too, in each of its writes
abbrev pub recovery_states : List (List ℕ) → List (ℕ × DeckLine) → ℕ × DeckLine → ℕ → List ℕ → List ReportedState
recovery_states names front l k fill =
    map (λ j. state_after_power names (under_cuts front l k fill j)) (count_from 1 (writes_behind (under_cut front l k fill) (power l.0)))

-- the cut of one write: its word, and the number of plays that determine it
pub record Tried : Type 0 where
  pub word : SweepWord
  pub plays : ℕ

-- the cut of one write, by the state before, the state after, its first state and its other states
abbrev pub cut_write_of : ReportedState → ReportedState → ReportedState → List ReportedState → Tried
cut_write_of before after t ts = record { word = word_of before after t ts; plays = length ts + 1 }

-- the cut of one write of a line, with eight bytes 00 and with eight bytes FF
unfoldable pub cut_write : List (List ℕ) → List (ℕ × DeckLine) → ℕ × DeckLine → ReportedState → ReportedState → ℕ → Tried
unfolding state_after_power state_after_lines
cut_write names front l before after k =
    cut_write_of before after (state_after_power names (under_cut front l k (zeros 8)))
    (recovery_states names front l k (zeros 8) ++ state_after_power names (under_cut front l k ones) ∷ recovery_states names front l k ones)

-- ---- a deck

-- the number of plays of some writes
abbrev pub plays_of : List Tried → ℕ
plays_of [] = 0
plays_of (t ∷ ts) = t.plays + plays_of ts

-- a swept line: its number, the words of its writes in order, and the number of plays that determine them
pub record Swept : Type 0 where
  pub number : ℕ
  pub words : List SweepWord
  pub plays : ℕ

-- the swept line of a number, by its writes
abbrev pub sweep_of_writes : ℕ → List Tried → Swept
sweep_of_writes n ts = record { number = n; words = map (λ t. t.word) ts; plays = plays_of ts }

-- the swept line of a line after others
unfoldable pub line_sweep : List (List ℕ) → List (ℕ × DeckLine) → ℕ × DeckLine → Swept
unfolding state_after_power cut_write state_after_lines
line_sweep names front l =
    let before = state_after_power names front in
    let after = state_after_power names (front ++ l ∷ []) in
    sweep_of_writes l.0 (map (cut_write names front l before after) (count_from 1 (writes_behind front l)))

-- whether no stop is armed
abbrev pub is_unarmed : Armed → Bool
is_unarmed Unarmed = true
is_unarmed (ArmedCut k fill) = false
is_unarmed (ArmedFail k) = false

-- whether a line is swept: it is a card line, no stop is armed for it, and it makes a device write
abbrev pub is_swept : List (ℕ × DeckLine) → ℕ × DeckLine → Bool
is_swept front l = is_card_line l.1 && is_unarmed (armed_stop_in (state_on_blank front)) && nat_le 1 (writes_behind front l)

-- a line before others, if it is swept
abbrev pub sweeps_with : Bool → Swept → List Swept → List Swept
sweeps_with true s rest = s ∷ rest
sweeps_with false s rest = rest

-- the swept lines of the rest of a deck
unfoldable pub sweep_behind : List (List ℕ) → List (ℕ × DeckLine) → List (ℕ × DeckLine) → List Swept
unfolding line_sweep state_after_lines
sweep_behind names front [] = []
sweep_behind names front (l ∷ ls) =
    let s = line_sweep names front l in
    let rest = sweep_behind names (front ++ l ∷ []) ls in
    sweeps_with (is_swept front l) s rest

-- the swept lines of a deck
unfoldable pub sweep : List (ℕ × DeckLine) → List Swept
unfolding sweep_behind
sweep ls = sweep_behind (names_from [] ls) [] ls

-- ---- the text

-- the text of a word
abbrev pub word_text : SweepWord → List ℕ
word_text Before = codes "before"
word_text After = codes "after"
word_text Same = codes "same"
word_text Between = codes "between"
word_text Torn = codes "torn"

-- whether two words are equal
abbrev pub is_word : SweepWord → SweepWord → Bool
is_word v w = bytes_eq (word_text v) (word_text w)

-- a run: consecutive writes of one word, from the first to the last
pub record Run : Type 0 where
  pub first : ℕ
  pub last : ℕ
  pub word : SweepWord

-- a write before runs
abbrev pub with_write : ℕ → SweepWord → List Run → List Run
with_write k w [] = record { first = k; last = k; word = w } ∷ []
with_write k w (r ∷ rs) = cond (is_word w r.word) (record r { first = k } ∷ rs) (record { first = k; last = k; word = w } ∷ r ∷ rs)

-- the longest runs of the writes from write `k` on
abbrev pub runs : ℕ → List SweepWord → List Run
runs k [] = []
runs k (w ∷ ws) = with_write k w (runs (k + 1) ws)

-- the text of a run
abbrev pub run_text : Run → List ℕ
run_text r = codes " " ++ word_text r.word ++ codes " " ++ decimal r.first ++ codes "-" ++ decimal r.last

-- the text of runs
abbrev pub runs_text : List Run → List ℕ
runs_text [] = []
runs_text (r ∷ rs) = run_text r ++ runs_text rs

-- whether a remark is about the line with a number
abbrev pub has_mark : ℕ → List Remark → Bool
has_mark n [] = false
has_mark n (m ∷ ms) = (m.above.0 == n) || has_mark n ms

-- whether a word is `between`
abbrev pub is_between : SweepWord → Bool
is_between Between = true
is_between w = false

-- whether one of some words is
abbrev pub has_between : List SweepWord → Bool
has_between [] = false
has_between (w ∷ ws) = is_between w || has_between ws

-- whether the line with a number must be whole, by the marks `#! whole` of a deck, and one of its words is `between`
abbrev pub is_broken_at : List Remark → ℕ → List SweepWord → Bool
is_broken_at marks n ws = has_mark n marks && has_between ws

-- whether a swept line must be whole, and is not
abbrev pub is_broken : List Remark → Swept → Bool
is_broken marks s = is_broken_at marks s.number s.words

-- the end of a swept line
abbrev pub line_end : Bool → List ℕ
line_end true = codes " not whole\n"
line_end false = codes "\n"

-- the text of a swept line
abbrev pub swept_text : List Remark → Swept → List ℕ
swept_text marks s = codes "line " ++ decimal s.number ++ codes " writes " ++ decimal (length s.words) ++ codes ":" ++ runs_text (runs 1 s.words) ++ line_end (is_broken marks s)

-- ---- marks

-- the marks `#! whole` that are left of a deck, in the order of their lines, and the last swept line above them
pub record MarksLeft : Type 0 where
  pub last : Option ℕ
  pub left : List Remark

-- a row of a sweep's text: a swept line, or the line of a mark that is of no swept line
pub data Row : Type 0 where
  SweptRow : Swept → Row
  MarkRow : ℕ → Row

-- whether a mark is of a swept line: its statement is the last of them above it
abbrev pub is_guarded : Option ℕ → Remark → Bool
is_guarded None m = false
is_guarded (Some n) m = m.above.0 == n

-- whether a mark is above the line with a number; each is above the end of a deck
abbrev pub is_above : Option ℕ → Remark → Bool
is_above None m = true
is_above (Some n) m = nat_lt m.number n

-- the row of a mark before others, unless it is of a swept line
abbrev pub row_unless : Bool → ℕ → List Row → List Row
row_unless true n rs = rs
row_unless false n rs = MarkRow n ∷ rs

-- some rows, or none
abbrev pub rows_if : Bool → List Row → List Row
rows_if true rs = rs
rows_if false rs = []

-- the rows of the marks above a line that are of no swept line, by the last swept line above them
abbrev pub rows_above : Option ℕ → Option ℕ → List Remark → List Row
rows_above number last [] = []
rows_above number last (m ∷ ms) = rows_if (is_above number m) (row_unless (is_guarded last m) m.number (rows_above number last ms))

-- the marks that are left, or those after the first
abbrev pub left_if : Bool → List Remark → List Remark → List Remark
left_if true behind ms = behind
left_if false behind ms = ms

-- the marks that are left after those above a line
abbrev pub left_behind : Option ℕ → List Remark → List Remark
left_behind number [] = []
left_behind number (m ∷ ms) = left_if (is_above number m) (left_behind number ms) (m ∷ ms)

-- the rows of swept lines and of the marks above them
abbrev pub rows_to : MarksLeft → List Swept → List Row
rows_to q [] = []
rows_to q (s ∷ ss) =
    rows_above (Some s.number) q.last q.left ++ SweptRow s ∷ rows_to (record { last = Some s.number; left = left_behind (Some s.number) q.left }) ss

-- the marks that are left after swept lines
abbrev pub marks_after : MarksLeft → List Swept → MarksLeft
marks_after q [] = q
marks_after q (s ∷ ss) = marks_after (record { last = Some s.number; left = left_behind (Some s.number) q.left }) ss

-- the rows of swept lines and of all marks that are left
abbrev pub rows_of : MarksLeft → List Swept → List Row
rows_of q ss =
    let r = marks_after q ss in
    rows_to q ss ++ rows_above None r.last r.left

-- all marks of a deck
abbrev pub all_marks : List Remark → MarksLeft
all_marks marks = record { last = None; left = marks }

-- the line of a mark that is of no swept line
abbrev pub mark_text : ℕ → List ℕ
mark_text n = codes "line " ++ decimal n ++ codes " not swept\n"

-- the text of a row
abbrev pub row_text : List Remark → Row → List ℕ
row_text marks (SweptRow s) = swept_text marks s
row_text marks (MarkRow n) = mark_text n

-- the text of rows
abbrev pub rows_text : List Remark → List Row → List ℕ
rows_text marks [] = []
rows_text marks (r ∷ rs) = row_text marks r ++ rows_text marks rs

-- whether a row is as the marks want it: a swept line that is whole, or need not be
abbrev pub is_fine : List Remark → Row → Bool
is_fine marks (SweptRow s) = not (is_broken marks s)
is_fine marks (MarkRow n) = false

-- whether all rows are
abbrev pub are_fine : List Remark → List Row → Bool
are_fine marks [] = true
are_fine marks (r ∷ rs) = is_fine marks r && are_fine marks rs

-- a sum over swept lines
abbrev pub total : (Swept → ℕ) → List Swept → ℕ
total f [] = 0
total f (s ∷ ss) = f s + total f ss

-- the text of the sums: lines, writes and plays
abbrev pub sums_text : ℕ → ℕ → ℕ → List ℕ
sums_text lines writes plays = codes "swept " ++ decimal lines ++ codes " writes " ++ decimal writes ++ codes " plays " ++ decimal plays ++ codes "\n"

-- the text of a sweep
abbrev pub text_of : List Remark → List Swept → List ℕ
text_of marks ss = rows_text marks (rows_of (all_marks marks) ss) ++ sums_text (length ss) (total (λ s. length s.words) ss) (total (λ s. s.plays) ss)

-- the text of a sweep of a deck, with its marks `#! whole`
unfoldable pub sweep_text : List Remark → List (ℕ × DeckLine) → List ℕ
unfolding sweep
sweep_text marks ls = text_of marks (sweep ls)

-- whether each line of a deck that must be whole is, and each mark is of a swept line
unfoldable pub is_whole : List Remark → List (ℕ × DeckLine) → Bool
unfolding sweep
is_whole marks ls = are_fine marks (rows_of (all_marks marks) (sweep ls))
