-- What happens to one application along the deck and the tries of an exploration, and what it breaks: the rules of the
-- application, counted event by event.
use Rattle.std.specs.Prelude.{ℕ, ◌+◌, ◌-◌, Bool, true, false, cond, ◌&&◌, ◌||◌, nat_lt, ◌==◌, List, [], ◌∷◌, ◌++◌, bytes_eq, codes, decimal, not, is_some, Option, Some, None, Result, Ok, Err}
use Rattle.law_explore_text.specs.model_device.specs.Bytes.{lookup}
use Rattle.law_explore_text.specs.model_device.specs.Card.{App}
use Rattle.law_explore_text.specs.model_text.specs.Text.{◌>>=◌, ok_as, err_as, only_if, lines, with_numbers, fields}
use Rattle.law_explore_text.specs.model_text.specs.Listing.{hex_text}
use Rattle.law_explore_text.specs.model_play.specs.DeckGrammar.{DeckLine, deck_read}
use Rattle.law_explore_text.specs.model_play.specs.DeckGrammar as line
use Rattle.law_explore_text.specs.model_play.specs.Given.{apps_in}
use Rattle.law_explore_text.specs.model_play.specs.Play.{Live, Running, Warm, State, AfterPower, Step, start, plays, step, steady_failures}
use Rattle.law_explore_text.specs.model_text.specs.TurnText.{outcome_text}
use Rattle.law_explore_text.specs.model_device.specs.Device.{blank_words, device_words}
use Rattle.law_rules.specs.law_promise.specs.History.{after_step}
use Rattle.law_explore_text.specs.law_explore.specs.Rules.{Move, without_field, move_line, is_some_of}
use Rattle.law_explore_text.specs.model_play.specs.RuleLines.{marked_lines}
use Rattle.law_explore_text.specs.model_text.specs.Text.{begins_with, stays_inside}
use Rattle.law_explore_text.specs.law_explore.specs.Tries.{Manner, Whole, CutAt, step_of}
use Rattle.law_explore_text.specs.law_explore.specs.States.{play_of_deck, warm_in}
use Rattle.law_rules.specs.model_rules.specs.Rules.{OnLine, SumLine, Range, Total, Target, AppRules, no_app_rules}
use Rattle.law_rules.specs.model_rule_text.specs.Reading.{RuleCause, Deck, NoApplication, LoadLine, load_names, loads_of, app_line, app_rule}
use Rattle.law_rules.specs.model_rules.specs.Happenings.{Event, Did, Failed, Commanded, Answers, Session, History, rule_watch}
use Rattle.law_rules.specs.model_rules.specs.Keeping.{Occasion, OnTurn, OnCommand, OnAnswer, OnSession, applies, line_of_deed, Standing, Break, ByLine, ByAbend, first_standing, after_event, is_in_range, is_total}
use Rattle.law_explore_text.specs.law_explore.specs.model_events.specs.Matching.{fits}

-- ---- a deck with the rules of one application

-- whether fields are those of a rule that begins with a word
abbrev pub is_rule_of : List ℕ → List (List ℕ) → Bool
is_rule_of word [] = false
is_rule_of word (mark ∷ fs) = bytes_eq mark (codes "#@") && begins_with word fs

-- whether a rule outside of sections begins with a word; the first of these lines is in a section or not
abbrev pub has_rule_of : List ℕ → Bool → List (List ℕ) → Bool
has_rule_of word inside [] = false
has_rule_of word inside (l ∷ ls) = (not inside && is_rule_of word (fields l)) || has_rule_of word (stays_inside inside (fields l)) ls

-- whether the rules of a deck speak of one application
abbrev pub names_application : List ℕ → Bool
names_application text = has_rule_of (codes "app") false (lines text)

-- its lines, its moves and its rules, and the application
pub record AppExploration : Type 0 where
  pub lines : List (ℕ × DeckLine)
  pub moves : List Move
  pub rules : AppRules
  pub target : Target

-- why it is not explored: a line of the deck or of its rules that is refused; no move; or no `on`, `never` or `always` line
pub data AppFault : Type 0 where
  LineFault : (line : ℕ) (cause : RuleCause) → AppFault
  NoMove : AppFault
  NoRule : AppFault

-- the refusal of a line
abbrev pub line_fault : ℕ × RuleCause → AppFault
line_fault e = LineFault e.0 e.1

-- the moves with that of a line, if it is one, by its fields
abbrev pub with_move_line : List Move → ℕ × List ℕ → List (List ℕ) → Result (List Move) RuleCause
with_move_line ms l (mark ∷ word ∷ rest) =
    cond (bytes_eq word (codes "move"))
    (err_as Deck (ok_as (λ d. ms ++ record { number = l.0; text = without_field (without_field l.1); line = d } ∷ []) (move_line l.0 rest)))
    (Ok ms)
with_move_line ms l other = Ok ms

-- the rules and the moves of lines, or the first refusal
unfoldable pub parts_from : List (List ℕ × LoadLine) → AppRules → List Move → List (ℕ × List ℕ) → Result (AppRules × List Move) (ℕ × RuleCause)
unfolding app_rule move_line
parts_from loads r ms [] = Ok (r, ms)
parts_from loads r ms (l ∷ ls) = do
  s ← err_as (λ c. (l.0, c)) (app_line loads r l.0 (fields l.1))
  ns ← err_as (λ c. (l.0, c)) (with_move_line ms l (fields l.1))
  parts_from loads s ns ls

-- whether rules have an `on`, a `never` or an `always` line
abbrev pub can_break : AppRules → Bool
can_break r = is_some_of r.ons || is_some_of r.moves || is_some r.abends || is_some_of r.ranges || is_some_of r.totals

-- a deck that can be explored
abbrev pub tested : List (ℕ × DeckLine) → List Move → AppRules → Option Target → Result AppExploration AppFault
tested ls ms r None = Err (LineFault 0 NoApplication)
tested ls ms r (Some g) = do
  ms ← only_if (is_some_of ms) NoMove ms
  r ← only_if (can_break r) NoRule r
  Ok (record { lines = ls; moves = ms; rules = r; target = g })

-- the lines of a deck's text with its moves and its rules, or the first refusal; those of the deck come first
unfoldable pub app_exploration_read : List ℕ → Result AppExploration AppFault
unfolding deck_read marked_lines parts_from
app_exploration_read text = do
  ls ← err_as (λ e. LineFault e.0 (Deck e.1)) (deck_read text)
  p ← err_as line_fault (parts_from (loads_of (load_names false (with_numbers 1 (lines text))) ls) no_app_rules [] (marked_lines false (with_numbers 1 (lines text))))
  tested ls p.1 p.0 p.0.target

-- ---- events

-- what a rule is matched with, of an event; an abend is none
abbrev pub occasion_of : Event → Option Occasion
occasion_of (Did d) = Some (OnTurn (line_of_deed d))
occasion_of (Failed at cause) = None
occasion_of (Commanded bytes) = Some (OnCommand (hex_text bytes))
occasion_of (Answers bytes o) = Some (OnAnswer (hex_text bytes) (outcome_text o))
occasion_of Session = Some OnSession

-- what stands after a history from somewhere on, the newest event first
abbrev pub standing_from : AppRules → History → Standing → Result Standing Break
standing_from r [] s = Ok s
standing_from r (e ∷ h) s = standing_from r h s >>= after_event r e

-- the name of what is broken: that of the allowance of the line with a number
abbrev pub name_at : List OnLine → ℕ → List ℕ
name_at [] n = []
name_at (l ∷ ls) n = cond (l.number == n) l.name (name_at ls n)

-- the name of what is broken
abbrev pub break_name : AppRules → Break → List ℕ
break_name r (ByLine n) = name_at r.ons n
break_name r (ByAbend n) = codes "abend"

-- ---- what always holds

-- the name of a range
abbrev pub range_name : Range → List ℕ
range_name g = codes "SB[" ++ decimal g.at ++ codes "]"

-- the name of a block that sums bind
abbrev pub total_name : Total → List ℕ
total_name t = codes "SB[" ++ decimal t.at ++ codes ".." ++ decimal (t.at + t.n - 1) ++ codes "]"

-- the first range that static bytes break, by its line, with its name
abbrev pub broken_range : List ℕ → List Range → Option (ℕ × List ℕ)
broken_range fixed [] = None
broken_range fixed (g ∷ gs) = cond (is_in_range fixed g) (broken_range fixed gs) (Some (g.number, range_name g))

-- the first block that is not what it is to be
abbrev pub broken_total : List ℕ → Standing → List Total → Option (ℕ × List ℕ)
broken_total fixed s [] = None
broken_total fixed s (t ∷ ts) = cond (is_total fixed s.kept t) (broken_total fixed s ts) (Some (t.number, total_name t))

-- the one of the two whose line comes first
abbrev pub first_of : Option (ℕ × List ℕ) → Option (ℕ × List ℕ) → Option (ℕ × List ℕ)
first_of None b = b
first_of a None = a
first_of (Some a) (Some b) = Some (cond (nat_lt a.0 b.0) a b)

-- what stands, unless an `always` line is broken
abbrev pub unless_broken : Option (ℕ × List ℕ) → Standing → Result Standing (List ℕ)
unless_broken None s = Ok s
unless_broken (Some b) s = Err b.1

-- what stands, if each `always` line holds of the application, where it is there
abbrev pub if_always : AppRules → Option App → Standing → Result Standing (List ℕ)
if_always r None s = Ok s
if_always r (Some a) s = unless_broken (first_of (broken_range a.fixed r.ranges) (broken_total a.fixed s r.totals)) s

-- ---- along a play

-- the application in a state, if it is there
abbrev pub app_of_state : Target → State → Option App
app_of_state g z = lookup (apps_in z) g.name

-- What stands after a line that was played. The history of an application begins with its creation and ends with its
-- deletion: where it is not there before and after the line, it is what stands at its creation.
abbrev pub standing_if : Bool → AppRules → History → Standing → Result Standing (List ℕ)
standing_if true r h s = err_as (break_name r) (standing_from r h s)
standing_if false r h s = Ok (first_standing r)

-- what stands after a line that was played, or the name of what is broken
unfoldable pub standing_after_step : AppRules → Target → Step → Standing → Result Standing (List ℕ)
standing_after_step r g t s =
    let h : History = after_step (rule_watch g.name) t [] in
    standing_if (is_some (app_of_state g t.before) && is_some (app_of_state g t.after)) r h s >>= if_always r (app_of_state g t.after)

-- what stands after lines that were played
unfoldable pub standing_after_steps : AppRules → Target → List Step → Standing → Result Standing (List ℕ)
unfolding standing_after_step
standing_after_steps r g [] s = Ok s
standing_after_steps r g (t ∷ ts) s = standing_after_step r g t s >>= λ u. standing_after_steps r g ts u

-- the power line that an exploration adds to a deck after which no card runs
abbrev pub power_step : Live → Warm → List Step
power_step (Running session_state) s = []
power_step v s = step (AfterPower s) (0, line.Power) None ∷ []

-- the steps of a deck, up to the first state of its exploration
unfoldable pub deck_steps : List (ℕ × DeckLine) → List Step
unfolding play_of_deck
deck_steps ls =
    let s = start (blank_words device_words) in
    let w = warm_in (play_of_deck ls) in
    plays s ls (steady_failures s ls) ++ power_step w.live w

-- what stands where an exploration begins, or the name of what the deck itself breaks
unfoldable pub first_standing_of : AppExploration → Result Standing (List ℕ)
unfolding deck_steps standing_after_steps
first_standing_of x = standing_after_steps x.rules x.target (deck_steps x.lines) (first_standing x.rules)

-- ---- a try

-- the steps of a move that is made from a play: the move, and after a cut a whole power line
abbrev pub steps_of_try : State → Move → Manner → List Step
steps_of_try s m Whole = step_of s m Whole ∷ []
steps_of_try s m (CutAt k x) =
    let t = step_of s m (CutAt k x) in
    t ∷ step t.after (m.number, line.Power) None ∷ []

-- the events of steps, each step's as after_step has them
abbrev pub events_of : Target → List Step → List Event
events_of g [] = []
events_of g (t ∷ ts) = after_step (rule_watch g.name) t [] ++ events_of g ts

-- whether a line applies to an event
abbrev pub applies_to : (Occasion → Bool) → Option Occasion → Bool
applies_to test None = false
applies_to test (Some o) = test o

-- whether a line applies to one of some events
abbrev pub applies_among : (Occasion → Bool) → List Event → Bool
applies_among test [] = false
applies_among test (e ∷ es) = applies_to test (occasion_of e) || applies_among test es

-- whether a pattern fits an instruction
abbrev pub fits_turn : List ℕ → Occasion → Bool
fits_turn pattern (OnTurn line) = fits pattern line
fits_turn pattern occasion = false

-- an `on` line's number, and whether it applies to one of some events
abbrev pub heard_ons : List OnLine → List Event → List (ℕ × Bool)
heard_ons [] es = []
heard_ons (l ∷ ls) es = (l.number, applies_among (λ o. applies l.trigger o) es) ∷ heard_ons ls es

-- the same of the lines about sums
abbrev pub heard_moves : List SumLine → List Event → List (ℕ × Bool)
heard_moves [] es = []
heard_moves (l ∷ ls) es = (l.number, applies_among (fits_turn l.line) es) ∷ heard_moves ls es

-- numbered lines with one more, in the order of their numbers
abbrev pub with_numbered : ℕ × Bool → List (ℕ × Bool) → List (ℕ × Bool)
with_numbered x [] = x ∷ []
with_numbered x (y ∷ ys) = cond (nat_lt x.0 y.0) (x ∷ y ∷ ys) (y ∷ with_numbered x ys)

-- two lists of numbered lines as one, in the order of their numbers
abbrev pub merged : List (ℕ × Bool) → List (ℕ × Bool) → List (ℕ × Bool)
merged [] ys = ys
merged (x ∷ xs) ys = with_numbered x (merged xs ys)

-- each `on` line by its number, in order, with whether it applies to one of some events
abbrev pub heard_lines : AppRules → List Event → List (ℕ × Bool)
heard_lines r es = merged (heard_ons r.ons es) (heard_moves r.moves es)

-- which of some lines applied before or apply now
abbrev pub heard_too : List (ℕ × Bool) → List (ℕ × Bool) → List (ℕ × Bool)
heard_too [] ys = []
heard_too (x ∷ xs) [] = []
heard_too (x ∷ xs) (y ∷ ys) = (x.0, x.1 || y.1) ∷ heard_too xs ys
