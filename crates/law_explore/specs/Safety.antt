-- What an exploration promises: the laws of its fills, of its recoveries, and of every sequence of moves and cuts.
use Rattle.std.specs.Prelude.{◌≡◌, ◌⊎◌, ℕ, ◌<◌, ◌≤◌, true, List, [], ◌∷◌, ◌++◌, length, map, reverse, Ok, Err, ⊤}
use Rattle.std.specs.List.{AllByRecursion}
use Rattle.model_play.specs.model_device.specs.Bytes.{zeros}
use Rattle.model_play.specs.model_device.specs.Image.{Two, opening}
use Rattle.model_play.specs.model_device.specs.Card.{means}
use Rattle.model_play.specs.model_device.specs.Layout.{fault}
use Rattle.model_play.specs.model_device.specs.PowerUp.{Base, OnCard, AtFault}
use Rattle.model_play.specs.DeckGrammar.{DeckLine}
use Rattle.model_play.specs.DeckGrammar as line
use Rattle.model_play.specs.Play.{Armed, Unarmed, ArmedCut, ArmedFail, armed_stop_in, Live, Running, Unpowered, Muted, Warm, State, BeforePower, AfterPower, Step, is_card_line}
use Rattle.model_play.specs.Family.{live_in, is_running}
use Rattle.model_play.specs.TraceText.{shown_turns}
use Rattle.model_events.specs.Patterns.{holds}
use Rattle.model_events.specs.Matching.{small, fits}
use Rattle.law_explore.specs.Rules.{Move, OnRule, Rules, Exploration, exploration_read}
use Rattle.law_explore.specs.States.{state_in, play_of_deck, first_play}
use Rattle.law_explore.specs.Tries.{Manner, Whole, CutAt, Try, allowances_after, writes_of, ones, next, step_of, recovery}
use Rattle.law_explore.specs.Search.{All, AtDepth, Broken, TooMany, Statement, statements_to, search_of}

-- one of some
abbrev pub Among : {A : Type 0} → A → List A → Type 0
Among a [] = ⊥
Among a (x ∷ xs) = (a ≡ x) ⊎ Among a xs

-- ---- what a terminal and its power supply do

-- a move that is made, whole or cut, and the cuts of the power lines after it, before a whole one: for each its write
-- and the word it leaves
pub record Action : Type 0 where
  pub move : Move
  pub manner : Manner
  pub again : List (ℕ × List ℕ)

-- the play after power lines that are cut
unfoldable pub after_cuts : ℕ → List (ℕ × List ℕ) → State → State
after_cuts n [] s = s
after_cuts n (c ∷ cs) s = after_cuts n cs (next (next s (n, line.Cut c.0 c.1)) (n, line.Power))

-- the play after a move: after a cut there are power lines that are cut, and a whole one
abbrev pub recovery_with : ℕ → Manner → List (ℕ × List ℕ) → State → State
recovery_with n Whole cs s = s
recovery_with n (CutAt k x) cs s = next (after_cuts n cs s) (n, line.Power)

-- the play after an action
abbrev pub after_action : State → Action → State
after_action s a = recovery_with a.move.number a.manner a.again (step_of s a.move a.manner).after

-- the manner in which a move can be made: whole, and if a card runs cut in each device write that the whole move makes
abbrev pub CanMake : State → Move → Manner → Type 0
CanMake s m Whole = ⊤
CanMake s m (CutAt k x) = (is_running (live_in s) ≡ true) × (1 ≤ k) × (k ≤ writes_of s m)

-- an action that can follow a play: one of the moves, in such a manner
pub record CanDo (ms : List Move) (s : State) (a : Action) : Type 0 where
  pub move : Among a.move ms
  pub manner : CanMake s a.move a.manner

-- ---- no allowance is spent below zero

-- the allowances after a move that was played, as the `on` lines have them
abbrev pub Leaves : List OnRule → State → Action → List (List ℕ × ℕ) → List (List ℕ × ℕ) → Type 0
Leaves ons s t a b = allowances_after ons t.move (step_of s t.move t.manner) a ≡ Ok b

-- whatever actions of a list can follow a play and each other, none of them spends an allowance below zero
abbrev pub KeepsRules : Rules → State → List (List ℕ × ℕ) → List Action → Type 0
KeepsRules r s a [] = ⊤
KeepsRules r s a (t ∷ ts) = CanDo r.moves s t → (b : List (List ℕ × ℕ)) × Leaves r.ons s t a b × KeepsRules r (after_action s t) b ts

-- so it is from the end of a deck
abbrev pub KeepsRulesIn : Exploration → List Action → Type 0
KeepsRulesIn x ts = KeepsRules x.rules (AfterPower (first_play x.lines)) x.rules.allowances ts

-- If a search says `all`, no list of actions, of any length, spends an allowance below zero.
abbrev pub AllLaw : Type 0
AllLaw =
    (limit n : ℕ) (text : List ℕ) (x : Exploration) → exploration_read text ≡ Ok x → (search_of limit n x).ending ≡ All
    → (ts : List Action) → KeepsRulesIn x ts

-- If it says `depth N`, no list of at most N actions does.
abbrev pub DepthLaw : Type 0
DepthLaw =
    (limit n d : ℕ) (text : List ℕ) (x : Exploration) → exploration_read text ≡ Ok x → (search_of limit n x).ending ≡ AtDepth d
    → (ts : List Action) → length ts ≤ d → KeepsRulesIn x ts

-- If it ends at depth D for too many states, no list of fewer than D actions does.
abbrev pub LimitLaw : Type 0
LimitLaw =
    (limit n d : ℕ) (text : List ℕ) (x : Exploration) → exploration_read text ≡ Ok x → (search_of limit n x).ending ≡ TooMany d
    → (ts : List Action) → length ts < d → KeepsRulesIn x ts

-- ---- a broken rule

-- a try that can be made in a play
abbrev pub CanTry : List Move → State → Try → Type 0
CanTry ms s t = Among t.move ms × CanMake s t.move t.manner

-- tries that are made in turn from a play, and one after them: they spend nothing below zero, and it spends this
-- allowance below zero
abbrev pub Breaks : Rules → State → List (List ℕ × ℕ) → List Try → Try → List ℕ → Type 0
Breaks r s a [] t name = CanTry r.moves s t × (allowances_after r.ons t.move (step_of s t.move t.manner) a ≡ Err name)
Breaks r s a (u ∷ us) t name =
    let v = step_of s u.move u.manner in
    CanTry r.moves s u
    × ((b : List (List ℕ × ℕ)) × (allowances_after r.ons u.move v a ≡ Ok b) × Breaks r (recovery u.move.number u.manner v.after) b us t name)

-- the tries of a path, the last first, break a rule from the end of a deck, and no list of fewer actions does
pub record IsShortestBreak (x : Exploration) (name : List ℕ) (path : List Try) : Type 0 where
  pub last : Try
  pub before : List Try
  pub are : path ≡ last ∷ before
  pub breaks : Breaks x.rules (AfterPower (first_play x.lines)) x.rules.allowances (reverse before) last name
  pub shortest : (ts : List Action) → length ts < length path → KeepsRulesIn x ts

-- If a search says `broken`, its tries break that rule, and there is no shorter way.
abbrev pub BrokenLaw : Type 0
BrokenLaw =
    (limit n : ℕ) (name : List ℕ) (path : List Try) (text : List ℕ) (x : Exploration) → exploration_read text ≡ Ok x
    → (search_of limit n x).ending ≡ Broken name path → IsShortestBreak x name path

-- ---- its statements

-- the play after tries in turn
abbrev pub after_tries : State → List Try → State
after_tries s [] = s
after_tries s (t ∷ ts) = after_tries (recovery t.move.number t.manner (step_of s t.move t.manner).after) ts

-- a stop that is armed is counted from 1
abbrev pub CountsFromOne : Armed → Type 0
CountsFromOne Unarmed = ⊤
CountsFromOne (ArmedCut k x) = 1 ≤ k
CountsFromOne (ArmedFail k) = 1 ≤ k

-- the lines of a deck with those of statements after them, at some number
abbrev pub with_statements : List (ℕ × DeckLine) → ℕ → List Statement → List (ℕ × DeckLine)
with_statements ls n ss = ls ++ map (λ l. (n, l.1)) ss

-- The statements that a broken rule is reported with, appended to the deck, play to where their tries lead from its
-- first state, if a card runs there.
abbrev pub StatementsLaw : Type 0
StatementsLaw =
    (n : ℕ) (ls : List (ℕ × DeckLine)) (t : Try) (ts : List Try) → CountsFromOne (armed_stop_in (play_of_deck ls)) → is_running (first_play ls).live ≡ true
    → AllByRecursion (λ u. is_card_line u.move.line ≡ true) (t ∷ ts)
    → play_of_deck (with_statements ls n (statements_to (play_of_deck ls) (t ∷ ts))) ≡ after_tries (AfterPower (first_play ls)) (t ∷ ts)

-- ---- fills

-- one of the three fills
abbrev pub IsFill : List ℕ → Type 0
IsFill x = (x ≡ zeros 8) ⊎ ((x ≡ ones) ⊎ (x ≡ opening Two))

-- two lines that were played show the same: the same result, and the same turns in a trace
pub record ShowsSame (t u : Step) : Type 0 where
  pub result : t.result ≡ u.result
  pub turns : shown_turns t.turns t.stop ≡ shown_turns u.turns u.stop

-- A fill does what another does to a move that is cut at a write: the move shows the same, and so is the state after a
-- whole power line.
pub record DoesSame (s : State) (m : Move) (k : ℕ) (x y : List ℕ) : Type 0 where
  pub shows : ShowsSame (step_of s m (CutAt k x)) (step_of s m (CutAt k y))
  pub after : (a : List (List ℕ × ℕ))
      → state_in (recovery m.number (CutAt k x) (step_of s m (CutAt k x)).after) a ≡ state_in (recovery m.number (CutAt k y) (step_of s m (CutAt k y)).after) a

-- A running card as every play from a blank device leaves it: it has layout 2, and nothing is owed.
abbrev pub IsSettled : Live → Base → ℕ → Type 0
IsSettled (Running session_state) (OnCard c) owed = (owed ≡ 0) × (c.layout ≡ 2)
IsSettled (Running session_state) (AtFault cause place) owed = ⊥
IsSettled Unpowered b owed = ⊤
IsSettled Muted b owed = ⊤

-- a play with no stop armed, and a running card settled
pub record IsIdle (s : Warm) : Type 0 where
  pub unarmed : s.armed ≡ Unarmed
  pub settled : IsSettled s.live s.base s.owed

-- An exploration begins so: with layout 2 in force if a card runs, so that the third fill opens its journal.
abbrev pub FirstLaw : Type 0
FirstLaw = (ls : List (ℕ × DeckLine)) → IsIdle (first_play ls)

-- Every word that a cut leaves, in every write of every move, does what one of the three fills does.
abbrev pub FillLaw : Type 0
FillLaw =
    (s : Warm) (m : Move) (k : ℕ) (x : List ℕ) → IsIdle s → is_card_line m.line ≡ true → CanMake (AfterPower s) m (CutAt k x)
    → (y : List ℕ) × IsFill y × DoesSame (AfterPower s) m k x y

-- ---- recoveries

-- Whatever cuts there are in the power lines after a move, a whole one leads to the state that it leads to without
-- them.
abbrev pub RecoveryLaw : Type 0
RecoveryLaw =
    (n i : ℕ) (cs : List (ℕ × List ℕ)) (s : Warm) (a : List (List ℕ × ℕ)) → s.armed ≡ Unarmed
    → state_in (next (after_cuts n cs (AfterPower s)) (i, line.Power)) a ≡ state_in (next (AfterPower s) (i, line.Power)) a

-- ---- what decides an answer

-- two plays of a running card that are one state
pub record IsOneState (s t : Warm) : Type 0 where
  pub first : IsIdle s
  pub second : IsIdle t
  pub runs : is_running s.live ≡ true
  pub base : s.base ≡ t.base
  pub live : s.live ≡ t.live
  pub budget : s.budget ≡ t.budget

-- a move in two plays: as many device writes, and made in one manner it shows the same and leads to one state
pub record AnswersSame (s t : Warm) (m : Move) : Type 0 where
  pub writes : writes_of (AfterPower s) m ≡ writes_of (AfterPower t) m
  pub shows : (w : Manner) → CanMake (AfterPower s) m w → ShowsSame (step_of (AfterPower s) m w) (step_of (AfterPower t) m w)
  pub after : (w : Manner) → CanMake (AfterPower s) m w → (a : List (List ℕ × ℕ))
      → state_in (recovery m.number w (step_of (AfterPower s) m w).after) a ≡ state_in (recovery m.number w (step_of (AfterPower t) m w).after) a

-- A state decides what every move answers, and the state after it.
abbrev pub StateLaw : Type 0
StateLaw = (s t : Warm) (m : Move) → IsOneState s t → is_card_line m.line ≡ true → AnswersSame s t m

-- Of the words of a device a power line makes one state wherever they mean one card, or have one fault: what free words
-- hold, and a journal that is closed, does not count.
abbrev pub WordsLaw : Type 0
WordsLaw =
    (i b : ℕ) (m n : List (List ℕ)) (a : List (List ℕ × ℕ)) → fault m ≡ fault n → means m ≡ means n
    → state_in (next (BeforePower m b Unarmed) (i, line.Power)) a ≡ state_in (next (BeforePower n b Unarmed) (i, line.Power)) a

-- ---- patterns

-- A pattern fits a text if it holds of it as that of an expectation, with all capital letters made small.
abbrev pub FitsLaw : Type 0
FitsLaw = (pattern text : List ℕ) → fits pattern text ≡ holds (map small pattern) (map small text)
