-- A try: a move from a state, whole or cut.
use Rattle.std.specs.Prelude.{◌≡◌, ℕ, ◌+◌, ◌<◌, ◌≤◌, ◌^◌, Bool, true, false, not, List, Option, Some, None, Result, IfOk, ⊤}
use Rattle.law_explore_text.specs.model_device.specs.Device.{DeviceState, BenchState}
use Rattle.law_explore_text.specs.model_play.specs.DeckGrammar as line
use Rattle.law_explore_text.specs.model_play.specs.Play.{State}
use Rattle.law_explore_text.specs.model_play.specs.Family.{is_running, live_in}
use Rattle.law_explore_text.specs.model_play.specs.TraceText.{shown_turns}
use Rattle.law_explore_text.specs.law_explore.specs.Rules as rule
use Rattle.law_explore_text.specs.law_explore.specs.States as model
use Rattle.law_explore_text.specs.law_explore.specs.States.{play_of, state_in}
use Rattle.law_explore_text.specs.law_explore.specs.Tries.{writes_of, step_of, recovery, next, result_text}
use Rattle.lab_rules.specs.declared.rules.OnRule.{OnRule}
use Rattle.lab_rules.specs.Occasions.{counts_after_turns}
use Rattle.mc_script.specs.declared.answer.Answer.{Answer}
use Rattle.mc_script.specs.Cuts.{off_in}
use Rattle.mc_script.specs.declared.live.Live.{Live}
use Rattle.mc_script.specs.declared.player.Player.{Player}
use Rattle.mc_script.specs.Players.{device_of, IsPlayerAt}
use Rattle.mc_script.specs.Lives.{LiveShows}
use Rattle.lab_search.specs.declared.journey.Manner.{Manner}
use Rattle.lab_search.specs.declared.journey.Manner.TheVariants as manner
use Rattle.lab_search.specs.Reports.{fill_value, manner_value}
use Rattle.lab_key.specs.Shown.{IsShown}

-- ---- manners

-- a manner in which a move can be made, if it has enough writes: a cut needs a card that runs
abbrev pub CanCut : model.CardState → Manner → Type 0
CanCut c manner.Whole = ⊤
CanCut c (manner.Cut made f) = (is_running c.live ≡ true) × (made + 1 < 2 ^ 32)

-- a manner that can be made: whole, and cut at one of the device writes of the whole move
abbrev pub IsMade : model.CardState → rule.Move → Manner → Type 0
IsMade c m manner.Whole = ⊤
IsMade c m (manner.Cut made f) = made < writes_of (play_of c) m

-- a cut that hits no write of the whole move
abbrev pub IsMissed : model.CardState → rule.Move → Manner → Type 0
IsMissed c m manner.Whole = ⊥
IsMissed c m (manner.Cut made f) = writes_of (play_of c) m ≤ made

-- the play in which a move is made in a manner
abbrev pub armed_for : ℕ → Manner → State → State
armed_for n manner.Whole s = s
armed_for n (manner.Cut made f) s = next s (n, line.Cut (made + 1) (fill_value f))

-- a cut has a number that a line can have
abbrev pub CountsWrite : Manner → Type 0
CountsWrite manner.Whole = ⊤
CountsWrite (manner.Cut made f) = made + 1 < 2 ^ 32

-- ---- answers

-- whether a cut hit no write of a line
abbrev pub is_missed : Manner → Option Answer → Bool
is_missed manner.Whole a = false
is_missed (manner.Cut made f) a = not (off_in a)

-- ---- a move that was made

-- the state after a move that was made, with allowances
abbrev pub reached : model.CardState → rule.Move → Manner → List (List ℕ × ℕ) → model.CardState
reached c m w a = state_in (recovery m.number (manner_value w) (step_of (play_of c) m (manner_value w)).after) a

module _ {N : Type 0} (state : N → DeviceState) (bench : N → BenchState) where
  -- whether a move was made, and the player then
  abbrev pub HitIs : model.CardState → rule.Move → Manner → Player N → Bool → Type 0
  HitIs c m w q true = IsMade c m w × IsPlayerAt state bench q (recovery m.number (manner_value w) (step_of (play_of c) m (manner_value w)).after)
  HitIs c m w q false = IsMissed c m w

  -- A move was made from a state: the text of its result, the counts of the executed instructions that it shows, and the
  -- player after it.
  pub record MadeAs (c : model.CardState) (m : rule.Move) (w : Manner) (ons : List OnRule) (applies : List Bool) (before after shown : List ℕ) (q : Player N) (made : Bool) : Type 0 where
    pub text : shown ≡ result_text (step_of (play_of c) m (manner_value w)).result
    pub counts : after ≡ counts_after_turns ons applies (shown_turns (step_of (play_of c) m (manner_value w)).turns (step_of (play_of c) m (manner_value w)).stop) before
    pub hit : HitIs c m w q made

  -- what was saved after a move that was made is what runs, and nothing was saved if it was not made
  abbrev pub IsLiveAfter : Player N → Bool → Option Live → Type 0
  IsLiveAfter q true None = ⊥
  IsLiveAfter q true (Some v) = (s : State) → IsPlayerAt state bench q s → LiveShows (state (device_of q)).words v (live_in s)
  IsLiveAfter q false None = ⊤
  IsLiveAfter q false (Some v) = ⊥

-- what the words of a device show after a try: nothing if a cut hit no write, and else the state after the move,
-- whatever the allowances are
abbrev pub TriedState : model.CardState → rule.Move → Manner → List (List ℕ) → Option Live → Type 0
TriedState c m w words None = IsMissed c m w
TriedState c m w words (Some v) =
    IsMade c m w × ((a : List (List ℕ × ℕ)) → IsShown words v (reached c m w a).base (reached c m w a).live × ((reached c m w a).budget ≡ c.budget))

-- A try from a state: the text of its result, the counts of the executed instructions that it shows, and what the words
-- show after it.
pub record TriedAs {E : Type 0} (c : model.CardState) (m : rule.Move) (w : Manner) (ons : List OnRule) (applies : List Bool) (before after shown : List ℕ) (words : List (List ℕ)) (result : Result (Option Live) E) : Type 0 where
  pub text : shown ≡ result_text (step_of (play_of c) m (manner_value w)).result
  pub counts : after ≡ counts_after_turns ons applies (shown_turns (step_of (play_of c) m (manner_value w)).turns (step_of (play_of c) m (manner_value w)).stop) before
  pub state : IfOk result (TriedState c m w words)
