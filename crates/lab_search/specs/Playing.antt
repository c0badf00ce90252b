-- A line that is played without a failed write, as the definition has it.
use Rattle.std.specs.Prelude.{◌≡◌, ℕ, true, List, Bool, Option, None, option_map, ⊤}
use Rattle.law_explore_text.specs.model_device.specs.Device.{DeviceState, BenchState}
use Rattle.law_explore_text.specs.model_play.specs.DeckGrammar.{DeckLine}
use Rattle.law_explore_text.specs.model_play.specs.Play.{Armed, Unarmed, ArmedCut, ArmedFail, Warm, State, AfterPower, armed_stop_in, last_state, plays, steady_failures, step}
use Rattle.law_explore_text.specs.model_play.specs.TraceText.{shown_turns}
use Rattle.mc_script.specs.declared.answer.Answer.{Answer}
use Rattle.mc_script.specs.declared.player.Player.{Player}
use Rattle.mc_script.specs.Players.{answer_value, device_of, IsPlayerAt}
use Rattle.lab_rules.specs.declared.rules.OnRule.{OnRule}
use Rattle.lab_rules.specs.Occasions.{counts_after_turns}

-- no failed write is armed
abbrev pub FailsNot : Armed → Type 0
FailsNot Unarmed = ⊤
FailsNot (ArmedCut k x) = ⊤
FailsNot (ArmedFail k) = ⊥

-- the state after lines, on a device that refuses just the writes of `fail` lines
abbrev pub state_after : State → List (ℕ × DeckLine) → State
state_after s ls = last_state s (plays s ls (steady_failures s ls))

module _ {N : Type 0} (state : N → DeviceState) (bench : N → BenchState) where
  -- A line was played as the definition has it without a failed write; if it makes no write, the words after the first
  -- power line are as before.
  pub record PlayedAs (p : Player N) (s : State) (l : ℕ × DeckLine) (answer : Option Answer) (q : Player N) : Type 0 where
    pub at : IsPlayerAt state bench q (step s l None).after
    pub answers : option_map (answer_value state q) answer ≡ (step s l None).result
    pub steady : (bench (device_of q)).steady ≡ true
    pub words : (w : Warm) → (step s l None).after ≡ AfterPower w → (step s l None).moves ≡ 0 → (state (device_of q)).words ≡ (state (device_of p)).words

  -- so it is from each state that the player is at, on a device that refuses no write by itself
  abbrev pub PlaysAs : Player N → DeckLine → Option Answer → Player N → Type 0
  PlaysAs p l answer q =
      (s : State) (n : ℕ) → IsPlayerAt state bench p s → (bench (device_of p)).steady ≡ true → FailsNot (armed_stop_in s) → PlayedAs p s (n, l) answer q

  -- the executed instructions that the line shows are counted
  abbrev pub CountsAs : List OnRule → List Bool → Player N → DeckLine → List ℕ → List ℕ → Type 0
  CountsAs ons applies p l before after =
      (s : State) (n : ℕ) → IsPlayerAt state bench p s → (bench (device_of p)).steady ≡ true → FailsNot (armed_stop_in s)
      → after ≡ counts_after_turns ons applies (shown_turns (step s (n, l) None).turns (step s (n, l) None).stop) before
