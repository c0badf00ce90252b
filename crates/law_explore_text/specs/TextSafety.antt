-- What the text of an exploration promises.
use Rattle.std.specs.Prelude.{◌≡◌, ℕ, ◌<◌, ◌≤◌, List, ◌++◌, length, codes, decimal, ◌^◌, Ok}
use Rattle.law_explore.specs.Rules.{Exploration, exploration_read}
use Rattle.law_explore.specs.Safety.{Action, KeepsRulesIn}
use Rattle.law_explore_text.specs.Report.{depth_lines, silent_lines, sums_text, text_within}

-- a text that says `all`: the lines of depths, those of rules that applied to no try, and the line of the sums with this
-- word
pub record SaysAll (text : List ℕ) : Type 0 where
  pub news : List ℕ
  pub silent : List ℕ
  pub states : ℕ
  pub tries : ℕ
  pub is : text ≡ depth_lines 1 news ++ (silent_lines silent ++ sums_text states tries (codes " all"))

-- If the text of an exploration says `all`, whatever the most states are, no list of actions, of any length, spends an
-- allowance below zero.
abbrev pub TextLaw : Type 0
TextLaw = (most n : ℕ) (text : List ℕ) (x : Exploration) → exploration_read text ≡ Ok x → SaysAll (text_within most n x) → (ts : List Action) → KeepsRulesIn x ts

-- a text that says `depth N`, with fewer states than the most: the lines of depths, those of rules that applied to no
-- try, and the line of the sums with this depth
pub record SaysDepth (most : ℕ) (text : List ℕ) (depth : ℕ) : Type 0 where
  pub news : List ℕ
  pub silent : List ℕ
  pub states : ℕ
  pub tries : ℕ
  pub few : states < most
  pub is : text ≡ depth_lines 1 news ++ (silent_lines silent ++ sums_text states tries (codes " depth " ++ decimal depth))

-- If it says `depth N`, no list of at most N actions does.
abbrev pub DepthTextLaw : Type 0
DepthTextLaw =
    (most n d : ℕ) (text : List ℕ) (x : Exploration) → 1 ≤ most → most < 2 ^ 64 → n < 2 ^ 64 → d < 2 ^ 64 → exploration_read text ≡ Ok x → SaysDepth most (text_within most n x) d
    → (ts : List Action) → length ts ≤ d → KeepsRulesIn x ts
