-- The moves of a deck with the rules of one application, as an exploration of moves alone.
use Rattle.std.specs.Prelude.{◌≡◌, ℕ, zero, suc, true, List, [], ◌∷◌, codes, map, replicate}
use Rattle.std.specs.List.{AllByRecursion}
use Rattle.law_histories.specs.model_play.specs.DeckGrammar.{DeckLine}
use Rattle.law_histories.specs.model_play.specs.Play.{is_card_line}
use Rattle.law_histories.specs.law_explore.specs.Rules as rule
use Rattle.lab_app_rules.specs.model_events.specs.Matching.{fits}
use Rattle.lab_rules.specs.declared.reading.Exploration.{Exploration}
use Rattle.lab_rules.specs.declared.rules.OnRule.{OnRule}
use Rattle.lab_rules.specs.declared.rules.Rules.{Rules}
use Rattle.lab_rules.specs.Meanings.{AlikeLists, AreDistinct, AreRules, IsMove, IsOn, effect_value}

-- the `on` line of moves alone: it applies to each instruction of each move, and leaves its allowance 0
abbrev pub counter : rule.OnRule
counter = record { number = 0; move = codes "*"; occasion = rule.AtTurn; pattern = codes "*"; effect = rule.Allows; name = codes "turns"; amount = 0 }

-- the rules of moves alone
abbrev pub counting : List rule.Move → rule.Rules
counting ms = record { moves = ms; allowances = (codes "turns", 0) ∷ []; ons = counter ∷ [] }

-- `on` lines that reduce no allowance, so that no move breaks one
abbrev pub SpendNothing : List OnRule → Type 0
SpendNothing os = AllByRecursion (λ o. effect_value o.effect ≡ rule.Allows) os

-- an exploration of moves alone: its deck, and its moves, which are lines to the card
pub record AreMovesOf (x : Exploration) (ls : List (ℕ × DeckLine)) (ms : List rule.Move) : Type 0 where
  pub deck : x.deck ≡ ls
  pub rules : AreRules x.rules (counting ms)
  pub cards : AllByRecursion (λ m. is_card_line m.line ≡ true) ms

-- Rules of the definition with these moves. Their allowances stand for those of an application, and one more; their one
-- `on` line applies to each move.
pub record AreShadows (c : Rules) (r : rule.Rules) : Type 0 where
  pub moves : AlikeLists IsMove c.moves.items r.moves
  pub cards : AllByRecursion (λ m. is_card_line m.line ≡ true) r.moves
  pub distinct : AreDistinct r.allowances
  pub ons : AlikeLists (IsOn r.allowances) c.ons.items r.ons
  pub allows : SpendNothing c.ons.items
  pub applies : (m : rule.Move) → (true ∷ []) ≡ map (λ o. fits o.move m.text) r.ons

-- n names, none of which is another one or that of the counter
abbrev pub others : ℕ → List (List ℕ × ℕ)
others zero = []
others (suc n) = (0 ∷ replicate n 0, 0) ∷ others n

-- the rules of moves alone, with n allowances more than that of the counter
abbrev pub shadow : List rule.Move → ℕ → rule.Rules
shadow ms n = record { moves = ms; allowances = (codes "turns", 0) ∷ others n; ons = counter ∷ [] }
