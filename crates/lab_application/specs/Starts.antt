-- The start of an exploration of a deck with the rules of one application.
use Rattle.std.specs.Prelude.{ℕ, List, [], ◌∷◌}
use Rattle.law_histories.specs.model_play.specs.DeckGrammar.{DeckLine}
use Rattle.law_histories.specs.law_explore.specs.Rules as rule
use Rattle.law_histories.specs.law_explore.specs.Search.{Node}
use Rattle.lab_search.specs.declared.endings.Start.{Start}
use Rattle.lab_search.specs.declared.rounds.Search.{Search}
use Rattle.lab_search.specs.Endings.{StartIs}
use Rattle.lab_search.specs.Rounds.{Holds}
use Rattle.lab_application.specs.Shadows.{shadow}

-- a search of a deck with these moves, and with n allowances, holds one node
pub record StartsWith (ls : List (ℕ × DeckLine)) (ms : List rule.Move) (n most : ℕ) (s : Search) (z : Start) : Type 0 where
  pub node : Node
  pub holds : Holds (record { rules = shadow ms n; most = most; from = 0 }) s (node ∷ [])
  pub start : StartIs z (record { lines = ls; rules = shadow ms n })
