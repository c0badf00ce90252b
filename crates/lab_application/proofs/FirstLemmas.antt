-- The first state of an exploration of moves, with the amounts of an application.
use Rattle.std.proofs.Common.{◌≡◌, ℕ, suc, not, ◌&&◌, List, [], ◌∷◌, length, sym, ap, ◌∙◌}
use Rattle.law_histories.specs.model_play.specs.DeckGrammar.{DeckLine}
use Rattle.law_histories.specs.law_explore.specs.Rules as rule
use Rattle.law_histories.specs.law_explore.specs.Search.{first_state}
use Rattle.lab_key.specs.declared.state.CardState.{CardState}
use Rattle.lab_rules.specs.declared.reading.Exploration.{Exploration}
use Rattle.lab_search.specs.declared.beginning.Beginning.{Beginning}
use Rattle.lab_search.specs.declared.endings.Start.{Start}
use Rattle.lab_search.specs.declared.rounds.Search.{Search}
use Rattle.lab_search.specs.Kept.{names_in, Begins, IsExplorationOf, Kept}
use Rattle.lab_search.specs.Rounds.{Holds}
use Rattle.lab_search.proofs.StartLemmas.{ran_start}
use Rattle.law_histories.specs.law_explore.specs.States as model
use Rattle.lab_application.specs.Shadows.{AreMovesOf, counting, shadow}
use Rattle.lab_application.specs.Starts.{StartsWith}
use Rattle.lab_application.proofs.SearchLemmas.{amounts_with, kept_named}
use Rattle.lab_application.proofs.ShadowLemmas.{length_others}

-- the moves alone, as an exploration of the definition
abbrev pub moves_alone : List (ℕ × DeckLine) → List rule.Move → rule.Exploration
moves_alone ls ms = record { lines = ls; rules = counting ms }

pub alone : (x : Exploration) (ls : List (ℕ × DeckLine)) (ms : List rule.Move) → AreMovesOf x ls ms → IsExplorationOf x (moves_alone ls ms)
alone x ls ms h = record { deck = h.deck; rules = h.rules; cards = h.cards }

pub starts_with : (x : Exploration) (ls : List (ℕ × DeckLine)) (ms : List rule.Move) (most n : ℕ) (b : Beginning) (first : CardState) (s : Search) (z : Start) → Begins b (moves_alone ls ms)
    → first.card ≡ b.first.card → first.runs ≡ b.first.runs → length first.allowances.items ≡ suc n
    → ((r : rule.Rules) (c : model.CardState) → Kept b.laboratory b.rosters (names_in r) first c → length b.laboratory.counts.items ≡ length r.ons → Holds (record { rules = r; most = most; from = 0 }) s (record { state = c; path = [] } ∷ []))
    → z.lead ≡ b.lead → z.ran ≡ (b.first.runs && not b.lead.power) → StartsWith ls ms n most s z
starts_with x ls ms most n b first s z begins card runs many holds lead ran =
    let held = (shadow ms n).allowances in
    let state : model.CardState = record (first_state (moves_alone ls ms)) { allowances = amounts_with held first.allowances.items } in
    let k = kept_named b.laboratory b.rosters (names_in (counting ms)) b.first first (first_state (moves_alone ls ms)) held begins.kept card runs (many ∙ ap suc (sym (length_others n))) in
    record {
      node = record { state = state; path = [] };
      holds = holds (shadow ms n) state k begins.counts;
      start = record {
        lead = record { armed = ap (λ l. l.armed) lead ∙ begins.lead.armed; power = ap (λ l. l.power) lead ∙ begins.lead.power };
        ran = ran_start (moves_alone ls ms) z.ran b.first.runs b.lead.power ran begins.kept.runs begins.lead.power;
      };
    }
