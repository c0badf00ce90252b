-- A deck with the rules of one application that was read is one of the definition.
use Rattle.std.specs.Prelude.{◌≡◌, ℕ, List, Result, Ok, Err}
use Rattle.std.proofs.Common.{ap, refl, subst, sym, ◌∙◌}
use Rattle.mc_deck.specs.model_play.specs.DeckGrammar.{DeckLine, deck_read}
use Rattle.mc_deck.specs.model_play.specs.declared.deck.DeckCause.{DeckCause}
use Rattle.lab_deck.specs.law_histories.specs.Histories.{AppExploration, AppFault, app_exploration_read}
use Rattle.lab_deck.specs.law_histories.proofs.CardMoves.{cards_of, deck_first}
use Rattle.lab_deck.specs.Applications.{IsApplication, IsApplicationRead}
use Rattle.lab_deck.specs.declared.reading.Application.{Application}
use Rattle.lab_application.specs.Shadows.{AreMovesOf}
use Rattle.mc_filter.specs.Inputs.{refused_deck, Rejects}
use Rattle.mc_filter.specs.declared.rejection.Rejection.{Rejection}
use Rattle.mc_filter.specs.declared.rejection.Rejection.TheVariants as rejection
use Rattle.mellab.specs.Running.{refused_application}

-- a deck that was read, as the definition has it
pub record AppliedAs (text : List ℕ) (x : Application) : Type 0 where
  pub exploration : AppExploration
  pub is : app_exploration_read text ≡ Ok exploration
  pub of : IsApplication x exploration

applied_by : {E : Type 0} (text : List ℕ) (x : Application) (r : Result AppExploration E) → ((e : AppExploration) → r ≡ Ok e → app_exploration_read text ≡ Ok e) → IsApplicationRead x r → AppliedAs text x
applied_by text x (Ok e) same h = record { exploration = e; is = same e refl; of = h }
applied_by text x (Err f) same h = absurd h

pub applied_as : (text : List ℕ) (x : Application) → IsApplicationRead x (app_exploration_read text) → AppliedAs text x
applied_as text x h = applied_by text x (app_exploration_read text) (λ e s. s) h

-- its moves are those of the definition
pub moves_are : (text : List ℕ) (x : Application) → (h : AppliedAs text x) → AreMovesOf x.moves h.exploration.lines h.exploration.moves
moves_are text x h = record { deck = h.of.deck; rules = h.of.moves; cards = cards_of text h.exploration h.is }

-- a line that refuses a deck refuses it with its rules
line_refused : (text : List ℕ) (d : Result (List (ℕ × DeckLine)) (ℕ × DeckCause)) (line : List ℕ) → deck_read text ≡ d → refused_deck d line → refused_application (app_exploration_read text) line
line_refused text (Ok ls) line e h = absurd h
line_refused text (Err f) line e h = subst (λ (r : Result AppExploration AppFault). refused_application r line) (sym (deck_first text f e)) h

pub deck_rejects : (text : List ℕ) (e : Rejection) → Rejects (refused_deck (deck_read text)) e → Rejects (refused_application (app_exploration_read text)) e
deck_rejects text (rejection.Refusal line) h = line_refused text (deck_read text) line.items refl h
deck_rejects text rejection.ReadFault h = absurd h
deck_rejects text rejection.NoMemory h = tt
