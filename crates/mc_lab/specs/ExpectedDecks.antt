-- Decks with their expectations as the code has them, and why a text is not one.
use Rattle.std.specs.Prelude.{◌≡◌, Result, Err, ⊤}
use Rattle.mc_deck.specs.declared.refusal.DeckRefusal.{DeckRefusal}
use Rattle.mc_deck.specs.declared.refusal.DeckRefusal.TheVariants as deck
use Rattle.mc_lab.specs.Rising.{Rising}
use Rattle.mc_lab.specs.Remarked.{remark_number, remark_values}
use Rattle.mc_lab.specs.Expectations as model
use Rattle.mc_lab.specs.Expectations.{ExpectationFault, line_number}
use Rattle.mc_lab.specs.declared.expected_deck.ExpectedDeck.{ExpectedDeck}
use Rattle.mc_lab.specs.declared.expected_deck.ExpectationRefusal.{ExpectationRefusal}
use Rattle.mc_lab.specs.declared.expected_deck.ExpectationRefusal.TheVariants as refusal

-- a deck with its expectations, as the model has it
abbrev pub expected_deck_value : ExpectedDeck → model.ExpectedDeck
expected_deck_value t = record { lines = t.deck; expected = remark_values t.expectations.items }

-- the line numbers of the lines and of the expectations ascend
pub record IsRising (t : ExpectedDeck) : Type 0 where
  pub lines : Rising line_number 1 t.deck
  pub expected : Rising remark_number 1 (remark_values t.expectations.items)

-- the refusal of a deck, as one of a deck with expectations
abbrev pub refusal_of : DeckRefusal → ExpectationRefusal
refusal_of (deck.At n c) = refusal.Deck n c
refusal_of deck.NoMemory = refusal.NoMemory

-- the refusal is that of the model, or the code was out of memory
abbrev pub RefusesExpectedDeck : {A : Type 0} → Result A ExpectationFault → ExpectationRefusal → Type 0
RefusesExpectedDeck r (refusal.Deck n c) = r ≡ Err (model.DeckFault n c)
RefusesExpectedDeck r (refusal.NoAnswer n) = r ≡ Err (model.NoAnswer n)
RefusesExpectedDeck r refusal.NoExpectation = r ≡ Err model.NoExpectation
RefusesExpectedDeck r refusal.NoMemory = ⊤
