-- Refusals of a text.
use Rattle.std.specs.Prelude.{◌≡◌, ℕ, Result, Err, ⊤}
use Rattle.model_play.specs.declared.deck.DeckCause.{DeckCause}
use Rattle.mc_deck.specs.declared.refusal.DeckRefusal.{DeckRefusal}
use Rattle.mc_deck.specs.declared.refusal.DeckRefusal
use Rattle.mc_deck.specs.declared.refusal.Fault.{Fault}
use Rattle.mc_deck.specs.declared.refusal.Fault

-- the refusal is the one of the definition, or out of memory
abbrev pub DeckRefuses : {A : Type 0} → Result A (ℕ × DeckCause) → DeckRefusal → Type 0
DeckRefuses r (DeckRefusal.TheVariants.At n c) = r ≡ Err (n, c)
DeckRefuses r DeckRefusal.TheVariants.NoMemory = ⊤

-- the refusal of a statement, without its line, is the one of the definition, or out of memory
abbrev pub Faulty : {A : Type 0} → Result A DeckCause → Fault → Type 0
Faulty r (Fault.TheVariants.Cause c) = r ≡ Err c
Faulty r Fault.TheVariants.NoMemory = ⊤
