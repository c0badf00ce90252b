-- The first state of an exploration, as the code comes to it from the end of a deck.
use Rattle.std.specs.Prelude.{◌≡◌, ℕ, Bool, true, false, List, Option, Some}
use Rattle.law_explore_text.specs.model_play.specs.DeckGrammar.{DeckLine}
use Rattle.law_explore_text.specs.model_play.specs.Play.{Unarmed, Warm, State, BeforePower, AfterPower, armed_stop_in}
use Rattle.law_explore_text.specs.law_explore.specs.States.{first_play, first_warm, play_of_deck, warm_in}
use Rattle.mc_script.specs.declared.answer.Answer.{Answer}
use Rattle.mc_script.specs.declared.answer.Answer.TheVariants as answer
use Rattle.mc_script.specs.declared.live.Live.{Live}
use Rattle.lab_key.specs.Shown.{IsShown}
use Rattle.lab_search.specs.declared.beginning.Lead.{Lead}
use Rattle.lab_search.specs.Kept.{is_armed, needs_power}

-- a state without its armed stop
abbrev pub without_stop : State → State
without_stop (BeforePower m b a) = BeforePower m b Unarmed
without_stop (AfterPower w) = AfterPower (record w { armed = Unarmed })

-- Words show the play from which is explored, as it comes of another; a power line was played if it was needed.
pub record IsPowered (u : Warm) (words : List (List ℕ)) (played : Bool) (saved : Live) (count : ℕ) : Type 0 where
  pub power : played ≡ needs_power u.live u.base
  pub shows : IsShown words saved (first_warm u).base (first_warm u).live
  pub budget : count ≡ (first_warm u).budget

-- Words show the play from which a deck is explored, and what leads there from its end.
pub record IsFirst (ls : List (ℕ × DeckLine)) (words : List (List ℕ)) (count : ℕ) (lead : Lead) (saved : Live) : Type 0 where
  pub armed : lead.armed ≡ is_armed (armed_stop_in (play_of_deck ls))
  pub power : lead.power ≡ needs_power (warm_in (play_of_deck ls)).live (warm_in (play_of_deck ls)).base
  pub shows : IsShown words saved (first_play ls).base (first_play ls).live
  pub budget : count ≡ (first_play ls).budget

-- whether an answer says that a card was found
abbrev pub is_ready_answer : Option Answer → Bool
is_ready_answer (Some (answer.Ready n)) = true
is_ready_answer _ = false
