-- The requests of frames as the code has them, and what they represent.
use Rattle.std.specs.Prelude.{◌≡◌, ℕ, ◌<◌, length, Result, Ok, Err}
use Rattle.mc_deck.specs.model_play.specs.DeckGrammar.{DeckLine}
use Rattle.mc_deck.specs.model_play.specs.DeckGrammar as line
use Rattle.mc_deck.specs.Lines.{GoodLine}
use Rattle.mc_reader.specs.Meanings as meaning
use Rattle.mc_reader.specs.Meanings.{Meaning, wrong_length, wrong_instruction, wrong_parameters, wrong_value}
use Rattle.mc_reader.specs.declared.order.Order.{Order}
use Rattle.mc_reader.specs.declared.order.Order.TheVariants as order
use Rattle.mc_reader.specs.declared.order.Refusal.{Refusal}
use Rattle.mc_reader.specs.declared.order.Refusal.TheVariants as refusal
use Rattle.mc_reader.specs.declared.request.Request.{Request}
use Rattle.mc_reader.specs.declared.request.Request.TheVariants as request

-- the status word of a refusal
abbrev pub status_of : Refusal → ℕ
status_of refusal.WrongLength = wrong_length
status_of refusal.WrongInstruction = wrong_instruction
status_of refusal.WrongParameters = wrong_parameters
status_of refusal.WrongValue = wrong_value

-- the line of an order
abbrev pub order_line : Order → DeckLine
order_line (order.Cut k fill) = line.Cut k fill
order_line (order.Fail k) = line.Fail k
order_line (order.Budget n) = line.Budget n

-- the order of a command to the reader, or its refusal, as the model has it
abbrev pub Orders : Result DeckLine ℕ → Result Order Refusal → Type 0
Orders said (Ok o) = said ≡ Ok (order_line o)
Orders said (Err r) = said ≡ Err (status_of r)

-- the meaning of a frame
abbrev pub meaning_of : Request → Meaning
meaning_of request.PowerOn = meaning.PowerOn
meaning_of request.PowerOff = meaning.PowerOff
meaning_of request.Atr = meaning.WantsAtr
meaning_of request.Nothing = meaning.Nothing
meaning_of (request.Order o) = meaning.Orders (order_line o)
meaning_of (request.Refused r) = meaning.Refused (status_of r)
meaning_of (request.ToCard b) = meaning.ToCard b.now
meaning_of request.Unheard = meaning.Unheard

-- the numbers in the line of a request are in the ranges of the deck grammar
abbrev pub IsGoodRequest : Request → Type 0
IsGoodRequest (request.Order o) = GoodLine (order_line o)
IsGoodRequest (request.ToCard b) = 0 < length b.now
IsGoodRequest _ = Unit {0}
