-- The meaning of a frame of the host: a control byte of the virtual reader, a command to the reader itself, or a
-- command to the card. vpcd's control bytes; ISO/IEC 7816-3, by which no card has the class FF; PC/SC, which reserves
-- it for readers; this project's commands.
use Rattle.std.specs.Prelude.{ℕ, Bool, true, false, cond, ◌&&◌, ◌==◌, nat_le, List, [], ◌∷◌, length, take, drop, Result, Ok, Err}
use Rattle.mc_words.specs.model_device.specs.Bytes.{num}
use Rattle.mc_deck.specs.model_play.specs.DeckGrammar.{DeckLine}
use Rattle.mc_deck.specs.model_play.specs.DeckGrammar as line

-- the meaning of a frame: power on or a reset; power off; a request of the ATR; nothing; a command to the reader for
-- this line, or one that is refused with this status word; a command to the card, or one while the card has no power
pub data Meaning : Type 0 where
  PowerOn : Meaning
  PowerOff : Meaning
  WantsAtr : Meaning
  Nothing : Meaning
  Orders : (l : DeckLine) → Meaning
  Refused : (status : ℕ) → Meaning
  ToCard : (bytes : List ℕ) → Meaning
  Unheard : Meaning

-- ---- commands to the reader, and the status words of their refusals

-- the status word if the length is not five bytes and the number that Lc states, or Lc is not that of the instruction
abbrev pub wrong_length : ℕ
wrong_length = 0x6700

-- the status word of an instruction that is none of the three
abbrev pub wrong_instruction : ℕ
wrong_instruction = 0x6D00

-- the status word if P1 or P2 is not 0
abbrev pub wrong_parameters : ℕ
wrong_parameters = 0x6A86

-- the status word of a number outside its range
abbrev pub wrong_value : ℕ
wrong_value = 0x6A80

-- a line, if its number is in its range
abbrev pub in_range : Bool → DeckLine → Result DeckLine ℕ
in_range true l = Ok l
in_range false l = Err wrong_value

-- the line `cut K FILL`, by its data
abbrev pub cut_order : List ℕ → Result DeckLine ℕ
cut_order body = let k = num (take 4 body) in in_range (nat_le 1 k) (line.Cut k (drop 4 body))

-- the line `fail K`, by its data
abbrev pub fail_order : List ℕ → Result DeckLine ℕ
fail_order body = let k = num body in in_range (nat_le 1 k) (line.Fail k)

-- the line `budget N`, by its data
abbrev pub budget_order : List ℕ → Result DeckLine ℕ
budget_order body = let n = num body in in_range (nat_le 1 n && nat_le n 65536) (line.Budget n)

-- an order with `size` bytes of data, whose P1 and P2 are 0
abbrev pub plain_order : ℕ → ℕ → ℕ → List ℕ → Result DeckLine ℕ → Result DeckLine ℕ
plain_order size p1 p2 body order =
    cond (length body == size) (cond ((p1 == 0) && (p2 == 0)) order (Err wrong_parameters)) (Err wrong_length)

-- an order by its instruction
abbrev pub order_by : ℕ → ℕ → ℕ → List ℕ → Result DeckLine ℕ
order_by ins p1 p2 body =
    cond (ins == 0xC0) (plain_order 12 p1 p2 body (cut_order body)) (
    cond (ins == 0xC1) (plain_order 4 p1 p2 body (fail_order body)) (
    cond (ins == 0xC2) (plain_order 4 p1 p2 body (budget_order body)) (Err wrong_instruction)
    )
    )

-- the order of a command of class FF
abbrev pub order : List ℕ → Result DeckLine ℕ
order (cla ∷ ins ∷ p1 ∷ p2 ∷ lc ∷ body) = cond (length body == lc) (order_by ins p1 p2 body) (Err wrong_length)
order _ = Err wrong_length

-- ---- frames

-- the meaning of a byte alone, which controls the reader
abbrev pub control : ℕ → Meaning
control b =
    cond (b == 0) PowerOff (cond (b == 1) PowerOn (cond (b == 2) PowerOn (cond (b == 4) WantsAtr Nothing)))

-- the meaning of an order, or of its refusal
abbrev pub by_order : Result DeckLine ℕ → Meaning
by_order (Ok l) = Orders l
by_order (Err status) = Refused status

-- the meaning of a command to the card, which receives it only under power
abbrev pub by_power : Bool → List ℕ → Meaning
by_power true f = ToCard f
by_power false f = Unheard

-- the meaning of a frame, by whether the card has power
abbrev pub meaning : Bool → List ℕ → Meaning
meaning powered [] = Nothing
meaning powered (b ∷ []) = control b
meaning powered (b ∷ c ∷ bs) = cond (b == 0xFF) (by_order (order (b ∷ c ∷ bs))) (by_power powered (b ∷ c ∷ bs))

-- whether the card has power after a frame
abbrev pub power_after : Bool → Meaning → Bool
power_after powered PowerOn = true
power_after powered PowerOff = false
power_after powered _ = powered
