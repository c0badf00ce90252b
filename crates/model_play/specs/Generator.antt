-- The deck that a number generates, and the summary of its play.
use Rattle.std.specs.Prelude.{ℕ, zero, suc, ◌+◌, ◌*◌, ◌/◌, ◌%◌, ◌^◌, Bool, true, false, cond, nat_lt, ◌==◌, List, [], ◌∷◌, ◌++◌, length, filter, filter_map, flat_map, codes, decimal}
use Rattle.model_card.specs.model_device.specs.Bytes.{bytes, zeros}
use Rattle.model_card.specs.Units.{UnitParts}
use Rattle.model_text.specs.Text.{with_numbers}
use Rattle.model_card.specs.model_machine.specs.Chain.{Reply, Abended}
use Rattle.model_play.specs.Play.{Step, LineResult, Ready, OffAt, FailureStop, NoCard, Answered}
use Rattle.model_play.specs.Transcript.{text_of_result}
use Rattle.model_play.specs.DeckGrammar.{DeckLine, Format, Power, Named, Sent, Load, Select, Delete, Dump, Apdu, Cut, made_unit}

-- ---- draws

-- the number after a draw: a step of a linear congruential generator modulo 2^31
abbrev pub next : ℕ → ℕ
next x = (x * 1103515245 + 12345) % 2 ^ 31

-- the value of a draw: the high bits of the number
abbrev pub draw : ℕ → ℕ
draw x = x / 65536

-- ---- the three applications

-- the name of the counter
abbrev pub counter_aid : List ℕ
counter_aid = 0xA0 ∷ 0 ∷ 0 ∷ 0 ∷ 1 ∷ []

-- the name of the purse
abbrev pub purse_aid : List ℕ
purse_aid = 0xA0 ∷ 0 ∷ 0 ∷ 0 ∷ 2 ∷ []

-- the name of the relay
abbrev pub relay_aid : List ℕ
relay_aid = 0xA0 ∷ 0 ∷ 0 ∷ 0 ∷ 3 ∷ []

-- the counter: it adds one at each command, and replies with its two bytes
abbrev pub counter : UnitParts
counter =
    made_unit counter_aid
    (0xB9 ∷ 0x02 ∷ 0x00 ∷ 0x00
    ∷ 0x39 ∷ 0x02 ∷ 0x00 ∷ 0x00
    ∷ 0x46 ∷ 0x02 ∷ 0x00 ∷ 0x00
    ∷ 0x06 ∷ 0x00 ∷ 0x02 ∷ [])
    []

-- the purse: INS 30 credits, 40 debits, 50 answers with the balance
abbrev pub purse : UnitParts
purse =
    made_unit purse_aid
    (0x77 ∷ 0x30 ∷ 0xFF ∷ 0xF4 ∷ 0x11 ∷ 0x00 ∷ 0x23
    ∷ 0x77 ∷ 0x40 ∷ 0xFF ∷ 0xF4 ∷ 0x11 ∷ 0x00 ∷ 0x2C
    ∷ 0x77 ∷ 0x50 ∷ 0xFF ∷ 0xF4 ∷ 0x11 ∷ 0x00 ∷ 0x18
    ∷ 0x05 ∷ 0x6D ∷ 0x00
    ∷ 0x39 ∷ 0x04 ∷ 0x00 ∷ 0x00 ∷ 0x46 ∷ 0x04 ∷ 0x00 ∷ 0x00 ∷ 0x06 ∷ 0x00 ∷ 0x04
    ∷ 0x3E ∷ 0x04 ∷ 0x00 ∷ 0x00 ∷ 0xD9 ∷ 0x04 ∷ 0x00 ∷ 0x00 ∷ 0x04
    ∷ 0x39 ∷ 0x04 ∷ 0x00 ∷ 0x00 ∷ 0x3E ∷ 0x04 ∷ 0x00 ∷ 0x00 ∷ 0xE0 ∷ 0x04 ∷ 0x12 ∷ 0x00 ∷ 0x4A
    ∷ 0x24 ∷ 0x04 ∷ 0x29 ∷ 0x03 ∷ 0x02 ∷ 0x41 ∷ 0x04 ∷ 0x00 ∷ 0x00 ∷ 0xB9 ∷ 0x02 ∷ 0x00 ∷ 0x08
    ∷ 0x29 ∷ 0x03 ∷ 0x01 ∷ 0x04
    ∷ 0x05 ∷ 0x69 ∷ 0x85 ∷ [])
    []

-- the relay: it delegates the command to the application that its static bytes name
abbrev pub relay : UnitParts
relay = made_unit relay_aid (0x22 ∷ 0x00 ∷ 0x00 ∷ 0x28 ∷ 0x07 ∷ 0x04 ∷ []) (0x05 ∷ counter_aid)

-- ---- the lines

-- the first eight lines
abbrev pub opening_lines : List DeckLine
opening_lines = Format ∷ Power ∷ Named ∷ Named ∷ Named ∷ Sent (Load counter 2 0) ∷ Sent (Load purse 10 0) ∷ Sent (Load relay 6 0) ∷ []

-- a command to a purse, with a number of four bytes or none
abbrev pub command : ℕ → List ℕ → DeckLine
command ins number = Sent (Apdu (0x80 ∷ ins ∷ 0 ∷ 0 ∷ 4 ∷ number))

-- `OPEN-2--`, the commit record of journal 2
abbrev pub opening_word : List ℕ
opening_word = 0x4F ∷ 0x50 ∷ 0x45 ∷ 0x4E ∷ 0x2D ∷ 0x32 ∷ 0x2D ∷ 0x2D ∷ []

-- a cut by a draw
abbrev pub cut_line : ℕ → DeckLine
cut_line q = Cut (1 + q % 12) (cond (q / 12 % 2 == 1) opening_word (zeros 8))

-- a line on the purse by a draw, or power
abbrev pub purse_line : ℕ → DeckLine
purse_line q = cond (q % 4 == 0) (Sent (Delete purse_aid)) (cond (q % 4 == 1) (Sent (Load purse 10 0)) Power)

-- the line of a turn that draws r and q
abbrev pub line_of : ℕ → ℕ → DeckLine
line_of r q =
    cond (r % 16 == 0) (Sent (Select counter_aid))
    (cond (r % 16 == 1) (Sent (Select relay_aid))
    (cond (r % 16 == 2) (Sent (Select purse_aid))
    (cond (r % 16 == 3) Power
    (cond (nat_lt (r % 16) 9) (Sent (Apdu (0x80 ∷ 1 ∷ 0 ∷ 0 ∷ 2 ∷ [])))
    (cond (nat_lt (r % 16) 11) (command 0x30 (bytes 4 q))
    (cond (nat_lt (r % 16) 13) (command 0x40 (bytes 4 q))
    (cond (r % 16 == 13) (command 0x50 [])
    (cond (r % 16 == 14) (cut_line q)
    (purse_line q)))))))))

-- the lines of n turns, each by two draws
abbrev pub turns : ℕ → ℕ → List DeckLine
turns zero x = []
turns (suc k) x = line_of (draw (next x)) (draw (next (next x))) ∷ turns k (next (next x))

-- the last four lines
abbrev pub closing_lines : List DeckLine
closing_lines = Power ∷ Dump counter_aid ∷ Dump purse_aid ∷ Dump relay_aid ∷ []

-- the numbered lines of the deck that n generates
unfoldable pub deck_of_number : ℕ → List (ℕ × DeckLine)
deck_of_number n = with_numbers 1 (opening_lines ++ turns 4000 n ++ closing_lines)

-- ---- the summary of a play

-- whether a result is a reply, or that of a failed write
abbrev pub is_reply : LineResult → Bool
is_reply (Answered (Reply body sw)) = true
is_reply FailureStop = true
is_reply _ = false

-- whether a result is an abend
abbrev pub is_abend : LineResult → Bool
is_abend (Answered (Abended cause)) = true
is_abend _ = false

-- whether a result is that of a line that a cut hit
abbrev pub is_cut : LineResult → Bool
is_cut (OffAt k) = true
is_cut _ = false

-- whether a result is that of a line without a card
abbrev pub is_off : LineResult → Bool
is_off NoCard = true
is_off _ = false

-- whether a result is `ready`
abbrev pub is_ready : LineResult → Bool
is_ready (Ready n) = true
is_ready _ = false

-- the results of the lines that have one
abbrev pub results : List Step → List LineResult
results ts = filter_map (λ t. t.result) ts

-- the number of results that pass a test
abbrev pub count : (LineResult → Bool) → List LineResult → ℕ
count test rs = length (filter test rs)

-- whether a line is a dump
abbrev pub is_dump : DeckLine → Bool
is_dump (Dump aid) = true
is_dump _ = false

-- the results of the `dump` lines, a line each
abbrev pub dump_lines : List Step → List ℕ
dump_lines ts = flat_map (λ r. text_of_result r ++ codes "\n") (results (filter (λ t. is_dump t.line) ts))

-- the counts of a play: of its results, replies, abends, cuts, lines without a card and power-ups
abbrev pub count_line : List LineResult → List ℕ
count_line rs =
    codes "lines " ++ decimal (length rs) ++ codes " replies " ++ decimal (count is_reply rs) ++ codes " abends " ++ decimal (count is_abend rs)
    ++ codes " cuts " ++ decimal (count is_cut rs) ++ codes " offs " ++ decimal (count is_off rs) ++ codes " readies " ++ decimal (count is_ready rs) ++ codes "\n"

-- the summary of a play
unfoldable pub summary : List Step → List ℕ
summary ts = count_line (results ts) ++ dump_lines ts
