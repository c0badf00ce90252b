-- The turns of a run and their atomic writes.
use Rattle.std.proofs.Common.{◌≡◌, ℕ, zero, suc, ◌+◌, ◌≤◌, List, [], ◌∷◌, ◌++◌, length, Option, Some, None, Result, Ok, Err, refl, arith, ap, ◌∙◌}
use Rattle.std.proofs.lemmas.Bool.{le-leb, lt-leb}
use Rattle.model_play.specs.model_machine.specs.declared.instruction.Ins.{Ins}
use Rattle.model_play.specs.model_machine.specs.declared.instruction.DecodeFault.{DecodeFault}
use Rattle.model_play.specs.model_machine.specs.declared.instruction.DecodeFault.TheVariants.{Undefined, Past}
use Rattle.model_play.specs.model_device.specs.Bytes.{lookup}
use Rattle.model_play.specs.model_machine.specs.Code.{instruction_at}
use Rattle.model_play.specs.model_device.specs.Pieces.{touched_words}
use Rattle.model_play.specs.model_machine.specs.Row.{RowEnd, Abends, Does, row}
use Rattle.model_play.specs.model_device.specs.Image.{Two}
use Rattle.model_play.specs.model_device.specs.Stopped.{cost}
use Rattle.model_play.specs.model_card.specs.Items.{moves, write_items}
use Rattle.model_play.specs.model_machine.specs.Chain.{Chain, Turn, Acted, Continues, write_of, words_of_write, code_in, around, frame_at, row_turn, turn_of_fetch, turn_of_chain, turn_of, end_of}
use Rattle.model_play.specs.TraceText.{before_stop}

-- the device writes of a turn
abbrev pub turn_moves : Option ℕ → ℕ
turn_moves None = 0
turn_moves (Some w) = cost Two w

-- ---- the writes and the end in the record of a turn

write_moves : (n : List ℕ) (changes : Option (List (ℕ × List ℕ))) → moves (write_items (write_of n changes)) ≡ turn_moves (words_of_write changes)
write_moves n None = refl
write_moves n (Some ps) = let e : cost Two (length (touched_words ps)) + 0 ≡ cost Two (length (touched_words ps)) = omega arith in e

-- the record of a turn has the number of its device writes and its end
pub record TurnIsReported (t : Acted) : Type 0 where
  pub moves : moves (write_items t.writes) ≡ turn_moves t.turn.wrote
  pub end : t.turn.end ≡ end_of t.follows

row_reported : (ch : Chain) (i : Ins) (r : RowEnd) → TurnIsReported (row_turn ch i r)
row_reported ch i (Abends a) = record { moves = refl; end = refl }
row_reported ch i (Does d) = record { moves = write_moves ch.frame.name d.effect.changes; end = refl }

fetched_reported : (ch : Chain) (r : Result (Ins × ℕ) DecodeFault) → TurnIsReported (turn_of_fetch ch r)
fetched_reported ch (Err Undefined) = record { moves = refl; end = refl }
fetched_reported ch (Err Past) = record { moves = refl; end = refl }
fetched_reported ch (Ok i) = row_reported ch i.0 (row i.0 (frame_at ch.frame i.1) ch.public (around ch))

acted_reported : (ch : Chain) → TurnIsReported (turn_of_chain ch)
unfolding turn_of_chain
acted_reported ch = fetched_reported ch (instruction_at (code_in (lookup ch.map ch.frame.name)) ch.frame.at)

pub is_reported : (n : ℕ) (ch : Chain) → TurnIsReported (turn_of n ch)
is_reported zero ch = record { moves = refl; end = refl }
is_reported (suc n) ch = acted_reported ch

-- a turn that goes on is counted
row_counts : (ch next : Chain) (i : Ins) (r : RowEnd) → (row_turn ch i r).follows ≡ Continues next → (row_turn ch i r).count ≡ 1
row_counts ch next i (Abends a) e = refl
row_counts ch next i (Does d) e = refl

fetched_counts : (ch next : Chain) (r : Result (Ins × ℕ) DecodeFault) → (turn_of_fetch ch r).follows ≡ Continues next → (turn_of_fetch ch r).count ≡ 1
fetched_counts ch next r e = grind (arith, row_counts)

pub acted_counts : (ch next : Chain) → (turn_of_chain ch).follows ≡ Continues next → (turn_of_chain ch).count ≡ 1
unfolding turn_of_chain
acted_counts ch next e = fetched_counts ch next (instruction_at (code_in (lookup ch.map ch.frame.name)) ch.frame.at) e

-- ---- the turns before a stop

-- a stop in the first turn
stop_first : (w : Option ℕ) (t : Turn) (ts : List Turn) (k : ℕ) → t.wrote ≡ w → 1 ≤ k → k ≤ turn_moves w → before_stop (t ∷ ts) k ≡ []
stop_first None t ts k is low high = absurd (omega (arith, low, high))
stop_first (Some w) t ts k is low high = rw (is, le-leb k (cost Two w) high) refl

pub before_first : (t : Turn) (ts : List Turn) (k : ℕ) → 1 ≤ k → k ≤ turn_moves t.wrote → before_stop (t ∷ ts) k ≡ []
before_first t ts k low high = stop_first t.wrote t ts k refl low high

-- a stop after the first turn
stop_later : (w : Option ℕ) (t : Turn) (ts : List Turn) (k j : ℕ) → t.wrote ≡ w → 1 ≤ j → k ≡ turn_moves w + j → before_stop (t ∷ ts) k ≡ t ∷ before_stop ts j
stop_later w t ts k j is low e = grind (arith, lt-leb)

pub before_later : (t : Turn) (ts : List Turn) (k j : ℕ) → 1 ≤ j → k ≡ turn_moves t.wrote + j → before_stop (t ∷ ts) k ≡ t ∷ before_stop ts j
before_later t ts k j low e = stop_later t.wrote t ts k j refl low e

-- a stop after turns that are all before it
pub moves_of_turns : List Turn → ℕ
moves_of_turns [] = 0
moves_of_turns (t ∷ ts) = turn_moves t.wrote + moves_of_turns ts

pub before_behind : (ts us : List Turn) (k j : ℕ) → 1 ≤ j → k ≡ moves_of_turns ts + j → before_stop (ts ++ us) k ≡ ts ++ before_stop us j
unfolding moves_of_turns
before_behind [] us k j low e = let same : k ≡ j = omega (arith, e) in ap (λ (n : ℕ). before_stop us n) same
before_behind (t ∷ ts) us k j low e =
    before_later t (ts ++ us) k (moves_of_turns ts + j) (omega (arith, low)) (omega (arith, e)) ∙ ap (λ (vs : List Turn). t ∷ vs) (before_behind ts us (moves_of_turns ts + j) j low refl)
