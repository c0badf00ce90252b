-- Words of the code as lists of bits.
use Rattle.std.specs.Prelude.{ℕ, ◌-◌, ◌*◌, ◌/◌, ◌^◌, List, [], ◌++◌, take, drop, slice_index_or}
use Rattle.model_machine.specs.model_device.specs.Bytes.{zeros}
use Rattle.model_machine.specs.Des.{bits, box_at, boxes, rounds}

-- n nibbles, of which the one at `place` is `four` and the others are zero
abbrev pub alone : ℕ → ℕ → ℕ → List ℕ
alone n place four = zeros (4 * place) ++ (bits 4 four ++ zeros (4 * (n - 1 - place)))

-- the 48 bits of a round key: each of its eight groups of six bits is in a byte of its own, in the order in which the
-- S-boxes read them
unfoldable pub key_bits : ℕ → List ℕ
key_bits w =
    bits 6 (w / 2 ^ 32) ++ bits 6 w ++ bits 6 (w / 2 ^ 56) ++ bits 6 (w / 2 ^ 24)
    ++ bits 6 (w / 2 ^ 48) ++ bits 6 (w / 2 ^ 16) ++ bits 6 (w / 2 ^ 40) ++ bits 6 (w / 2 ^ 8)

-- eight nibbles, of which the one at an S-box's place is its value for six bits and the others are zero
abbrev pub box_alone : ℕ → ℕ → List ℕ
box_alone number six = zeros (4 * number) ++ (box_at (slice_index_or boxes number []) (bits 6 six) ++ zeros (4 * (7 - number)))

-- the rounds of a permuted block of 64 bits, with its halves exchanged after them: the preoutput block of FIPS 46-3
unfoldable pub block_after_rounds : List (List ℕ) → List ℕ → List ℕ
unfolding rounds
block_after_rounds ks block = let halves = rounds ks (take 32 block) (drop 32 block) in halves.1 ++ halves.0
