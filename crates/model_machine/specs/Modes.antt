-- Blocks added to each other, block by block through a cipher, and in a chain.
-- FIPS 81 (DES modes of operation), and NIST SP 800-38A.
use Rattle.std.specs.Prelude.{◌≡◌, ℕ, zero, suc, ◌/◌, ◌<◌, List, [], ◌∷◌, ◌++◌, length, take, drop, bit_xor}

-- two lists added place by place, bit by bit (exclusive or)
abbrev pub bit_sum : List ℕ → List ℕ → List ℕ
bit_sum [] ys = []
bit_sum (x ∷ xs) [] = x ∷ xs
bit_sum (x ∷ xs) (y ∷ ys) = bit_xor x y ∷ bit_sum xs ys

-- the first n blocks of a message
abbrev pub blocks_of : ℕ → ℕ → List ℕ → List (List ℕ)
blocks_of zero size message = []
blocks_of (suc n) size message = take size message ∷ blocks_of n size (drop size message)

-- a cipher applied to each block, joined
abbrev pub each : (List ℕ → List ℕ) → List (List ℕ) → List ℕ
each cipher [] = []
each cipher (b ∷ bs) = cipher b ++ each cipher bs

-- the last block of CBC: every block is added to the one before it, and enciphered
abbrev pub last_of_chain : (List ℕ → List ℕ) → List ℕ → List (List ℕ) → List ℕ
last_of_chain cipher last [] = last
last_of_chain cipher last (b ∷ bs) = last_of_chain cipher (cipher (bit_sum b last)) bs

-- ECB: a message of whole blocks, block by block (SP 800-38A, 6.1)
abbrev pub ecb : (List ℕ → List ℕ) → ℕ → List ℕ → List ℕ
ecb cipher size message = each cipher (blocks_of (length message / size) size message)

-- the last block of CBC over a message of whole blocks, from a start block (SP 800-38A, 6.2)
abbrev pub cbc_last : (List ℕ → List ℕ) → ℕ → List ℕ → List ℕ → List ℕ
cbc_last cipher size start message = last_of_chain cipher start (blocks_of (length message / size) size message)

-- each number of a list is below m
abbrev pub AllBelow : ℕ → List ℕ → Type 0
AllBelow m [] = Unit {0}
AllBelow m (x ∷ xs) = (x < m) × AllBelow m xs

-- a list of n bytes
pub record IsBlock (n : ℕ) (l : List ℕ) : Type 0 where
  pub size : length l ≡ n
  pub bytes : AllBelow 256 l
