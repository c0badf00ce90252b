-- Arithmetic on blocks of bytes as whole numbers, unsigned and big endian, with the flags.
use Rattle.std.specs.Prelude.{ℕ, ◌+◌, ◌-◌, ◌*◌, ◌/◌, ◌%◌, ◌^◌, Bool, nat_lt, nat_le, ◌==◌, List, [], ◌∷◌, length, map, bit_and, bit_or, bit_xor}
use Rattle.model_device.specs.Bytes.{num, bytes}

-- a result block with the flags C and Z
pub record Worked : Type 0 where
  pub value : List ℕ
  pub c : Bool
  pub z : Bool

-- whether a block is the number 0
abbrev pub is_zero : List ℕ → Bool
is_zero b = num b == 0

-- the result of n bytes that is v modulo 256 ^ n, with the flag C; Z is set if the result is zero
abbrev pub result_with_flags : ℕ → ℕ → Bool → Worked
result_with_flags n v c = record { value = bytes n v; c = c; z = is_zero (bytes n v) }

-- the sum of two blocks, with its carry in C
abbrev pub add_blocks : List ℕ → List ℕ → Worked
add_blocks a b = result_with_flags (length a) (num a + num b) (nat_le (256 ^ length a) (num a + num b))

-- the difference of two blocks, with its borrow in C
abbrev pub sub_blocks : List ℕ → List ℕ → Worked
sub_blocks a b = result_with_flags (length a) (256 ^ length a + num a - num b) (nat_lt (num a) (num b))

-- a block plus one, with its carry in C
abbrev pub inc_block : List ℕ → Worked
inc_block a = result_with_flags (length a) (num a + 1) (num a + 1 == 256 ^ length a)

-- a block less one, with its borrow in C
abbrev pub dec_block : List ℕ → Worked
dec_block a = result_with_flags (length a) (256 ^ length a + num a - 1) (num a == 0)

-- whether bit k of a number is set
abbrev pub bit : ℕ → ℕ → Bool
bit k v = v / 2 ^ k % 2 == 1

-- a block shifted left by k bits, with the last bit that is shifted out in C
abbrev pub shift_left_block : List ℕ → ℕ → Worked
shift_left_block a k = result_with_flags (length a) (num a * 2 ^ k) (bit (8 * length a - k) (num a))

-- a block shifted right by k bits, zeros entering, with the last bit that is shifted out in C
abbrev pub shift_right_block : List ℕ → ℕ → Worked
shift_right_block a k = result_with_flags (length a) (num a / 2 ^ k) (bit (k - 1) (num a))

-- a function of two bytes, applied to two blocks byte by byte
abbrev pub each_byte : (ℕ → ℕ → ℕ) → List ℕ → List ℕ → List ℕ
each_byte f [] b = []
each_byte f (x ∷ a) [] = []
each_byte f (x ∷ a) (y ∷ b) = f x y ∷ each_byte f a b

-- the bitwise and of two blocks
abbrev pub and_blocks : List ℕ → List ℕ → List ℕ
and_blocks a b = each_byte bit_and a b

-- the bitwise or of two blocks
abbrev pub or_blocks : List ℕ → List ℕ → List ℕ
or_blocks a b = each_byte bit_or a b

-- the bitwise exclusive or of two blocks
abbrev pub xor_blocks : List ℕ → List ℕ → List ℕ
xor_blocks a b = each_byte bit_xor a b

-- a block with each bit inverted
abbrev pub not_block : List ℕ → List ℕ
not_block a = map (λ x. 255 - x) a
