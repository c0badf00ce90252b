-- Lists of bytes: parts of them, sums, and what is read from or written to segments of bytes.
use Rattle.std.proofs.Common.{◌≡◌, ℕ, zero, suc, ◌+◌, ◌/◌, ◌%◌, ◌^◌, ◌<◌, ◌≤◌, Bool, true, false, cond, List, [], ◌∷◌, ◌++◌, length, take, drop, Option, Some, None, arith}
use Rattle.std.specs.Prelude.{◌==◌, slice_index, position, unwrap_or, bit_and, bit_or, bit_xor}
use Rattle.std.proofs.lemmas.Nat.{and_le_l, or_lt, xor_lt}
use Rattle.std.proofs.lemmas.List.Quantifiers.{position-Some}
use Rattle.law_family.specs.model_device.specs.Bytes.{AreBytes, bytes, num, zeros, splice}
use Rattle.law_family.specs.model_device.specs.Pieces.{laid_pieces}
use Rattle.law_family.specs.model_device.proofs.ImageLemmas.{all_append}
use Rattle.law_family.specs.model_device.proofs.ListLemmas.{bytes_from}
use Rattle.law_family.specs.model_machine.specs.Blocks.{each_byte, not_block}
use Rattle.law_family.specs.model_machine.specs.Modes.{AllBelow}
use Rattle.law_family.specs.model_machine.specs.Frame.{Frame, Place, where_is, bytes_in, bytes_at}
use Rattle.law_bytes.specs.OfBytes.{ArePieces, IsByteFrame}

-- ---- parts

-- the first n of some bytes are bytes
pub taken : (n : ℕ) (l : List ℕ) → AreBytes l → AreBytes (take n l)
taken zero l h = tt
taken (suc n) [] h = tt
taken (suc n) (b ∷ l) h = (h.0, taken n l h.1)

-- bytes after bytes are bytes
pub joined : (xs ys : List ℕ) → AreBytes xs → AreBytes ys → AreBytes (xs ++ ys)
joined xs ys a b = all_append (λ x. x < 256) xs ys a b

-- bytes spliced into bytes are bytes
pub spliced : (l : List ℕ) (at : ℕ) (b : List ℕ) → AreBytes l → AreBytes b → AreBytes (splice l at b)
spliced l at b hl hb = joined (take at l ++ b) (drop (at + length b) l) (joined (take at l) b (taken at l hl) hb) (bytes_from l (at + length b) hl)

-- pieces of bytes laid over bytes are bytes
pub laid : (ps : List (ℕ × List ℕ)) (l : List ℕ) → ArePieces ps → AreBytes l → AreBytes (laid_pieces l ps)
laid [] l a h = h
laid (p ∷ ps) l a h = laid ps (splice l p.0 p.1) a.1 (spliced l p.0 p.1 h a.0)

-- zeros are bytes
pub zero_bytes : (n : ℕ) → AreBytes (zeros n)
zero_bytes zero = tt
zero_bytes (suc n) = (omega arith, zero_bytes n)

-- a remainder by 256 is a byte
pub remainder : (n : ℕ) → n % 256 < 256
remainder n = omega arith

-- a number written as n bytes is of bytes
pub number_bytes : (n v : ℕ) → AreBytes (bytes n v)
number_bytes zero v = tt
number_bytes (suc n) v = (remainder (v / 256 ^ n), number_bytes n v)

-- an element of some bytes, or zero beyond them, is a byte
pub indexed : (l : List ℕ) (i : ℕ) → AreBytes l → slice_index l i < 256
indexed [] i h = omega arith
indexed (b ∷ l) zero h = h.0
indexed (b ∷ l) (suc i) h = indexed l i h.1

-- a choice of two lists of bytes is of bytes
pub in_cond : (b : Bool) (x y : List ℕ) → AreBytes x → AreBytes y → AreBytes (cond b x y)
in_cond true x y p q = p
in_cond false x y p q = q

-- ---- two forms of the same

-- bytes are numbers below 256
pub below : (l : List ℕ) → AreBytes l → AllBelow 256 l
below [] h = tt
below (b ∷ l) h = (h.0, below l h.1)

-- numbers below 256 are bytes
pub of_below : (l : List ℕ) → AllBelow 256 l → AreBytes l
of_below [] h = tt
of_below (b ∷ l) h = (h.0, of_below l h.1)

-- ---- byte by byte

and_low : (a b : ℕ) → a < 256 → bit_and a b < 256
and_low a b h = omega (arith, and_le_l a b)

xor_low : (a b : ℕ) → a < 256 → b < 256 → bit_xor a b < 256
xor_low a b p q = xor_lt 8 a b p q

or_low : (a b : ℕ) → a < 256 → b < 256 → bit_or a b < 256
or_low a b p q = or_lt 8 a b p q

-- the bitwise and of bytes with a block is of bytes
pub anded : (a b : List ℕ) → AreBytes a → AreBytes (each_byte bit_and a b)
anded [] b h = tt
anded (x ∷ a) [] h = tt
anded (x ∷ a) (y ∷ b) h = (and_low x y h.0, anded a b h.1)

-- the bitwise exclusive or of bytes is of bytes
pub xored : (a b : List ℕ) → AreBytes a → AreBytes b → AreBytes (each_byte bit_xor a b)
xored [] b h k = tt
xored (x ∷ a) [] h k = tt
xored (x ∷ a) (y ∷ b) h k = (xor_low x y h.0 k.0, xored a b h.1 k.1)

-- the bitwise or of bytes is of bytes
pub ored : (a b : List ℕ) → AreBytes a → AreBytes b → AreBytes (each_byte bit_or a b)
ored [] b h k = tt
ored (x ∷ a) [] h k = tt
ored (x ∷ a) (y ∷ b) h k = (or_low x y h.0 k.0, ored a b h.1 k.1)

-- a block with its bits inverted is of bytes
pub inverted : (a : List ℕ) → AreBytes (not_block a)
inverted [] = tt
inverted (x ∷ a) = (omega arith, inverted a)

-- ---- what a frame reads

-- n bytes at a place of a frame of bytes are bytes
pub read_in : (f : Frame) (public : List ℕ) (n : ℕ) (o : Option Place) → IsByteFrame f → AreBytes public → AreBytes (bytes_in f public n o)
read_in f public n o h p = grind (arith, taken, bytes_from, laid)

-- n bytes at an address of a frame of bytes are bytes
pub read_bytes : (f : Frame) (public : List ℕ) (a n : ℕ) → IsByteFrame f → AreBytes public → AreBytes (bytes_at f public a n)
unfolding bytes_at
read_bytes f public a n h p = in_cond (n == 0) [] (bytes_in f public n (where_is f a n)) tt (read_in f public n (where_is f a n) h p)

-- ---- a count, and what it counts

-- at most n elements are taken
pub short_take : (n : ℕ) (l : List ℕ) → length (take n l) ≤ n
short_take zero l = omega arith
short_take (suc n) [] = omega arith
short_take (suc n) (x ∷ l) = omega (arith, short_take n l)

short_in : (f : Frame) (public : List ℕ) (n : ℕ) (o : Option Place) → length (bytes_in f public n o) ≤ n
short_in f public n o = grind (arith, short_take)

short_cond : (b : Bool) (n : ℕ) (l : List ℕ) → length l ≤ n → length (cond b [] l) ≤ n
short_cond true n l h = omega arith
short_cond false n l h = h

-- at most n bytes are read
pub short_read : (f : Frame) (public : List ℕ) (a n : ℕ) → length (bytes_at f public a n) ≤ n
unfolding bytes_at
short_read f public a n = short_cond (n == 0) n (bytes_in f public n (where_is f a n)) (short_in f public n (where_is f a n))

-- the number in at most one byte
pub small_number : (l : List ℕ) → length l ≤ 1 → AreBytes l → num l < 256
small_number [] few h = omega arith
small_number (b ∷ []) few h = let low : b < 256 = h.0 in omega arith
small_number (b ∷ c ∷ l) few h = absurd (omega (arith, few))

-- the place of what was found in fewer than 256 bytes
pub found_low : (p : ℕ → Bool) (l : List ℕ) (o : Option ℕ) → position p l ≡ o → length l < 256 → unwrap_or o 0 < 256
found_low p l None e few = omega arith
found_low p l (Some i) e few = let at = position-Some p l i 0 e in let low : i < length l = at.0 in omega arith
