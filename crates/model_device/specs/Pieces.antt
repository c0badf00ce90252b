-- Pieces of bytes that are laid over a list, in order.
use Rattle.std.specs.Prelude.{◌≡◌, ◌<◌, ◌≤◌, ◌*◌, take, map, IfSome, slice_index, length, Some, is_none, zero, suc, ℕ, ◌+◌, ◌-◌, cond, nat_lt, nat_le, ◌==◌, List, [], ◌∷◌, slice_get, Option, None}
use Rattle.std.specs.List.{AllByRecursion}
use Rattle.model_device.specs.Bytes.{down, splice, or_else}

-- the byte at a place of the last piece that covers it, if one does
abbrev pub covering_byte : List (ℕ × List ℕ) → ℕ → Option ℕ
covering_byte [] i = None
covering_byte (p ∷ ps) i = or_else (covering_byte ps i) (cond (nat_le p.0 i) (slice_get p.1 (i - p.0)) None)

-- the list with the pieces laid over it, in order
abbrev pub laid_pieces : List ℕ → List (ℕ × List ℕ) → List ℕ
laid_pieces l [] = l
laid_pieces l (p ∷ ps) = laid_pieces (splice l p.0 p.1) ps

-- an ascending list of distinct numbers with one more
abbrev pub with_number : ℕ → List ℕ → List ℕ
with_number n [] = n ∷ []
with_number n (k ∷ ks) = cond (n == k) (k ∷ ks) (cond (nat_lt n k) (n ∷ k ∷ ks) (k ∷ with_number n ks))

-- numbers of words, with those of the words in which a piece's bytes lie
abbrev pub with_words : ℕ → List ℕ → List ℕ → List ℕ
with_words at [] ns = ns
with_words at (b ∷ bs) ns = with_words (at + 1) bs (with_number (down at 8) ns)

-- numbers of words, with those of the words that pieces touch
abbrev pub with_touched : List ℕ → List (ℕ × List ℕ) → List ℕ
with_touched ns [] = ns
with_touched ns (p ∷ ps) = with_touched (with_words p.0 p.1 ns) ps

-- the numbers of the words that the pieces touch, distinct and ascending
unfoldable pub touched_words : List (ℕ × List ℕ) → List ℕ
touched_words ps = with_touched [] ps

-- ---- pending words: pairs of a word's number and its eight bytes

-- the numbers of words
abbrev pub numbers : List (ℕ × List ℕ) → List ℕ
numbers ws = map (λ w. w.0) ws

-- numbers from `least` on, each above the one before
abbrev pub Ascend : ℕ → List ℕ → Type 0
Ascend least [] = Unit {0}
Ascend least (n ∷ ns) = (least ≤ n) × Ascend (n + 1) ns

-- pending words ascend by their numbers, and are whole
pub record ArePending (ws : List (ℕ × List ℕ)) : Type 0 where
  pub ascending : Ascend 0 (numbers ws)
  pub whole : AllByRecursion (λ w. length w.1 ≡ 8) ws

-- the word that is pending under a number
abbrev pub pending_at : List (ℕ × List ℕ) → ℕ → Option (List ℕ)
pending_at [] n = None
pending_at (w ∷ ws) n = cond (w.0 == n) (Some w.1) (pending_at ws n)

-- pending words with one more, which replaces the one with its number
abbrev pub put_word : ℕ → List ℕ → List (ℕ × List ℕ) → List (ℕ × List ℕ)
put_word n b [] = (n, b) ∷ []
put_word n b (w ∷ ws) = cond (w.0 == n) ((n, b) ∷ ws) (cond (nat_lt n w.0) ((n, b) ∷ w ∷ ws) (w ∷ put_word n b ws))

-- the number of words in n..n + count that are not pending
abbrev pub not_pending : ℕ → ℕ → List (ℕ × List ℕ) → ℕ
not_pending n zero ws = 0
not_pending n (suc count) ws = cond (is_none (pending_at ws n)) 1 0 + not_pending (n + 1) count ws

-- words as pieces, each at eight times its number
abbrev pub word_pieces : List (ℕ × List ℕ) → List (ℕ × List ℕ)
word_pieces ws = map (λ w. (8 * w.0, w.1)) ws

-- the list with words laid over it, cut at its length
abbrev pub laid_words : List ℕ → List (ℕ × List ℕ) → List ℕ
laid_words l ws = take (length l) (laid_pieces l (word_pieces ws))

-- pieces with at least one byte that lie in a list of this length
abbrev pub LieIn : ℕ → List (ℕ × List ℕ) → Type 0
LieIn n ps = AllByRecursion (λ p. (0 < length p.1) × (p.0 + length p.1 ≤ n)) ps

-- Pending words hold the pieces over a list: they are the words that the pieces touch, and have the bytes of the list
-- with the pieces laid over it. Past the list's end a word may hold anything.
pub record HoldPieces (l : List ℕ) (ps ws : List (ℕ × List ℕ)) : Type 0 where
  pub pending : ArePending ws
  pub touched_words : numbers ws ≡ touched_words ps
  pub bytes : (n k : ℕ) → k < 8 → 8 * n + k < length l → IfSome (pending_at ws n) (λ b. slice_index b k ≡ slice_index (laid_pieces l ps) (8 * n + k))
