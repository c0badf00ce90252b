-- Bytes that are put into the words of a static segment.
use Rattle.std.specs.Prelude.{◌≡◌, ℕ, ◌+◌, ◌-◌, ◌*◌, ◌/◌, ◌<◌, List, [], ◌∷◌, ◌++◌, length, slice_index, None, IfSome}
use Rattle.mc_words.specs.model_device.specs.Bytes.{splice}
use Rattle.mc_words.specs.model_device.specs.Pieces.{pending_at, put_word, not_pending, HoldPieces, LieIn}
use Rattle.mc_segs.specs.HeldFrames.{ArePendingIn}

-- Word n of a segment before bytes are put into it: the pending one, or else the segment's bytes. After the segment's
-- end it may hold anything.
pub record IsWordOf (l : List ℕ) (ws : List (ℕ × List ℕ)) (n : ℕ) (word : List ℕ) : Type 0 where
  pub eight : length word ≡ 8
  pub there : IfSome (pending_at ws n) (λ b. word ≡ b)
  pub fresh : pending_at ws n ≡ None → (k : ℕ) → k < 8 → 8 * n + k < length l → slice_index word k ≡ slice_index l (8 * n + k)

-- the pending words after bytes are put into word n
pub record PutsPiece (l : List ℕ) (ws : List (ℕ × List ℕ)) (n at : ℕ) (piece : List ℕ) (after : List (ℕ × List ℕ)) : Type 0 where
  pub word : List ℕ
  pub is : IsWordOf l ws n word
  pub words : after ≡ put_word n (splice word at piece) ws

-- the number of words that len bytes at `at` lie in
abbrev pub words_under : ℕ → ℕ → ℕ
words_under at len = (at + len - 1) / 8 + 1 - at / 8

-- the pending words after bytes are put into all the words that they lie in: if the words held some pieces, they hold
-- these bytes too
pub record PutsBytes (l : List ℕ) (ws : List (ℕ × List ℕ)) (at : ℕ) (b : List ℕ) (after : List (ℕ × List ℕ)) : Type 0 where
  pub pending : ArePendingIn (length l) after
  pub count : length after ≡ length ws + not_pending (at / 8) (words_under at (length b)) ws
  pub holds : (ps : List (ℕ × List ℕ)) → LieIn (length l) ps → HoldPieces l ps ws → HoldPieces l (ps ++ (at, b) ∷ []) after
