-- Bytes of a segment that a word is written over.
use Rattle.std.specs.Prelude.{◌≡◌, ◌<◌, ◌+◌, ℕ, List, [], ◌∷◌, length, slice_index, unwrap_or}
use Rattle.mc_words.specs.model_device.specs.Pieces.{covering_byte}

-- The bytes `old` at `at` of a segment become `new` when the word at `place` is written over the segment, as far as
-- they overlap.
pub record IsOverlaid (old : List ℕ) (at place : ℕ) (word new : List ℕ) : Type 0 where
  pub len : length new ≡ length old
  pub bytes : (i : ℕ) → i < length old → slice_index new i ≡ unwrap_or (covering_byte ((place, word) ∷ []) (at + i)) (slice_index old i)
