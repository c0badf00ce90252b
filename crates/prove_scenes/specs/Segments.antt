-- The bytes of a segment that are zeros until some are set.
use Rattle.std.specs.Prelude.{◌≡◌, ◌≤◌, ℕ, List, [], ◌∷◌, length}
use Rattle.model_machine.specs.model_device.specs.Bytes.{zeros}
use Rattle.prove_scenes.specs.declared.segment.Segment.TheInside.{Inside}

-- n bytes: those that are kept, or zeros if none are
abbrev pub laid : ℕ → List ℕ → List ℕ
laid n [] = zeros n
laid n (b ∷ bs) = b ∷ bs

-- the bytes of a segment
abbrev pub segment_bytes : Inside → List ℕ
segment_bytes s = laid s.size s.kept.items

-- the invariant of the fields: they are as many bytes as its size says, and 4,096 at most
pub record KeepsSegment (s : Inside) : Type 0 where
  pub most : s.size ≤ 4096
  pub long : length (segment_bytes s) ≡ s.size
