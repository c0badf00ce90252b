-- Frames of bytes: a length of two bytes, big endian, and that number of bytes. The virtual smart card reader vpcd of
-- the vsmartcard project.
use Rattle.std.specs.Prelude.{ℕ, zero, suc, ◌+◌, ◌*◌, cond, nat_le, List, [], ◌∷◌, ◌++◌, length, take, drop, Option, Some, None}
use Rattle.mc_words.specs.model_device.specs.Bytes.{bytes2}

-- a frame as it is sent
abbrev pub frame_bytes : List ℕ → List ℕ
frame_bytes f = bytes2 (length f) ++ f

-- frames as they are sent, in sequence
abbrev pub frames_bytes : List (List ℕ) → List ℕ
frames_bytes [] = []
frames_bytes (f ∷ fs) = frame_bytes f ++ frames_bytes fs

-- the first n bytes and those after them, if there are at least n
abbrev pub halves_at : ℕ → List ℕ → Option (List ℕ × List ℕ)
halves_at n bs = cond (nat_le n (length bs)) (Some (take n bs, drop n bs)) None

-- the frame at the start of bytes, and the bytes after it
abbrev pub first_frame : List ℕ → Option (List ℕ × List ℕ)
first_frame [] = None
first_frame (high ∷ []) = None
first_frame (high ∷ low ∷ bs) = halves_at (256 * high + low) bs

-- the bytes after a first frame
abbrev pub behind : Option (List ℕ × List ℕ) → List ℕ
behind None = []
behind (Some p) = p.1

-- a first frame before those after it, and the bytes that are not a complete frame
abbrev pub with_first : Option (List ℕ × List ℕ) → List ℕ → List (List ℕ) × List ℕ → List (List ℕ) × List ℕ
with_first None bs rest = ([], bs)
with_first (Some p) bs rest = (p.0 ∷ rest.0, rest.1)

-- at most n frames at the start of bytes, and the bytes after them
unfoldable pub frames_within : ℕ → List ℕ → List (List ℕ) × List ℕ
frames_within zero bs = ([], bs)
frames_within (suc n) bs =
    let first = first_frame bs in
    let rest = frames_within n (behind first) in
    with_first first bs rest

-- the frames of bytes, and the bytes after the last one, which are none or a part of a frame
abbrev pub frames_read : List ℕ → List (List ℕ) × List ℕ
frames_read bs = frames_within (length bs) bs
