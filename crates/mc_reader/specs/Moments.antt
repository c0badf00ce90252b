-- The moments of a session at which its host is asked for a frame, and which of them a host records.
use Rattle.std.specs.Prelude.{◌≡◌, ℕ, List, [], ◌∷◌, ◌++◌, Option, Some, None, ⊤}
use Rattle.mc_text.specs.Texts.{Sunk}
use Rattle.mc_script.specs.Plays.{Bench}

-- what is seen when the host is asked for a frame: the device of the card, and the sink of the answers
pub record Moment : Type 0 where
  pub dev : Bench
  pub out : Sunk

-- these moments were added to those that a host has recorded, if it records them
abbrev pub Records : Option (List Moment) → List Moment → Option (List Moment) → Type 0
Records None ms new = ⊤
Records (Some old) ms None = ⊥
Records (Some old) ms (Some new) = new ≡ old ++ ms

-- the moments of frames that come after those in `before`: each frame has a moment, which is one after the frames
-- before it, and there is at most one more moment, after the last frame
abbrev pub AreMoments : (List (List ℕ) → Moment → Type 0) → List (List ℕ) → List (List ℕ) → List Moment → Type 0
AreMoments IsAfter before fs [] = fs ≡ []
AreMoments IsAfter before [] (m ∷ ms) = IsAfter before m × (ms ≡ [])
AreMoments IsAfter before (f ∷ fs) (m ∷ ms) = IsAfter before m × AreMoments IsAfter (before ++ f ∷ []) fs ms
