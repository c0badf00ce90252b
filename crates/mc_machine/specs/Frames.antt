-- The frames that wait in a chain, as a list.
use Rattle.std.specs.Prelude.{◌≡◌, ℕ, true, List, [], ◌∷◌, Option, Some, None, is_some}
use Rattle.mc_segs.specs.HeldFrames.{Held}
use Rattle.mc_machine.specs.declared.waiting.Waiting.TheInside.{Inside}

-- a list of frames with the frame of a place, if there is one, before it
abbrev pub with_held_frame : Option Held → List Held → List Held
with_held_frame None hs = hs
with_held_frame (Some h) hs = h ∷ hs

-- the frames that wait, as a list in which the one that delegated last comes first
abbrev pub waiting_frames : Inside → List Held
waiting_frames w = with_held_frame w.third (with_held_frame w.second (with_held_frame w.first []))

-- a place is taken only if the one before it is
pub record HasNoGap (w : Inside) : Type 0 where
  pub second : is_some w.second ≡ true → is_some w.first ≡ true
  pub third : is_some w.third ≡ true → is_some w.second ≡ true

-- the first frame of a list was taken from it, if there is one
abbrev pub TookTop : List Held → Option Held → List Held → Type 0
TookTop [] None left = left ≡ []
TookTop (h ∷ hs) (Some g) left = (g ≡ h) × (left ≡ hs)
TookTop [] (Some g) left = ⊥
TookTop (h ∷ hs) None left = ⊥

-- the slot of the first frame of a list, if there is one
abbrev pub top_slot : List Held → Option ℕ
top_slot [] = None
top_slot (h ∷ hs) = Some h.slot
