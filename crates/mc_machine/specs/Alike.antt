-- The reading of a frame, which is all that a row depends on: its pending bytes, and not the pieces that they come
-- from.
use Rattle.std.specs.Prelude.{◌≡◌, ℕ, true, false, List, length, option_map, Option}
use Rattle.law_machine.specs.model_machine.specs.declared.machine.Abend.{Abend}
use Rattle.law_machine.specs.model_device.specs.Pieces.{laid_pieces, touched_words}
use Rattle.law_machine.specs.model_machine.specs.Frame.{Frame, Effect}
use Rattle.law_machine.specs.model_machine.specs.Primitives.{Then, Done}
use Rattle.law_machine.specs.model_machine.specs.Row.{RowEnd, Abends, Does}
use Rattle.law_machine.specs.law_rows.specs.Keeping.{OnDone}
use Rattle.mc_segs.specs.HeldFrames.{Seen, frame_reading, no_pieces}
use Rattle.mc_segs.specs.Ends.{changed_bytes}

-- the reading of a static change, whichever pieces it is made of: the bytes after it, and the words that it touches
abbrev pub seen_change : List ℕ → Option (List (ℕ × List ℕ)) → Option (List ℕ × List ℕ)
seen_change fixed changes = option_map (λ ps. (laid_pieces fixed ps, touched_words ps)) changes

-- the reading of the end of a row, whichever pieces its frame is made of
pub data SeenEnd : Type 0 where
  SeenAbend : (cause : Abend) → SeenEnd
  SeenDone : (frame : Seen) (public : List ℕ) (change : Option (List ℕ × List ℕ)) (next : Then) → SeenEnd

-- the reading of the end of a row that began with the given static bytes
abbrev pub seen_end : List ℕ → RowEnd → SeenEnd
seen_end fixed (Abends a) = SeenAbend a
seen_end fixed (Does d) = SeenDone (frame_reading d.effect.frame) d.effect.public (seen_change fixed d.effect.changes) d.next

-- two effects with the same reading, from the given static bytes
pub record SameEffect (fixed : List ℕ) (d e : Effect) : Type 0 where
  pub frame : frame_reading d.frame ≡ frame_reading e.frame
  pub public : d.public ≡ e.public
  pub changes : seen_change fixed d.changes ≡ seen_change fixed e.changes

-- two instructions that are done, with the same reading
pub record SameDone (fixed : List ℕ) (d e : Done) : Type 0 where
  pub effect : SameEffect fixed d.effect e.effect
  pub next : d.next ≡ e.next

-- two ends of a row with the same reading
abbrev pub SameRowEnd : List ℕ → RowEnd → RowEnd → Type 0
SameRowEnd fixed (Abends a) (Abends b) = a ≡ b
SameRowEnd fixed (Abends a) (Does e) = ⊥
SameRowEnd fixed (Does d) (Abends b) = ⊥
SameRowEnd fixed (Does d) (Does e) = SameDone fixed d e

-- pieces are pending only while protection is on
abbrev pub IsGuarded : Frame → Type 0
IsGuarded f = f.protected ≡ false → no_pieces f.pieces ≡ true

-- two frames of one application with the same sizes
pub record SameApp (f g : Frame) : Type 0 where
  pub name : f.name ≡ g.name
  pub code_len : f.code_len ≡ g.code_len
  pub session : f.session ≡ g.session
  pub deny : f.deny ≡ g.deny

-- what an effect keeps of the frame and of the public segment that it began with; its static bytes are those of before
-- with its change
pub record KeepsEffect (f : Frame) (segment : List ℕ) (e : Effect) : Type 0 where
  pub app : SameApp e.frame f
  pub guarded : IsGuarded f → IsGuarded e.frame
  pub fixed : e.frame.fixed ≡ changed_bytes f.fixed e.changes
  pub public : length segment ≡ 1041 → length e.public ≡ 1041

-- what a row that is done keeps; nothing is claimed of one that abends
abbrev pub KeepsRow : Frame → List ℕ → RowEnd → Type 0
KeepsRow f public r = OnDone r (λ d. KeepsEffect f public d.effect)
