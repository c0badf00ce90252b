-- The bytes that a read of one frame takes from a source.
use Rattle.std.specs.Prelude.{◌≡◌, ℕ, ◌<◌, ◌≤◌, List, [], length, take, Option, Some, None, Result, Ok, Err}
use Rattle.mc_words.specs.model_device.specs.Counts.{Rose}
use Rattle.mc_streams.specs.Streams.{Took, AtEnd}
use Rattle.mc_reader.specs.Frames.{frame_bytes, first_frame}
use Rattle.mc_reader.specs.declared.reading.FrameFault.{FrameFault}
use Rattle.mc_reader.specs.declared.reading.FrameFault.TheVariants.{Short, ReadFault}

-- fewer than `size` bytes were taken
pub record TookLess (old new : Option (List ℕ)) (size : ℕ) : Type 0 where
  pub part : List ℕ
  pub took : Took old new part
  pub less : length part < size

-- the bytes that were taken are less than a frame
pub record TookPart (old new : Option (List ℕ)) : Type 0 where
  pub part : List ℕ
  pub took : Took old new part
  pub less : first_frame part ≡ None

-- a complete frame was taken, and is in the first bytes of the room
pub record TookFrame (old new : Option (List ℕ)) (room : List ℕ) (size : ℕ) : Type 0 where
  pub took : Took old new (frame_bytes (take size room))
  pub fits : size ≤ length room

-- the input ended before a frame
pub record TookNone (old new : Option (List ℕ)) : Type 0 where
  pub took : Took old new []
  pub end : AtEnd new

-- the input ended inside a frame
pub record TookShort (old new : Option (List ℕ)) : Type 0 where
  pub took : TookPart old new
  pub some : 0 < length took.part
  pub end : AtEnd new

-- the end of a read of a frame, by its result: exactly the frame was taken, or nothing, or the received part of it
abbrev pub ReadsFrame : Option (List ℕ) → ℕ → Option (List ℕ) → ℕ → List ℕ → Result (Option ℕ) FrameFault → Type 0
ReadsFrame old a new b room (Ok (Some size)) = TookFrame old new room size
ReadsFrame old a new b room (Ok None) = TookNone old new
ReadsFrame old a new b room (Err Short) = TookShort old new
ReadsFrame old a new b room (Err ReadFault) = TookPart old new × Rose a b
