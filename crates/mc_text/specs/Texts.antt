-- A text written to a sink: whole, or a proper prefix of it if the sink failed.
use Rattle.std.specs.Prelude.{◌≡◌, ℕ, List, Option, Result, Ok, Err}
use Rattle.model_text.specs.model_device.specs.Counts.{Rose}
use Rattle.mc_streams.specs.Streams.{Grew, GrewByPart}
use Rattle.mc_streams.specs.declared.refusals.WriteFault.{WriteFault}
use Rattle.mc_streams.specs.declared.sink.Sink.{Ghosts}

-- the state of a sink: the bytes that it has taken, if it records them, and its count of faults
pub record Sunk : Type 0 where
  pub taken : Option (List ℕ)
  pub faults : ℕ

-- the state of a sink, from its functions
abbrev pub sunk_in : {T : Type 0} → (T → Option (List ℕ)) → (T → ℕ) → T → Sunk
sunk_in taken faults out = record { taken = taken out; faults = faults out }

-- the state of a sink
abbrev pub sunk : {T : Type 0} → Ghosts T → T → Sunk
sunk s out = sunk_in s.taken s.faults out

-- a text was written whole from state a to state b, and no call of the sink failed
pub record Writes (a : Sunk) (text : List ℕ) (b : Sunk) : Type 0 where
  pub whole : Grew a.taken b.taken text
  pub counted : b.faults ≡ a.faults

-- a proper prefix of a text was written, and the sink failed
pub record Fails (a : Sunk) (text : List ℕ) (b : Sunk) : Type 0 where
  pub part : GrewByPart a.taken b.taken text
  pub cause : Rose a.faults b.faults

-- a text was put: written whole if the result is `Ok`, failed if it is `Err`
abbrev pub Puts : Sunk → List ℕ → Result (Unit {0}) WriteFault → Sunk → Type 0
Puts a text (Ok u) b = Writes a text b
Puts a text (Err f) b = Fails a text b
