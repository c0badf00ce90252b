-- A log of turns, one line each, which writes no more after its sink failed.
use Rattle.std.specs.Prelude.{◌≡◌, List, Option, Some, None}
use Rattle.model_text.specs.model_machine.specs.Chain.{Turn}
use Rattle.model_text.specs.TurnText.{turn_lines}
use Rattle.mc_streams.specs.declared.refusals.WriteFault.{WriteFault}
use Rattle.mc_text.specs.Texts.{Sunk, Writes, Fails}

-- the state of a log: its sink, and the fault of the sink if it failed
pub record Log : Type 0 where
  pub out : Sunk
  pub fault : Option WriteFault

-- the lines of turns in a log that had no fault before: all of them, or a proper prefix of their text if the sink
-- failed
abbrev pub LoggedAs : Option WriteFault → Sunk → List Turn → Sunk → Type 0
LoggedAs None a ts b = Writes a (turn_lines ts) b
LoggedAs (Some f) a ts b = Fails a (turn_lines ts) b

-- the log of turns, by the fault before them: after a fault nothing is written
abbrev pub LoggedBy : Option WriteFault → Sunk → List Turn → Log → Type 0
LoggedBy None a ts m = LoggedAs m.fault a ts m.out
LoggedBy (Some f) a ts m = (m.fault ≡ Some f) × (m.out ≡ a)

-- a log l becomes m by logging turns
abbrev pub Logged : Log → List Turn → Log → Type 0
Logged l ts m = LoggedBy l.fault l.out ts m
