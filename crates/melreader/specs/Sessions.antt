-- The relation of the top call to its environment at each of its statuses.
use Rattle.std.specs.Prelude.{◌≡◌, ◌⊎◌, ℕ, ◌++◌, List, codes, decimal, Option, None, Result, Ok, Err}
use Rattle.mc_deck.specs.model_play.specs.DeckGrammar.{DeckLine}
use Rattle.mc_streams.specs.declared.sink.Sink as sink
use Rattle.mc_streams.specs.declared.source.Source as source
use Rattle.mc_text.specs.Texts.{sunk, Sunk}
use Rattle.mc_script.specs.Benches.{BenchMembers}
use Rattle.mc_reader.specs.declared.host.Host as host
use Rattle.mc_reader.specs.Sessions.{around, AroundSession, Serves}
use Rattle.mc_reader.specs.declared.serve_error.ServeError.{ServeError}
use Rattle.mc_reader.specs.declared.serve_error.ServeError.TheVariants as serve
use Rattle.mc_filter.specs.Statuses.{IsWritten}
use Rattle.mc_filter.specs.declared.status.Status.{Status}
use Rattle.mc_filter.specs.declared.status.Status.TheVariants.{Done, Failed, NoForm, Partial, ReadFault, WriteFault, NoMemory}
use Rattle.mc_filter.specs.Inputs.{Stream}
use Rattle.melreader.specs.Decks.{IsDeck, DeckFails, DeckLimited}

-- the environment of the call: the deck's source, if there is one, the sink of refusals, and the environment of the
-- session
pub record ReaderOutside : Type 0 where
  pub deck_old : Option Stream
  pub deck : Option Stream
  pub err_old : Sunk
  pub err : Sunk
  pub session : AroundSession

-- a source as a host, which records no moment
abbrev pub host_of : {S : Type 0} → source.Ghosts S → host.Ghosts S
host_of s = record { left = s.left; faults = s.faults; moments = λ x. None }

-- the environment, by the values of a call before and after it
abbrev pub outside : {S T E N : Type 0} → source.Ghosts S → sink.Ghosts T → sink.Ghosts E → BenchMembers N
    → Option Stream → Option Stream → S → S → T → T → E → E → N → N → ReaderOutside
outside s t e n deck_old deck in_old in_new out_old out_new err_old err_new dev_old dev_new =
    record {
      deck_old = deck_old;
      deck = deck;
      err_old = sunk e err_old;
      err = sunk e err_new;
      session = around (host_of s) t n in_old in_new out_old out_new dev_old dev_new;
    }

-- the input, the sink of answers and the device are unchanged
abbrev pub AreKept : {S T N : Type 0} → S → S → T → T → N → N → Type 0
AreKept in_old in_new out_old out_new dev_old dev_new = (in_new ≡ in_old) × (out_new ≡ out_old) × (dev_new ≡ dev_old)

-- ---- the lines that are written beside the answers

-- the text that is written if the words are more than one, or are no text
abbrev pub usage : List ℕ
usage = codes "usage: melreader [DECK]\n"

-- the line that is written if the deck of a path cannot be opened
abbrev pub unopened : List ℕ → List ℕ
unopened path = codes "melreader: " ++ path ++ codes ": cannot be opened\n"

-- the output line if the input ended inside the frame with this number
abbrev pub short_frame : ℕ → List ℕ
short_frame n = codes "frame " ++ decimal n ++ codes " Short\n"

-- ---- statuses: `Kept` states that input, answers and device are unchanged

-- the deck is refused
pub record SaysRefused (Kept : Type 0) (s : Status) (o : ReaderOutside) : Type 0 where
  pub line : List ℕ
  pub deck : IsDeck o.deck_old o.deck (Err line)
  pub refused : IsWritten Failed line s o.err_old o.err
  pub kept : Kept

-- the deck was not read: its source failed, or the call was out of memory
pub record SaysNoDeck (Kept Cause : Type 0) (o : ReaderOutside) : Type 0 where
  pub cause : Cause
  pub err : o.err ≡ o.err_old
  pub kept : Kept

-- the status of a session by its end, and the line that is written for it
abbrev pub ReaderEnds : Result (Unit {0}) ServeError → Status → Sunk → Sunk → Type 0
ReaderEnds (Ok u) s a b = (s ≡ Done) × (b ≡ a)
ReaderEnds (Err (serve.Short n)) s a b = IsWritten Failed (short_frame n) s a b
ReaderEnds (Err serve.ReadFault) s a b = (s ≡ ReadFault) × (b ≡ a)
ReaderEnds (Err serve.WriteFault) s a b = (s ≡ WriteFault) × (b ≡ a)
ReaderEnds (Err serve.NoMemory) s a b = (s ≡ NoMemory) × (b ≡ a)

-- the deck was played, and the frames of the input were served
pub record SaysServed (s : Status) (o : ReaderOutside) : Type 0 where
  pub lines : List (ℕ × DeckLine)
  pub deck : IsDeck o.deck_old o.deck (Ok lines)
  pub result : Result (Unit {0}) ServeError
  pub serves : Serves lines result o.session
  pub ends : ReaderEnds result s o.err_old o.err

-- the meaning of each status
abbrev pub MelreaderSays : Type 0 → Status → ReaderOutside → Type 0
MelreaderSays Kept Done o = SaysServed Done o
MelreaderSays Kept Failed o = SaysRefused Kept Failed o ⊎ SaysServed Failed o
MelreaderSays Kept NoForm o = ⊥
MelreaderSays Kept ReadFault o = SaysNoDeck Kept (DeckFails o.deck_old o.deck) o ⊎ SaysServed ReadFault o
MelreaderSays Kept WriteFault o = SaysRefused Kept WriteFault o ⊎ SaysServed WriteFault o
MelreaderSays Kept NoMemory o = SaysNoDeck Kept (DeckLimited o.deck_old o.deck) o ⊎ SaysServed NoMemory o
MelreaderSays Kept Partial o = ⊥
