-- The program: the deck that its words select, and the session on its own device.
use Rattle.std.specs.Prelude.{◌≡◌, ◌⊎◌, ℕ, List, [], ◌∷◌, ◌++◌, bytes_eq, codes, cond, Option, Some, None, Result, Ok, Err, string_bytes}
use Rattle.std.specs.declared.alloc.Global.{Global}
use Rattle.std.specs.declared.string.String.{String}
use Rattle.std.specs.Global.{Vec}
use Rattle.mc_words.specs.model_device.specs.Device.{device_words}
use Rattle.mc_words.specs.model_device.specs.declared.memory.NoMemory.{NoMemory as Memory}
use Rattle.mc_streams.specs.declared.refusals.WriteFault.{WriteFault as Fault}
use Rattle.mc_streams.specs.declared.sink.Sink as sink
use Rattle.mc_streams.specs.declared.source.Source as source
use Rattle.mc_text.specs.Texts.{sunk, Puts}
use Rattle.mc_nvm.specs.Sim.{blank_sim, Sim}
use Rattle.mc_filter.specs.Inputs.{stream, Stream}
use Rattle.mc_filter.specs.Programs.{sim_members}
use Rattle.mc_filter.specs.Statuses.{IsNumberOf, IsWritten}
use Rattle.mc_filter.specs.declared.status.Status.{Status}
use Rattle.mc_filter.specs.declared.status.Status.TheVariants.{Done, NoForm, NoMemory}
use Rattle.melreader.specs.Sessions.{outside, unopened, usage, AreKept, MelreaderSays}

-- ---- words

-- what the words of a command line select: nothing, because memory was out before they were read; a blank card; a
-- card on which the deck of a path was played; what the program says of itself; or no card
pub data Selection : Type 0 where
  OutOfMemory : Selection
  BlankCard : Selection
  DeckOf : (path : List ℕ) → Selection
  Describes : (text : List ℕ) → Selection
  NoCard : Selection

-- the version
abbrev pub version : List ℕ
version = codes "melreader 3\n"

-- what the program reads and writes, an example, and its page
abbrev pub help : List ℕ
help =
    codes "usage: melreader [DECK]\n\nmelreader is a card in a reader: it reads the frames of a host from standard input and writes its answers to standard output.\n" ++
    codes "A frame is a length of two bytes, big endian, and that number of bytes, as the virtual reader vpcd has them. The deck of the path DECK is\n" ++
    codes "played first; without it the card is blank. What refuses a deck is written to standard error.\n\n" ++
    codes "Example: tools/vpcd.py purse.deck, which runs it behind pcscd\nThe page is docs/READER.md.\n"

-- what the program says of itself if a word asks for it
abbrev pub about_named : List ℕ → Option (List ℕ)
about_named w = cond (bytes_eq w (codes "--help")) (Some help) (cond (bytes_eq w (codes "--version")) (Some version) None)

-- the selection of one word, by what it asks the program to say of itself: any other is the path of a deck
abbrev pub selection_by : List ℕ → Option (List ℕ) → Selection
selection_by w (Some text) = Describes text
selection_by w None = DeckOf w

-- the selection of words that are text: none of them select a blank card
abbrev pub selection_of : List (String Global) → Selection
selection_of [] = BlankCard
selection_of (w ∷ []) = selection_by (string_bytes w) (about_named (string_bytes w))
selection_of (w ∷ x ∷ ws) = NoCard

-- the selection of a command line; words that are no text select no card
abbrev pub selection : Result (Option (Vec (String Global))) Memory → Selection
selection (Err e) = OutOfMemory
selection (Ok None) = NoCard
selection (Ok (Some words)) = selection_of words.items

-- the path that is selected, if one is
abbrev pub selected_path : Selection → Option (List ℕ)
selected_path OutOfMemory = None
selected_path BlankCard = None
selected_path (DeckOf path) = Some path
selected_path (Describes text) = None
selected_path NoCard = None

-- ---- statuses

module _ {S T E : Type 0} (s : source.Ghosts S) (t : sink.Ghosts T) (e : sink.Ghosts E) where
  -- source and sinks of a program before and after a call
  pub record Streams : Type 0 where
    pub in_old : S
    pub in_new : S
    pub out_old : T
    pub out_new : T
    pub err_old : E
    pub err_new : E

  -- nothing was read or written
  pub record IsStill (x : Streams) : Type 0 where
    pub input : x.in_new ≡ x.in_old
    pub out : x.out_new ≡ x.out_old
    pub err : x.err_new ≡ x.err_old

  -- out of memory before anything was read or written
  pub record IsShort (x : Streams) (status : Status) : Type 0 where
    pub is : status ≡ NoMemory
    pub still : IsStill x

  -- there was no session: this was written to the sink of refusals, whole or up to a fault, and no frame was read
  pub record IsRefused (text : List ℕ) (x : Streams) (status : Status) : Type 0 where
    pub is : status ≡ NoForm
    pub input : x.in_new ≡ x.in_old
    pub out : x.out_new ≡ x.out_old
    pub result : Result (Unit {0}) Fault
    pub written : Puts (sunk e x.err_old) text result (sunk e x.err_new)

  -- a text was written, whole or up to a fault, and nothing was read
  pub record IsDescribed (text : List ℕ) (x : Streams) (status : Status) : Type 0 where
    pub input : x.in_new ≡ x.in_old
    pub err : x.err_new ≡ x.err_old
    pub written : IsWritten Done text status (sunk t x.out_old) (sunk t x.out_new)

  -- a session after the deck of a source, if there is one, on a blank device of 8,192 words
  pub record IsOnBlank (deck_old deck : Option Stream) (x : Streams) (status : Status) : Type 0 where
    pub dev_old : Sim
    pub dev : Sim
    pub blank : dev_old ≡ blank_sim device_words
    pub says : MelreaderSays (AreKept x.in_old x.in_new x.out_old x.out_new dev_old dev) status (outside s t e sim_members deck_old deck x.in_old x.in_new x.out_old x.out_new x.err_old x.err_new dev_old dev)

  -- such a session, or out of memory for its device
  abbrev pub SessionSays : Option Stream → Option Stream → Streams → Status → Type 0
  SessionSays deck_old deck x status = IsOnBlank deck_old deck x status ⊎ IsShort x status

  module _ {D : Type 0} (d : source.Ghosts D) where
    -- a session after the deck of a path that was opened; a path that cannot be opened is named
    abbrev pub PathSays : List ℕ → Option D → Streams → ℕ → Type 0
    PathSays path None x n = IsNumberOf (IsRefused (unopened path) x) n
    PathSays path (Some file) x n = (left : D) × IsNumberOf (SessionSays (Some (stream d file)) (Some (stream d left)) x) n

    -- the meaning of the number of the status, by what the path that is selected was opened as, and by the selection:
    -- the session is on a blank card, or after the deck of that path
    abbrev pub ProgramSays : Option D → Selection → Streams → ℕ → Type 0
    ProgramSays file OutOfMemory x n = IsNumberOf (IsShort x) n
    ProgramSays file BlankCard x n = IsNumberOf (SessionSays None None x) n
    ProgramSays file (DeckOf path) x n = PathSays path file x n
    ProgramSays file (Describes text) x n = IsNumberOf (IsDescribed text x) n
    ProgramSays file NoCard x n = IsNumberOf (IsRefused usage x) n
