-- A device in memory with a root, the words to which it goes back.
use Rattle.std.specs.Prelude.{◌≡◌, ◌≢◌, ◌⊎◌, ℕ, ◌<◌, ◌≤◌, Bool, true, false, eqb, List, [], ◌∷◌, length, get_or, slice_index_or, bytes_eq}
use Rattle.std.specs.List.{IsDistinct}
use Rattle.mc_words.specs.model_device.specs.Orders.{Answer}
use Rattle.mc_words.specs.model_device.specs.Device.{DeviceState, BenchState, blank_words, device_words}
use Rattle.mc_nvm.specs.Sim.{Sim, sim_state, sim_bench, SimWrote, blank_sim}

-- ---- places

-- a number that a list has
abbrev pub IsListed : ℕ → List ℕ → Type 0
IsListed n [] = ⊥
IsListed n (x ∷ xs) = (n ≡ x) ⊎ IsListed n xs

-- each place that is marked is listed
abbrev pub MarksAreListed : List Bool → List ℕ → Type 0
MarksAreListed marks list = (i : ℕ) → get_or marks i false ≡ true → IsListed i list

-- Places of a device, each once, are those that are marked, and the list has room for all that the device has.
pub record HasRoom (marks : List Bool) (list : List ℕ) (room : ℕ) : Type 0 where
  pub listed : MarksAreListed marks list
  pub marked : (i : ℕ) → IsListed i list → get_or marks i false ≡ true
  pub distinct : IsDistinct eqb list
  pub size : length marks ≡ device_words
  pub all : device_words ≤ room

-- ---- a device with a root

-- the device, and its root
pub record BranchState : Type 0 where
  pub device : Sim
  pub root : List (List ℕ)

-- a blank device, whose words are its root
abbrev pub blank_branch : ℕ → BranchState
blank_branch n = record { device = blank_sim n; root = blank_words n }

-- its words
abbrev pub words_of : BranchState → List (List ℕ)
words_of b = b.device.words

-- at each place that is not listed, the words are those of the root
abbrev pub DiffersAt : List ℕ → List (List ℕ) → List (List ℕ) → Type 0
DiffersAt list words root = (i : ℕ) → i < length words → IsListed i list ⊎ (slice_index_or words i [] ≡ slice_index_or root i [])

-- what holds of each device with a root: the words differ from it at the listed places alone
pub record IsBranch (list : List ℕ) (words root : List (List ℕ)) : Type 0 where
  pub len : length root ≡ length words
  pub size : length words ≡ device_words
  pub differs : DiffersAt list words root

-- a word with its place is another one than the root has there
abbrev pub IsDifference : List (List ℕ) → ℕ × List ℕ → Type 0
IsDifference root d = (d.0 < length root) × (d.1 ≢ slice_index_or root d.0 [])

-- whether words and a root have one word at a place
abbrev pub has_root_word : List (List ℕ) → List (List ℕ) → ℕ → Bool
has_root_word words root place = bytes_eq (slice_index_or root place []) (slice_index_or words place [])

-- a word with its place before others, unless it is the word of the root
abbrev pub unless_root : Bool → ℕ × List ℕ → List (ℕ × List ℕ) → List (ℕ × List ℕ)
unless_root true d ds = ds
unless_root false d ds = d ∷ ds

-- the words at some places that are not those of the root, each with its place
abbrev pub differences_at : List (List ℕ) → List (List ℕ) → List ℕ → List (ℕ × List ℕ)
differences_at words root [] = []
differences_at words root (p ∷ ps) = unless_root (has_root_word words root p) (p, slice_index_or words p []) (differences_at words root ps)

-- ---- as a device

-- its state as a device
abbrev pub branch_state : BranchState → DeviceState
branch_state b = sim_state b.device

-- its state as a bench
abbrev pub branch_bench : BranchState → BenchState
branch_bench b = sim_bench b.device

-- it has the same root
abbrev pub HasRootOf : BranchState → BranchState → Type 0
HasRootOf b c = c.root ≡ b.root

-- one write: it leaves the root
pub record BranchWrote (b : BranchState) (at : ℕ) (w : List ℕ) (a : Answer) (c : BranchState) : Type 0 where
  pub wrote : SimWrote b.device at w a c.device
  pub root : HasRootOf b c

-- Words were set besides the writes of a device: it has these words, no fuse was armed, and its power and its root are
-- as before.
pub record HasWords (b : BranchState) (m : List (List ℕ)) (c : BranchState) : Type 0 where
  pub words : c.device.words ≡ m
  pub root : c.root ≡ b.root
  pub cut : c.device.cut ≡ b.device.cut
  pub worn : c.device.worn ≡ b.device.worn
