-- The bytes of frames, computed from the lines of a play alone.
use Rattle.std.specs.Prelude.{◌≡◌, ℕ, zero, suc, ◌+◌, ◌-◌, ◌<◌, ◌≤◌, cond, ◌&&◌, nat_lt, nat_le, ◌==◌, List, [], ◌∷◌, length, get_or, unwrap_or}
use Rattle.law_family.specs.model_device.specs.Pieces.{covering_byte}
use Rattle.law_family.specs.model_machine.specs.Frame.{Frame, dynamic_base, public_base}
use Rattle.law_family.specs.model_machine.specs.Chain.{Chain, Follows, Continues, Ends, depth_of, turn_of}
use Rattle.law_steps.specs.Readings.{Reading, reading_of, reading_after, first_sets, turn_sets}

-- ---- lines

-- what lines of a play say of memory: a frame begins at a depth, with its bytes that are not zero; a turn of the frame at
-- a depth, with DT after it and the bytes that it changed
pub data StepLine : Type 0 where
  BeginsFrame : (depth : ℕ) → (sets : List (ℕ × List ℕ)) → StepLine
  RunsTurn : (depth : ℕ) → (dt : ℕ) → (sets : List (ℕ × List ℕ)) → StepLine

-- the line of the frame that a chain runs, which begins
abbrev pub frame_line : Chain → StepLine
frame_line ch = BeginsFrame (depth_of ch) (first_sets (depth_of ch) ch.frame ch.public)

-- the line of a turn
abbrev pub turn_line : ℕ → Chain → StepLine
turn_line n ch = RunsTurn (depth_of ch) (turn_of n ch).turn.dt (turn_sets n ch)

-- the line of the frame that a turn at a depth called, if it called one: the chain is deeper than before
abbrev pub called_lines : ℕ → Follows → List StepLine
called_lines depth (Ends o) = []
called_lines depth (Continues ch) = cond (nat_lt depth (depth_of ch)) (frame_line ch ∷ []) []

-- the line of a turn, and of the frame that it called
abbrev pub lines_of_turn : ℕ → Chain → List StepLine
lines_of_turn n ch = turn_line n ch ∷ called_lines (depth_of ch) (turn_of n ch).follows

-- ---- memory

-- what is known of memory: of the frame at each depth the byte at each address below PB, and the public byte at each
-- address from PB on
pub record Memory : Type 0 where
  pub frames : ℕ → ℕ → ℕ
  pub public : ℕ → ℕ

-- memory of which nothing is known counts as zero
abbrev pub no_memory : Memory
no_memory = record { frames = λ depth a. 0; public = λ a. 0 }

-- bytes by address, with runs over them
abbrev pub bytes_with : List (ℕ × List ℕ) → (ℕ → ℕ) → ℕ → ℕ
bytes_with sets bytes a = unwrap_or (covering_byte sets a) (bytes a)

-- the byte at an address, zero if it is a dynamic one from DT on
abbrev pub below_top : ℕ → ℕ → ℕ → ℕ
below_top dt a b = cond (nat_le dynamic_base a && nat_le dt a) 0 b

-- memory after a line: a frame begins from zeros, the first one with new public bytes; a turn writes its runs over the
-- bytes of its frame and over the public ones, and what DT fell below is zero
abbrev pub memory_after : Memory → StepLine → Memory
memory_after m (BeginsFrame depth sets) =
    record {
      frames = λ k a. cond (k == depth) (bytes_with sets (λ b. 0) a) (m.frames k a);
      public = λ a. cond (depth == 1) (bytes_with sets (λ b. 0) a) (m.public a);
    }
memory_after m (RunsTurn depth dt sets) =
    record { frames = λ k a. cond (k == depth) (below_top dt a (bytes_with sets (m.frames depth) a)) (m.frames k a); public = bytes_with sets m.public }

-- memory after lines
abbrev pub memory_of : Memory → List StepLine → Memory
memory_of m [] = m
memory_of m (l ∷ ls) = memory_of (memory_after m l) ls

-- ---- what memory is to be

-- the byte at an address below PB of a frame with this reading
abbrev pub byte_read : Reading → ℕ → ℕ
byte_read r a = cond (nat_lt a dynamic_base) (get_or r.fixed a 0) (get_or r.dynamic (a - dynamic_base) 0)

-- the frame at a depth reads this in memory, byte by byte
abbrev pub HoldsFrame : Memory → ℕ → Reading → Type 0
HoldsFrame m depth r = (a : ℕ) → a < public_base → m.frames depth a ≡ byte_read r a

-- the public bytes are these in memory
abbrev pub HoldsPublic : Memory → List ℕ → Type 0
HoldsPublic m public = (a : ℕ) → public_base ≤ a → m.public a ≡ get_or public (a - public_base) 0

-- each of some frames, the deepest first, reads in memory what it reads
abbrev pub HoldsFrames : Memory → List Frame → Type 0
HoldsFrames m [] = Unit {0}
HoldsFrames m (f ∷ fs) = HoldsFrame m (length fs + 1) (reading_of f []) × HoldsFrames m fs

-- memory is that of a chain: each byte of each of its frames, and the public bytes
pub record HoldsChain (m : Memory) (ch : Chain) : Type 0 where
  pub frames : HoldsFrames m (ch.frame ∷ ch.below)
  pub public : HoldsPublic m ch.public

-- memory is that after the last turn of a chain: what the frame that ran it reads, and the public bytes
pub record HoldsLast (m : Memory) (depth : ℕ) (r : Reading) : Type 0 where
  pub frame : HoldsFrame m depth r
  pub public : HoldsPublic m r.public

-- ---- sizes

-- The sizes of what a frame reads before and after a turn: as many static bytes, which end before the dynamic segment
-- begins; the dynamic bytes end at DT, and before the public segment; no fewer public bytes.
pub record TurnFits (old new : Reading) (dt : ℕ) : Type 0 where
  pub fixed : length new.fixed ≡ length old.fixed
  pub few : length old.fixed ≤ dynamic_base
  pub dynamic : length new.dynamic ≡ dt - dynamic_base
  pub high : dt ≤ public_base
  pub public : length old.public ≤ length new.public

-- the sizes of what a frame reads that begins
pub record FrameFits (r : Reading) : Type 0 where
  pub few : length r.fixed ≤ dynamic_base
  pub high : dynamic_base + length r.dynamic ≤ public_base

-- ---- along a run

-- memory after a turn, by what follows it: if the chain ends, what the frame that ran the turn reads then, and else what
-- is said of the rest
abbrev pub HoldsOn : Memory → ℕ → Reading → (Memory → Chain → Type 0) → Follows → Type 0
HoldsOn m depth r rest (Ends o) = HoldsLast m depth r
HoldsOn m depth r rest (Continues next) = rest m next

-- memory by the lines so far is that of the chain before each turn, and after the last one that of the frame that ran it
abbrev pub HoldsAlong : Memory → ℕ → Chain → Type 0
HoldsAlong m zero ch = HoldsChain m ch × HoldsLast (memory_of m (lines_of_turn zero ch)) (depth_of ch) (reading_after zero ch)
HoldsAlong m (suc n) ch = HoldsChain m ch × HoldsOn (memory_of m (lines_of_turn (suc n) ch)) (depth_of ch) (reading_after (suc n) ch) (λ k next. HoldsAlong k n next) (turn_of (suc n) ch).follows

-- what is said of the chain that follows a turn, if one does
abbrev pub OnNext : (Chain → Type 0) → Follows → Type 0
OnNext rest (Ends o) = Unit {0}
OnNext rest (Continues next) = rest next

-- the sizes of a chain, and of its turn
pub record ChainFits (n : ℕ) (ch : Chain) : Type 0 where
  pub frame : FrameFits (reading_of ch.frame ch.public)
  pub turn : TurnFits (reading_of ch.frame ch.public) (reading_after n ch) (turn_of n ch).turn.dt

-- the sizes of each chain of a run, and of each turn
abbrev pub FitsAlong : ℕ → Chain → Type 0
FitsAlong zero ch = ChainFits zero ch
FitsAlong (suc n) ch = ChainFits (suc n) ch × OnNext (λ next. FitsAlong n next) (turn_of (suc n) ch).follows
