-- The laws of wear: of each line of a play, of a whole play, and of each word in an atomic write.
use Rattle.std.specs.Prelude.{◌≡◌, ◌≢◌, ℕ, ◌+◌, ◌≤◌, cond, ◌==◌, List, [], ◌∷◌, length, take, filter, is_some, Option, ⊤}
use Rattle.law_family.specs.model_device.specs.Device.{IsImage}
use Rattle.law_family.specs.model_device.specs.Image.{Journal, gate}
use Rattle.law_family.specs.model_device.specs.Stopped.{cost, replay, writes, IsAtomic}
use Rattle.law_family.specs.model_machine.specs.Chain.{Turn}
use Rattle.law_family.specs.model_card.specs.Items.{Item, Plain, Atomic}
use Rattle.law_family.specs.model_play.specs.DeckGrammar.{DeckLine}
use Rattle.law_family.specs.model_play.specs.Play.{Step, FailedWrite, plays, start, Possible}
use Rattle.law_family.specs.model_play.specs.Given.{budget_in}
use Rattle.law_family.specs.model_play.specs.ReadyAgain.{AreLines}
use Rattle.law_wear.specs.Most.{most_atomic, most_writes}

-- ---- lines

-- the number of instructions that a line runs: its turns without a fetch that abends
abbrev pub instructions : List Turn → ℕ
instructions ts = length (filter (λ t. is_some t.ins) ts)

-- the number of atomic writes among items
abbrev pub atomic_writes : List Item → ℕ
atomic_writes [] = 0
atomic_writes (Plain ∷ is) = atomic_writes is
atomic_writes (Atomic w c ∷ is) = 1 + atomic_writes is

-- what a line writes, and how many instructions it runs
pub record WritesFew (t : Step) : Type 0 where
  -- it keeps to its row, by the instructions that it runs
  pub writes : t.moves ≤ most_writes (instructions t.turns) t.line
  -- these are within the budget
  pub count : instructions t.turns ≤ budget_in t.before
  -- its atomic writes, each of which writes the gate twice, are few
  pub atomic : atomic_writes t.items ≤ most_atomic (instructions t.turns) t.line
  -- it keeps to its row by the budget
  pub within : t.moves ≤ most_writes (budget_in t.before) t.line

-- each line writes few
abbrev pub EachWritesFew : List Step → Type 0
EachWritesFew [] = ⊤
EachWritesFew (t ∷ ts) = WritesFew t × EachWritesFew ts

-- ---- plays

-- the number of device writes of a play
abbrev pub writes_of_play : List Step → ℕ
writes_of_play [] = 0
writes_of_play (t ∷ ts) = t.moves + writes_of_play ts

-- the sum of the rows of a play's lines, by their budgets
abbrev pub most_of_play : List Step → ℕ
most_of_play [] = 0
most_of_play (t ∷ ts) = most_writes (budget_in t.before) t.line + most_of_play ts

-- what a front of a play wears
pub record WearsFew (steps : List Step) : Type 0 where
  pub each : EachWritesFew steps
  pub all : writes_of_play steps ≤ most_of_play steps

-- The law of wear. For every deck whose lines are bytes, every image and every possible list of failed writes, and
-- for every front of the play: no line makes more device writes than the table says, nor the play more than the sum
-- of its lines.
abbrev pub WearLaw : Type 0
WearLaw =
    (ls : List (ℕ × DeckLine)) (m : List (List ℕ)) (ws : List (Option FailedWrite)) → Possible (start m) ls ws → IsImage m
    → (n : ℕ) → let steps = take n (plays (start m) ls ws) in AreLines steps → WearsFew steps

-- ---- words

-- the number of times that a list of device writes writes a word
abbrev pub times_written : ℕ → List (ℕ × List ℕ) → ℕ
times_written p [] = 0
times_written p (w ∷ ws) = cond (w.0 == p) 1 0 + times_written p ws

-- how often an atomic write and its recovery write a word
pub record WearsGateTwice (j : Journal) (list : List (ℕ × List ℕ)) : Type 0 where
  -- the number of device writes is the cost
  pub count : length (writes j list) ≡ cost j (length list)
  pub at_gate : times_written (gate j) (writes j list) ≡ 2
  pub others : (p : ℕ) → p ≢ gate j → times_written p (writes j list) ≤ 1
  -- the writes that recovery makes
  pub recovery : (p : ℕ) → times_written p (replay j list) ≤ 1

-- One atomic write writes its gate twice and every other word once at the most, and its recovery every word once at
-- the most.
abbrev pub AtomicWearLaw : Type 0
AtomicWearLaw =
    (j : Journal) (size : ℕ) (list : List (ℕ × List ℕ)) → size ≤ 16384 → IsAtomic size list → WearsGateTwice j list
