-- The device writes of turns: how many a turn makes, and how they follow from its instruction and from the words that
-- wait for a commit, counted turn by turn.
use Rattle.std.specs.Prelude.{◌≡◌, ℕ, zero, suc, ◌+◌, ◌-◌, ◌/◌, ◌≤◌, Bool, true, false, cond, ◌||◌, nat_le, nat_lt, ◌==◌, List, [], ◌∷◌, length, get_or, slice_set, Option, Some, None}
use Rattle.law_family.specs.model_device.specs.Image.{Two}
use Rattle.law_family.specs.model_device.specs.Limits.{most_static}
use Rattle.law_family.specs.model_device.specs.Pieces.{touched_words, with_number}
use Rattle.law_family.specs.model_device.specs.Stopped.{cost}
use Rattle.law_family.specs.model_card.specs.Items.{moves, write_items}
use Rattle.law_family.specs.model_machine.specs.declared.instruction.Ins.{Ins}
use Rattle.law_family.specs.model_machine.specs.Frame.{Frame, dynamic_end}
use Rattle.law_family.specs.model_machine.specs.Primitives.{Around}
use Rattle.law_family.specs.model_machine.specs.Chain.{Abended, Chain, Follows, Continues, Ends, Outcome, Reply, around, depth_of, turn_of}
use Rattle.law_family.specs.model_machine.specs.Shapes.{Act, Writes, shape}
use Rattle.law_steps.specs.Nexts.{OpensOf}
use Rattle.law_steps.specs.Registers.{mode_of}

-- the number of device writes of a turn
abbrev pub turn_moves : ℕ → Chain → ℕ
turn_moves n ch = moves (write_items (turn_of n ch).writes)

-- ---- the static bytes that an instruction writes

-- the bytes that an act writes in a static segment of this size: the address of the first one, and their number
abbrev pub act_span : Act → ℕ → Option (ℕ × ℕ)
act_span (Writes a n b) size = cond (nat_le (a + n) size) (Some (a, n)) None
act_span _ size = None

-- the static bytes that an instruction writes
abbrev pub ins_span : Ins → Frame → List ℕ → Around → Option (ℕ × ℕ)
ins_span i f public x = act_span (shape i f public x).act (length f.fixed)

-- the number of words in which bytes lie
abbrev pub words_under : ℕ × ℕ → ℕ
words_under s = (s.0 + s.1 - 1) / 8 + 1 - s.0 / 8

-- ---- words that wait

-- the words that wait, ascending, with one more; room is for 128
abbrev pub with_wait : ℕ → List ℕ → List ℕ
with_wait n ws = cond (nat_lt (length ws) 128) (with_number n ws) ws

-- with some more, from one on
abbrev pub with_waits : ℕ → ℕ → List ℕ → List ℕ
with_waits n zero ws = ws
with_waits n (suc count) ws = with_waits (n + 1) count (with_wait n ws)

-- the number of words that are written at once, if there are bytes to write: none while protection is on
abbrev pub span_now : Bool → Option (ℕ × ℕ) → ℕ
span_now on None = 0
span_now true (Some s) = 0
span_now false (Some s) = words_under s

-- the words that wait after that
abbrev pub span_waits : Bool → Option (ℕ × ℕ) → List ℕ → List ℕ
span_waits on None ws = ws
span_waits true (Some s) ws = with_waits (s.0 / 8) (words_under s) ws
span_waits false (Some s) ws = ws

-- ---- instructions

-- the number of words that an instruction writes at once: modes 1 and 3 write those that wait
abbrev pub now_by : Option ℕ → Bool → Option (ℕ × ℕ) → List ℕ → ℕ
now_by None on s ws = span_now on s
now_by (Some mode) on s ws = cond (mode == 1 || mode == 3) (length ws) 0

-- the words that wait after an instruction: none after a mode
abbrev pub waits_by : Option ℕ → Bool → Option (ℕ × ℕ) → List ℕ → List ℕ
waits_by None on s ws = span_waits on s ws
waits_by (Some mode) on s ws = []

-- the same, if there is an instruction, by the bytes that each one writes
abbrev pub now_on : Option Ins → (Ins → Option (ℕ × ℕ)) → Bool → List ℕ → ℕ
now_on None span on ws = 0
now_on (Some i) span on ws = now_by (mode_of i) on (span i) ws

-- the words that wait after an instruction, or after a turn that had none
abbrev pub waits_on : Option Ins → (Ins → Option (ℕ × ℕ)) → Bool → List ℕ → List ℕ
waits_on None span on ws = ws
waits_on (Some i) span on ws = waits_by (mode_of i) on (span i) ws

-- ---- turns

-- the number of words that a turn writes at once, by its end and its instruction: none if it abends
abbrev pub now_of : Option Outcome → Option Ins → (Ins → Option (ℕ × ℕ)) → Bool → List ℕ → ℕ
now_of None i span on ws = now_on i span on ws
now_of (Some (Reply body sw)) i span on ws = now_on i span on ws
now_of (Some (Abended cause)) i span on ws = 0

-- the words that wait after a turn
abbrev pub waits_of : Option Outcome → Option Ins → (Ins → Option (ℕ × ℕ)) → Bool → List ℕ → List ℕ
waits_of None i span on ws = waits_on i span on ws
waits_of (Some (Reply body sw)) i span on ws = waits_on i span on ws
waits_of (Some (Abended cause)) i span on ws = ws

-- the static bytes that an instruction writes in the running frame of a chain
abbrev pub chain_span : Chain → Ins → Option (ℕ × ℕ)
chain_span ch i = ins_span i ch.frame ch.public (around ch)

-- the number of device writes of one atomic write of some words, 0 for none
abbrev pub writes_of_words : ℕ → ℕ
writes_of_words w = cond (w == 0) 0 (cost Two w)

-- ---- by depth

-- the number of device writes of a turn, by protection and the words that wait, by depth
abbrev pub moves_in : List Bool → List (List ℕ) → ℕ → Chain → ℕ
moves_in os ws n ch =
    let t = (turn_of n ch).turn in
    writes_of_words (now_of t.end t.ins (chain_span ch) (get_or os (length ch.below) false) (get_or ws (length ch.below) []))

-- the words that wait by depth, after the frame after the one at a depth began, if it did
abbrev pub called_waits : ℕ → Follows → List (List ℕ) → List (List ℕ)
called_waits depth (Ends o) ws = ws
called_waits depth (Continues c) ws = cond (nat_lt depth (depth_of c)) (slice_set ws depth []) ws

-- the words that wait by depth after a turn
abbrev pub waits_after : ℕ → Chain → List Bool → List (List ℕ) → List (List ℕ)
waits_after n ch os ws =
    let t = (turn_of n ch).turn in
    called_waits (depth_of ch) (turn_of n ch).follows
    (slice_set ws (length ch.below) (waits_of t.end t.ins (chain_span ch) (get_or os (length ch.below) false) (get_or ws (length ch.below) [])))

-- words are those that wait in a frame, at most 64; if none do, the frame has no pieces
pub record WaitIn (ws : List ℕ) (f : Frame) : Type 0 where
  pub words : ws ≡ touched_words f.pieces
  pub few : length ws ≤ 64
  pub none : ws ≡ [] → f.pieces ≡ []

-- of each of some frames, the deepest first, the words that wait stand by depth
abbrev pub AllWait : List (List ℕ) → List Frame → Type 0
AllWait ws [] = Unit {0}
AllWait ws (f ∷ fs) = WaitIn (get_or ws (length fs) []) f × AllWait ws fs

-- words that wait by depth are those of the frames of a chain, of which at most four are
pub record WaitsOf (ws : List (List ℕ)) (ch : Chain) : Type 0 where
  pub size : length ws ≡ 4
  pub few : length ch.below ≤ 3
  pub all : AllWait ws (ch.frame ∷ ch.below)

-- ---- the law

-- the segments of a frame have their sizes: at most 4,096 static bytes, 512 dynamic ones with DT among them, 1,041
-- public ones
pub record IsRoomy (f : Frame) (public : List ℕ) : Type 0 where
  pub fixed : length f.fixed ≤ most_static
  pub dyn : 512 ≤ length f.dyn
  pub high : f.dt ≤ dynamic_end
  pub whole : 1041 ≤ length public

-- The device writes of a turn follow from its instruction, and from protection and the words that wait; and these,
-- computed turn by turn, are those of the frames of each chain.
pub record WritesLaw : Type 0 where
  pub moves : (n : ℕ) (ch : Chain) (os : List Bool) (ws : List (List ℕ)) → OpensOf os ch → WaitsOf ws ch → IsRoomy ch.frame ch.public → moves_in os ws n ch ≡ turn_moves n ch
  pub waits : (n : ℕ) (ch c : Chain) (os : List Bool) (ws : List (List ℕ)) → OpensOf os ch → WaitsOf ws ch → IsRoomy ch.frame ch.public → (turn_of n ch).follows ≡ Continues c → WaitsOf (waits_after n ch os ws) c
