-- A deck played on a device, line by line, with the lines' cuts and failed writes, and the words that a play leaves.
use Rattle.std.specs.Prelude.{◌≡◌, ◌≢◌, ◌⊎◌, ℕ, zero, suc, ◌+◌, ◌-◌, ◌*◌, ◌/◌, ◌%◌, ◌<◌, ◌≤◌, Bool, true, false, cond, ◌&&◌, nat_lt, nat_le, ◌==◌, List, [], ◌∷◌, ◌++◌, length, take, drop, map, slice_set, Option, Some, None, ⊤}
use Rattle.model_card.specs.model_device.specs.PowerUp.{Base, OnCard, AtFault, migration, base_after_migration, base_of, pending_journal}
use Rattle.model_card.specs.Commands.{Command, refusal, command}
use Rattle.model_card.specs.model_device.specs.declared.cause.Cause.{Cause}
use Rattle.model_card.specs.model_device.specs.declared.device.Stop.{Stop}
use Rattle.model_card.specs.model_device.specs.declared.device.Stop.TheVariants as stop
use Rattle.model_card.specs.model_device.specs.Bytes.{bytes2, zeros, lookup}
use Rattle.model_card.specs.model_machine.specs.Apdu.{ApduParts}
use Rattle.model_card.specs.Units.{UnitParts}
use Rattle.model_card.specs.model_device.specs.Device.{Entry}
use Rattle.model_card.specs.model_device.specs.Image.{Journal, One, Two, Which, Both, Only, Neither, which, count_of_recovery_writes, shut_word, image_with}
use Rattle.model_card.specs.model_device.specs.Stopped.{stands, owes, remains}
use Rattle.model_card.specs.model_device.specs.Card.{App, Card, means, heap_start}
use Rattle.model_card.specs.model_device.specs.Layout.{root, hole_header, step_of, fault}
use Rattle.model_card.specs.model_machine.specs.Chain.{Outcome, Reply, Write, Turn, Ran, run}
use Rattle.model_card.specs.Items.{Change, Fixed, Item, Plain, Atomic, moves, apps_after_change, card_done, StopAt, Stopped, at_stop, BankItem, Piece, Blank, Note, Commit, Enter, Remove}
use Rattle.model_card.specs.Manager.{Selected, SessionState, empty_session_state, Route, WrongLength, WrongClass, ToSelect, ToManager, ToApplication, route, Managed, Declines, Accepts, Accepted, select, manage, room_on}
use Rattle.model_play.specs.DeckGrammar.{DeckLine}
use Rattle.model_play.specs.DeckGrammar as line

-- ---- state

-- the stop that is armed for the next card line
pub data Armed : Type 0 where
  Unarmed : Armed
  ArmedCut : (at : ℕ) (fill : List ℕ) → Armed
  ArmedFail : (at : ℕ) → Armed

-- whether a card runs, with its session state; after a failed write it is mute
pub data Live : Type 0 where
  Running : (session_state : SessionState) → Live
  Unpowered : Live
  Muted : Live

-- a play after its first power line: its base, the number of writes that recovery still has to make and the journal
-- that holds them, whether a card runs, the budget, and the stop that is armed
pub record Warm : Type 0 where
  pub base : Base
  pub owed : ℕ
  pub by : Journal
  pub live : Live
  pub budget : ℕ
  pub armed : Armed

-- a play before and after its first power line
pub data State : Type 0 where
  BeforePower : (image : List (List ℕ)) (budget : ℕ) (armed : Armed) → State
  AfterPower : (warm : Warm) → State

-- the result of a line that has one
pub data LineResult : Type 0 where
  Formatted : LineResult
  Ready : (writes : ℕ) → LineResult
  Unusable : (cause : Cause) (place : ℕ) → LineResult
  OffAt : (write : ℕ) → LineResult
  FailureStop : LineResult
  NoCard : LineResult
  Silenced : LineResult
  Answered : (outcome : Outcome) → LineResult
  Static : (bytes : List ℕ) → LineResult
  Absent : LineResult

-- a failed write of a line: its number, and the word that it left
pub record FailedWrite : Type 0 where
  pub at : ℕ
  pub left : List ℕ

-- a line that was played: its number, the line, the state before and after, its result, its items and those that are
-- whole, the stop that hit it, its device writes, the pairs of its delegations, its turns
pub record Step : Type 0 where
  pub number : ℕ
  pub line : DeckLine
  pub before : State
  pub result : Option LineResult
  pub items : List Item
  pub whole : List Item
  pub stop : Option StopAt
  pub moves : ℕ
  pub pairs : List (List ℕ × List ℕ)
  pub turns : List Turn
  pub after : State

-- ---- one command on a running card

-- ---- the commands of a line

-- the SELECT of a name
abbrev pub select_bytes : List ℕ → List ℕ
select_bytes aid = 0x00 ∷ 0xA4 ∷ 0x04 ∷ 0x0C ∷ length aid ∷ aid

-- the DELETE of a name
abbrev pub delete_bytes : List ℕ → List ℕ
delete_bytes aid = 0xBE ∷ 0x18 ∷ 0x00 ∷ 0x00 ∷ length aid ∷ aid

-- a section in pieces of 248 bytes, the last one shorter, each with its place
abbrev pub piece_commands : ℕ → ℕ → ℕ → List ℕ → List (List ℕ)
piece_commands zero ins at b = []
piece_commands (suc n) ins at b =
    cond (length b == 0) [] (
    (0xBE ∷ ins ∷ (bytes2 at ++ length (take 248 b) ∷ take 248 b)) ∷ piece_commands n ins (at + 248) (drop 248 b)
    )

-- the LOAD commands of a section
abbrev pub section_commands : ℕ → List ℕ → List (List ℕ)
section_commands ins b = piece_commands (length b) ins 0 b

-- the commands of a load: OPEN, the pieces of code, data, DIR and FCI, and CREATE
abbrev pub load_commands : UnitParts → ℕ → ℕ → List (List ℕ)
load_commands u fixed session =
    (0xBE ∷ 0x12 ∷ 0x00 ∷ 0x00 ∷ 12 ∷ (bytes2 (length u.code) ++ bytes2 fixed ++ bytes2 (length u.init) ++ bytes2 session ++ bytes2 (length u.dir) ++ bytes2 (length u.fci)))
    ∷ (section_commands 0x24 u.code ++ section_commands 0x26 u.init ++ section_commands 0x20 u.dir ++ section_commands 0x22 u.fci
    ++ (0xBE ∷ 0x16 ∷ 0x00 ∷ 0x00 ∷ []) ∷ [])

-- whether an outcome is 9000 alone
abbrev pub is_done : Outcome → Bool
is_done (Reply [] sw) = sw == 0x9000
is_done o = false

-- a command with the items, pairs and turns of one before it
abbrev pub with_items : Command → Command → Command
with_items first r = record r { items = first.items ++ r.items; pairs = first.pairs ++ r.pairs; turns = first.turns ++ r.turns }

-- a command, and those after it if it was answered by 9000 alone
abbrev pub command_with_rest : Bool → Command → Command → Command
command_with_rest true first rest = with_items first rest
command_with_rest false first rest = first

-- commands in turn, up to the first that is not answered by 9000 alone
unfoldable pub send : Card → SessionState → ℕ → List (List ℕ) → Command
send c session_state budget [] = refusal session_state 0x9000
send c session_state budget (b ∷ bs) =
    let r = command c session_state b budget in
    let rest = send (card_done c r.items) r.session_state budget bs in
    command_with_rest (is_done r.outcome) r rest

-- ---- stops

-- whether a stop can be armed for a line
abbrev pub is_card_line : DeckLine → Bool
is_card_line line.Power = true
is_card_line (line.Sent sent) = true
is_card_line _ = false

-- the stop that hits a card line of m device writes: a failed write, else the cut that is armed
abbrev pub hit_of : Armed → ℕ → Option FailedWrite → Option StopAt
hit_of armed m (Some w) = Some (record { kind = stop.Worn; at = w.at; left = w.left })
hit_of (ArmedCut k x) m None = cond (nat_le k m) (Some (record { kind = stop.Off; at = k; left = x })) None
hit_of Unarmed m None = None
hit_of (ArmedFail k) m None = None

-- the number of device writes of a line: up to its stop, if one hit
abbrev pub moves_with : ℕ → Option StopAt → ℕ
moves_with m None = m
moves_with m (Some s) = s.at

-- the card after a stop: none runs, and after a failed write it is mute
abbrev pub live_after : Stop → Live
live_after stop.Off = Unpowered
live_after stop.Worn = Muted

-- the result of a stopped line
abbrev pub result_of_stop : StopAt → Stop → LineResult
result_of_stop s stop.Off = OffAt s.at
result_of_stop s stop.Worn = FailureStop

-- ---- power lines

-- the number of device writes of a power line: those that recovery still has to make, and those of the migration
abbrev pub power_moves : Warm → ℕ
power_moves s = s.owed + migration s.base

-- the result of a power line that no stop hit
abbrev pub power_result : ℕ → Base → LineResult
power_result m (OnCard c) = Ready m
power_result m (AtFault cause p) = Unusable cause p

-- whether a card runs after a power line that no stop hit
abbrev pub power_live : Base → Live
power_live (OnCard c) = Running empty_session_state
power_live (AtFault cause p) = Unpowered

-- the play after a power-up that was stopped in its recovery, or in its migration
abbrev pub stopped_power : Warm → StopAt → Bool → Warm
stopped_power s t true = record s { owed = remains s.by (s.owed - 1) t.at t.left; live = live_after t.kind; armed = Unarmed }
stopped_power s t false =
    let j = t.at - s.owed in
    record s {
      base = cond (stands One 1 j t.left) (base_after_migration s.base) s.base;
      owed = owes One 1 j t.left;
      by = One;
      live = live_after t.kind;
      armed = Unarmed;
    }

-- the play after a power line
abbrev pub power_after : Warm → Option StopAt → Warm
power_after s None = record s { base = base_after_migration s.base; owed = 0; live = power_live s.base; armed = Unarmed }
power_after s (Some t) = stopped_power s t (nat_le t.at s.owed)

-- the result of a power line
abbrev pub power_says : Warm → Option StopAt → LineResult
power_says s None = power_result (power_moves s) s.base
power_says s (Some t) = result_of_stop t t.kind

-- a power line
abbrev pub power_step : ℕ → State → Warm → Option StopAt → Step
power_step n before s t =
    record {
      number = n;
      line = line.Power;
      before = before;
      result = Some (power_says s t);
      items = [];
      whole = [];
      stop = t;
      moves = moves_with (power_moves s) t;
      pairs = [];
      turns = [];
      after = AfterPower (power_after s t);
    }

-- ---- lines on a running card

-- the play after a line that a stop hit
abbrev pub stopped_line : Warm → Card → StopAt → Stopped → Warm
stopped_line s c t r = record s { base = OnCard (card_done c r.whole); owed = r.owed; by = Two; live = live_after t.kind; armed = Unarmed }

-- the play after a line of a running card
abbrev pub line_after : Warm → Card → Command → Option StopAt → Warm
line_after s c r None = record s { base = OnCard (card_done c r.items); live = Running r.session_state; armed = Unarmed }
line_after s c r (Some t) = stopped_line s c t (at_stop r.items t.at t.left)

-- the result of a line of a running card
abbrev pub line_says : Command → Option StopAt → LineResult
line_says r None = Answered r.outcome
line_says r (Some t) = result_of_stop t t.kind

-- the items that are whole after a line
abbrev pub whole_items : Command → Option StopAt → List Item
whole_items r None = r.items
whole_items r (Some t) = (at_stop r.items t.at t.left).whole

-- a line of a running card
abbrev pub command_step : ℕ → DeckLine → Warm → Card → Command → Option StopAt → Step
command_step n l s c r t =
    record {
      number = n;
      line = l;
      before = AfterPower s;
      result = Some (line_says r t);
      items = r.items;
      whole = whole_items r t;
      stop = t;
      moves = moves_with (moves r.items) t;
      pairs = r.pairs;
      turns = r.turns;
      after = AfterPower (line_after s c r t);
    }

-- ---- lines that write nothing

-- a line that makes no write: its result, and the state after it
abbrev pub quiet : ℕ → DeckLine → State → Option LineResult → State → Step
quiet n l before result after =
    record {
      number = n;
      line = l;
      before = before;
      result = result;
      items = [];
      whole = [];
      stop = None;
      moves = 0;
      pairs = [];
      turns = [];
      after = after;
    }

-- the static bytes of an application, or that it is absent
abbrev pub static_of : Option App → LineResult
static_of None = Absent
static_of (Some a) = Static a.fixed

-- the result of a line that wants a card, if none runs
abbrev pub without_card : Live → LineResult
without_card (Running session_state) = NoCard
without_card Unpowered = NoCard
without_card Muted = Silenced

-- the result of a dump
abbrev pub dump_result : Live → Base → List ℕ → LineResult
dump_result (Running session_state) (OnCard c) n = static_of (lookup c.apps n)
dump_result (Running session_state) (AtFault cause p) n = NoCard
dump_result Unpowered base n = NoCard
dump_result Muted base n = Silenced

-- the words of an empty card of layout 2 in their places
abbrev pub formatted_image : List (List ℕ) → List (List ℕ)
formatted_image m =
    let size = length m in
    slice_set (slice_set (slice_set (slice_set (slice_set m 0 (root 2 size heap_start)) 1 shut_word) 2 (zeros 8)) 130 shut_word) heap_start (hole_header (size - heap_start) 0)

-- ---- a line

-- the commands of a line: select, delete, apdu and load
abbrev pub line_command : Card → SessionState → ℕ → DeckLine → Command
line_command c session_state budget (line.Sent (line.Select n)) = command c session_state (select_bytes n) budget
line_command c session_state budget (line.Sent (line.Delete n)) = command c session_state (delete_bytes n) budget
line_command c session_state budget (line.Sent (line.Apdu b)) = command c session_state b budget
line_command c session_state budget (line.Sent (line.Load u fixed session)) = send c session_state budget (load_commands u fixed session)
line_command c session_state budget _ = refusal session_state 0x9000

-- a card line other than power: its command if a card runs, else the result that none does
abbrev pub card_line : ℕ → DeckLine → Warm → Live → Base → Option FailedWrite → Step
card_line n l s (Running session_state) (OnCard c) w =
    let r = line_command c session_state s.budget l in
    command_step n l s c r (hit_of s.armed (moves r.items) w)
card_line n l s live base w = quiet n l (AfterPower s) (Some (without_card live)) (AfterPower (record s { armed = Unarmed }))

-- a line after the first power line
abbrev pub after_power_step : ℕ → DeckLine → Warm → Option FailedWrite → Step
after_power_step n line.Format s w = quiet n line.Format (AfterPower s) None (AfterPower s)
after_power_step n (line.Poke at x) s w = quiet n (line.Poke at x) (AfterPower s) None (AfterPower s)
after_power_step n line.Named s w = quiet n line.Named (AfterPower s) None (AfterPower s)
after_power_step n (line.Budget b) s w = quiet n (line.Budget b) (AfterPower s) None (AfterPower (record s { budget = b }))
after_power_step n (line.Cut k x) s w = quiet n (line.Cut k x) (AfterPower s) None (AfterPower (record s { armed = ArmedCut k x }))
after_power_step n (line.Fail k) s w = quiet n (line.Fail k) (AfterPower s) None (AfterPower (record s { armed = ArmedFail k }))
after_power_step n (line.Dump a) s w = quiet n (line.Dump a) (AfterPower s) (Some (dump_result s.live s.base a)) (AfterPower s)
after_power_step n line.Power s w = power_step n (AfterPower s) s (hit_of s.armed (power_moves s) w)
after_power_step n (line.Sent sent) s w = card_line n (line.Sent sent) s s.live s.base w

-- the play that the first power line finds
unfoldable pub play_at_power : List (List ℕ) → ℕ → Armed → Warm
play_at_power m budget armed =
    record { base = base_of (fault m) m; owed = count_of_recovery_writes m; by = pending_journal (which m); live = Unpowered; budget = budget; armed = armed }

-- a line that wants a card before the first power line; a card line drops the armed stop
abbrev pub before_power_line : ℕ → DeckLine → List (List ℕ) → ℕ → Armed → Armed → Step
before_power_line n l m budget armed after = quiet n l (BeforePower m budget armed) (Some NoCard) (BeforePower m budget after)

-- a line before the first power line, or that line
abbrev pub before_power_step : ℕ → DeckLine → List (List ℕ) → ℕ → Armed → Option FailedWrite → Step
before_power_step n line.Format m b a w = quiet n line.Format (BeforePower m b a) (Some Formatted) (BeforePower (formatted_image m) b a)
before_power_step n (line.Poke at x) m b a w = quiet n (line.Poke at x) (BeforePower m b a) None (BeforePower (slice_set m at x) b a)
before_power_step n line.Named m b a w = quiet n line.Named (BeforePower m b a) None (BeforePower m b a)
before_power_step n (line.Budget c) m b a w = quiet n (line.Budget c) (BeforePower m b a) None (BeforePower m c a)
before_power_step n (line.Cut k x) m b a w = quiet n (line.Cut k x) (BeforePower m b a) None (BeforePower m b (ArmedCut k x))
before_power_step n (line.Fail k) m b a w = quiet n (line.Fail k) (BeforePower m b a) None (BeforePower m b (ArmedFail k))
before_power_step n (line.Dump x) m b a w = before_power_line n (line.Dump x) m b a a
before_power_step n line.Power m b a w = let s = play_at_power m b a in power_step n (BeforePower m b a) s (hit_of a (power_moves s) w)
before_power_step n (line.Sent sent) m b a w = before_power_line n (line.Sent sent) m b a Unarmed

-- the step of one line from a state
unfoldable pub step : State → ℕ × DeckLine → Option FailedWrite → Step
step (BeforePower m b a) l w = before_power_step l.0 l.1 m b a w
step (AfterPower s) l w = after_power_step l.0 l.1 s w

-- ---- a play

-- the failed write of the first line, if it has one
abbrev pub first_failure : List (Option FailedWrite) → Option FailedWrite
first_failure [] = None
first_failure (w ∷ ws) = w

-- the lines of a deck played in order, with one entry of `worn` for each line
unfoldable pub plays : State → List (ℕ × DeckLine) → List (Option FailedWrite) → List Step
plays s [] ws = []
plays s (l ∷ ls) ws =
    let t = step s l (first_failure ws) in
    t ∷ plays t.after ls (drop 1 ws)

-- the state of a play before its first line
abbrev pub start : List (List ℕ) → State
start m = BeforePower m 10000 Unarmed

-- the state after the last line
abbrev pub last_state : State → List Step → State
last_state s [] = s
last_state s (t ∷ ts) = last_state t.after ts

-- ---- which failed writes are possible

-- the number of device writes of a power line: those that recovery still has to make, and those of the migration
abbrev pub power_part : State → DeckLine → ℕ
power_part (BeforePower m b a) line.Power = power_moves (play_at_power m b a)
power_part (AfterPower s) line.Power = power_moves s
power_part (BeforePower m b a) _ = 0
power_part (AfterPower s) _ = 0

-- the number of device writes that a line makes if nothing stops it
unfoldable pub moves_of : State → ℕ × DeckLine → ℕ
moves_of s l = power_part s l.1 + moves (step s l None).items

-- the stop that is armed in a state
abbrev pub armed_stop_in : State → Armed
armed_stop_in (BeforePower m b a) = a
armed_stop_in (AfterPower s) = s.armed

-- a failed write with this number comes before the cut that is armed
abbrev pub IsBeforeCut : Armed → ℕ → Type 0
IsBeforeCut (ArmedCut k x) j = j < k
IsBeforeCut Unarmed j = ⊤
IsBeforeCut (ArmedFail k) j = ⊤

-- a failed write that a line may have: one of the device writes of a card line, before the cut that is armed
pub record IsPossibleAt (s : State) (l : ℕ × DeckLine) (w : FailedWrite) : Type 0 where
  pub card_line : is_card_line l.1 ≡ true
  pub low : 1 ≤ w.at
  pub high : w.at ≤ moves_of s l
  pub first : IsBeforeCut (armed_stop_in s) w.at

-- the failed write of a line is possible, if it has one
abbrev pub MayHit : State → ℕ × DeckLine → Option FailedWrite → Type 0
MayHit s l None = ⊤
MayHit s l (Some w) = IsPossibleAt s l w

-- one entry for each line, each possible at its line
abbrev pub Possible : State → List (ℕ × DeckLine) → List (Option FailedWrite) → Type 0
Possible s [] [] = ⊤
Possible s [] (w ∷ ws) = ⊥
Possible s (l ∷ ls) [] = ⊥
Possible s (l ∷ ls) (w ∷ ws) = MayHit s l w × Possible (step s l w).after ls ws

-- ---- where failed writes come from

-- the failed write of a line on a steady bench: the one that a `fail` line armed and no other, and it leaves zeros
abbrev pub steady_at : Armed → DeckLine → ℕ → Option FailedWrite
steady_at (ArmedFail k) l m = cond (is_card_line l && nat_le k m) (Some (record { at = k; left = zeros 8 })) None
steady_at Unarmed l m = None
steady_at (ArmedCut k x) l m = None

-- the failed writes of a play on a steady bench
unfoldable pub steady_failures : State → List (ℕ × DeckLine) → List (Option FailedWrite)
steady_failures s [] = []
steady_failures s (l ∷ ls) =
    let m = moves_of s l in
    let w = steady_at (armed_stop_in s) l.1 m in
    w ∷ steady_failures (step s l w).after ls

-- whether an entry of a tape is a stop
abbrev pub ends_tape : Option Stop → Bool
ends_tape None = false
ends_tape (Some s) = true

-- an entry before those of a line
abbrev pub with_entry : Entry → List Entry × List Entry → List Entry × List Entry
with_entry e c = (e ∷ c.0, c.1)

-- the entries of a line of at most n device writes, up to its first stop, and those after them
abbrev pub chunk : ℕ → List Entry → List Entry × List Entry
chunk zero t = ([], t)
chunk (suc n) [] = ([], [])
chunk (suc n) (e ∷ t) = cond (ends_tape e.«end») (e ∷ [], t) (with_entry e (chunk n t))

-- the failed write of an entry with this number, if it is one
abbrev pub failure_entry : ℕ → List ℕ → Option Stop → Option FailedWrite
failure_entry k left None = None
failure_entry k left (Some stop.Off) = None
failure_entry k left (Some stop.Worn) = Some (record { at = k; left = left })

-- the failed write of a line's entries, if the last one is one
abbrev pub failures_in : ℕ → List Entry → Option FailedWrite
failures_in k [] = None
failures_in k (e ∷ []) = failure_entry (k + 1) e.left e.«end»
failures_in k (e ∷ f ∷ es) = failures_in (k + 1) (f ∷ es)

-- the failed writes of a play on a bench that records its tape: those of the tape
unfoldable pub failures_of_tape : State → List (ℕ × DeckLine) → List Entry → List (Option FailedWrite)
failures_of_tape s [] t = []
failures_of_tape s (l ∷ ls) t =
    let c = chunk (moves_of s l) t in
    let w = failures_in 0 c.0 in
    w ∷ failures_of_tape (step s l w).after ls c.1

-- ---- the words that a play leaves

-- the words fit a play whose base is a card: they have no fault, they hold the card, and recovery still has to make the
-- writes of the play
pub record StandsForCard (m : List (List ℕ)) (c : Card) (s : Warm) : Type 0 where
  pub sound : fault m ≡ None
  pub meaning : means m ≡ c
  pub owed : count_of_recovery_writes m ≡ s.owed

-- the words fit a play whose base is a fault
pub record StandsForFault (m : List (List ℕ)) (cause : Cause) (place : ℕ) (s : Warm) : Type 0 where
  pub unsound : fault m ≡ Some (cause, place)
  pub owed : count_of_recovery_writes m ≡ s.owed

-- the words fit the base of a play
abbrev pub StandsForBase : List (List ℕ) → Base → Warm → Type 0
StandsForBase m (OnCard c) s = StandsForCard m c s
StandsForBase m (AtFault cause p) s = StandsForFault m cause p s

-- the words fit a state: before the first power line they are the image; after it they fit its base, and the journal
-- whose writes recovery still has to make is that of the play
abbrev pub StandsForState : List (List ℕ) → State → Type 0
StandsForState m (BeforePower image b a) = m ≡ image
StandsForState m (AfterPower s) = StandsForBase m s.base s × (s.owed ≢ 0 → pending_journal (which m) ≡ s.by)

-- ---- every write accounted

-- the words after the entries of a tape
abbrev pub laid_entries : List (List ℕ) → List Entry → List (List ℕ)
laid_entries m es = image_with m (map (λ e. (e.at, e.left)) es)

-- the words after a line
abbrev pub words_left : List (List ℕ) → List Entry → State → List (List ℕ)
words_left m es (BeforePower image b a) = image
words_left m es (AfterPower s) = laid_entries m es

-- the state after this line, had a stop at write k that leaves x hit it
abbrev pub state_after_stop : State → ℕ × DeckLine → ℕ → List ℕ → State
state_after_stop s l k x = (step s l (Some (record { at = k; left = x }))).after

-- each entry but the last was done, and the last ended as the line did
abbrev pub EndsAs : Option Stop → List Entry → Type 0
EndsAs how [] = how ≡ None
EndsAs how (e ∷ []) = e.«end» ≡ how
EndsAs how (e ∷ f ∷ es) = (e.«end» ≡ None) × EndsAs how (f ∷ es)

-- the kind of a stop
abbrev pub kind_of : Option StopAt → Option Stop
kind_of None = None
kind_of (Some t) = Some t.kind

-- with the entries `es` of a line still to come, after words m: after each of them the words fit the play that was
-- stopped there
abbrev pub StandsAtEach : List (List ℕ) → State → ℕ × DeckLine → ℕ → List Entry → Type 0
StandsAtEach m s l k [] = ⊤
StandsAtEach m s l k (e ∷ es) =
    let n = slice_set m e.at e.left in
    StandsForState n (state_after_stop s l (k + 1) e.left) × StandsAtEach n s l (k + 1) es

-- the entries of a line account for it
pub record AccountsForLine (m : List (List ℕ)) (s : State) (l : ℕ × DeckLine) (t : Step) (es : List Entry) : Type 0 where
  pub count : length es ≡ t.moves
  pub each : StandsAtEach m s l 0 es
  pub ends : EndsAs (kind_of t.stop) es

-- a recorded tape accounts for a play from the words m on
abbrev pub Accounts : List (List ℕ) → State → List (ℕ × DeckLine) → List (Option FailedWrite) → List Entry → Type 0
Accounts m s [] ws t = t ≡ []
Accounts m s (l ∷ ls) ws t =
    let u = step s l (first_failure ws) in
    let c = chunk (moves_of s l) t in
    AccountsForLine m s l u c.0 × Accounts (words_left m c.0 u.after) u.after ls (drop 1 ws) c.1
