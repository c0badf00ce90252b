-- What tables cover: the states of a play that a key with its facts stands for. It is the concretisation of the tables
-- (Cousot and Cousot, POPL 1977).
use Rattle.std.specs.Prelude.{◌≡◌, ℕ, ◌+◌, ◌-◌, ◌<◌, ◌≤◌, Bool, true, false, cond, nat_lt, List, [], ◌∷◌, ◌++◌, length, take, drop, map, slice_index, Some, Ok, ⊤}
use Rattle.model_prove.specs.model_device.specs.Bytes.{AreBytes, bytes2}
use Rattle.model_prove.specs.model_device.specs.Card.{App}
use Rattle.model_prove.specs.model_text.specs.Listing.{hex_text}
use Rattle.model_prove.specs.model_machine.specs.Frame.{Frame, dynamic_base, dynamic_end, public_base, static_bytes}
use Rattle.law_rules.specs.law_bytes.specs.law_rows.specs.Keeping.{PiecesWithin}
use Rattle.law_rules.specs.law_bytes.specs.OfBytes.{ArePieces}
use Rattle.law_rules.specs.law_promise.specs.Outline.{Entry, BySelection, ByDelegation}
use Rattle.model_prove.specs.model_events.specs.Matching.{fits}
use Rattle.model_prove.specs.model_rules.specs.Rules.{OnLine, AppRules}
use Rattle.model_prove.specs.model_rules.specs.Happenings.{Event, History}
use Rattle.model_prove.specs.model_rules.specs.Keeping.{Standing, standing_after, is_broken}
use Rattle.law_rules.specs.Law.{Covering}
use Rattle.model_prove.specs.Facts.{Facts, Memory, Holds}
use Rattle.model_prove.specs.Compares.{IsSo}
use Rattle.model_prove.specs.Keys.{Start, Delegated, OfClass, Call, PlaceKey, Known, Tables}
use Rattle.model_prove.specs.Laws.{HoldsBytes}
use Rattle.model_prove.specs.Arrivals.{Setting, static_size}
use Rattle.model_prove.specs.Between.{apdu_patterns}
use Rattle.model_prove.specs.Tables.{moment_at, place_at}

-- the bytes between commands: static bytes at their addresses, and session bytes from DB on
abbrev pub moment_memory : List ℕ → List ℕ → Memory
moment_memory fixed session = λ a. cond (nat_lt a (length fixed)) (slice_index fixed a) (slice_index session (a - dynamic_base))

-- A moment between commands that the tables have: with the allowances that stand after the history, and with facts that
-- hold of the static bytes, and of the session bytes if the application is selected.
pub record IsMoment (s : Setting) (t : Tables) (selected : Bool) (h : History) (fixed session : List ℕ) : Type 0 where
  pub standing : Standing
  pub stands : standing_after s.rules h ≡ Ok standing
  pub facts : Facts
  pub there : moment_at t.moments (record { selected = selected; allowances = standing.allowances }) ≡ Some facts
  pub holds : Holds facts (moment_memory fixed session)
  pub size : length fixed ≡ static_size s
  pub static : AreBytes fixed
  pub dynamic : AreBytes session

-- no rule was broken
abbrev pub IsUnbroken : Setting → History → Type 0
IsUnbroken s h = is_broken s.rules h ≡ false

-- ---- places

-- the bytes of the segments by their parts: static, dynamic and public bytes at their addresses, and none at others
abbrev pub parts_memory : ℕ → List ℕ → List ℕ → List ℕ → Memory
parts_memory size static dyn public = λ a.
    cond (nat_lt a size) (slice_index static a) (
    cond (nat_lt a dynamic_base) 0 (cond (nat_lt a public_base) (slice_index dyn (a - dynamic_base)) (slice_index public (a - public_base)))
    )

-- the bytes of a running frame: static bytes as it reads them, dynamic bytes, and the public segment
abbrev pub frame_memory : Frame → List ℕ → Memory
frame_memory f public = parts_memory (length f.fixed) (static_bytes f) f.dyn public

-- of each line that speaks of commands whether a command of these bytes matches
abbrev pub class_of : List ℕ → List OnLine → List Bool
class_of bytes ls = map (λ p. fits p (hex_text bytes)) (apdu_patterns ls)

-- how a frame began, as keys have it
abbrev pub StartsAs : AppRules → Entry Event → Start → Type 0
StartsAs r (BySelection bytes apdu before) (OfClass class) = class ≡ class_of bytes r.ons
StartsAs r ByDelegation Delegated = ⊤
StartsAs r e start = ⊥

-- Open calls: right below each of their ends the frame has the saved LB and place, above those of the calls before it.
-- LB is the end of the newest one, and what it has saved is the end of the one before it.
abbrev pub AreOpen : ℕ → ℕ → ℕ → List ℕ → List Call → Type 0
AreOpen floor top lb dyn [] = ⊤
AreOpen floor top lb dyn (c ∷ cs) =
    (c.dt ≤ top)
    × (floor + 4 ≤ c.dt)
    × (c.dt ≡ lb)
    × (take 4 (drop (c.dt - 4 - dynamic_base) dyn) ≡ bytes2 c.lb ++ bytes2 c.at)
    × ((c.lb < 65536) × (c.at < 65536))
    × AreOpen floor (c.dt - 4) c.lb dyn cs

-- A frame of the application, of bytes, with DT from its floor to the end of the stack; nothing waits without protection.
-- (Of LB nothing is said: a call may pop what lies below it, and then DT is less than LB.)
pub record IsFrameOf (a : App) (f : Frame) : Type 0 where
  pub code : f.code_len ≡ length a.code
  pub deny : f.deny ≡ a.deny
  pub session : f.session ≡ a.session
  pub size : length f.fixed ≡ length a.fixed
  pub room : length f.dyn ≡ 512
  pub static : AreBytes f.fixed
  pub pieces : ArePieces f.pieces
  pub inside : PiecesWithin (length f.fixed) f.pieces
  pub settled : f.protected ≡ false → f.pieces ≡ []
  pub low : dynamic_base + f.session ≤ f.dt
  pub high : f.dt ≤ dynamic_end
  pub base : f.lb < 65536

-- A place that the tables have: with the allowances that stand after the history, with facts and a last compare that hold
-- of the bytes before its instruction, and with facts that hold of the static bytes that power would leave.
pub record IsPlace (s : Setting) (t : Tables) (e : Entry Event) (h : History) (f : Frame) (public : List ℕ) : Type 0 where
  pub standing : Standing
  pub stands : standing_after s.rules h ≡ Ok standing
  pub start : Start
  pub starts : StartsAs s.rules e start
  pub calls : List Call
  pub open_calls : AreOpen (dynamic_base + f.session) f.dt f.lb f.dyn calls
  pub known : Known
  pub there : place_at t.places (record { at = f.at; start = start; allowances = standing.allowances; c = f.c; z = f.z; dt = f.dt; lb = f.lb; protected = f.protected; calls = calls }) ≡ Some known
  pub holds : Holds known.bytes (frame_memory f public)
  pub compares : IsSo known.compare (frame_memory f public)
  pub keeps : (session : List ℕ) → AreBytes session → Holds known.kept (moment_memory f.fixed session)
  pub frame : IsFrameOf s.app f
  pub bytes : HoldsBytes (frame_memory f public)
  pub dynamic : AreBytes f.dyn

-- the key of a place
abbrev pub key_of : (s : Setting) (t : Tables) (e : Entry Event) (h : History) (f : Frame) (public : List ℕ) → IsPlace s t e h f public → PlaceKey
key_of s t e h f public p = record { at = f.at; start = p.start; allowances = p.standing.allowances; c = f.c; z = f.z; dt = f.dt; lb = f.lb; protected = f.protected; calls = p.calls }

-- what is known at a place is so of a frame
pub record IsKnown (k : Known) (f : Frame) (public : List ℕ) : Type 0 where
  pub holds : Holds k.bytes (frame_memory f public)
  pub compares : IsSo k.compare (frame_memory f public)
  pub keeps : (session : List ℕ) → AreBytes session → Holds k.kept (moment_memory f.fixed session)

-- what tables cover
abbrev pub covering_of : Setting → Tables → Covering
covering_of s t =
    record {
      gone = IsUnbroken s;
      idle = λ h fixed. IsMoment s t false h fixed [];
      session = λ h fixed session. IsMoment s t true h fixed session;
      at = IsPlace s t;
    }
