-- The greatest number of device writes of each kind of line: what a line wears at the most, whatever was cut or
-- failed before it.
use Rattle.std.specs.Prelude.{ℕ, ◌+◌, ◌*◌, cond, ◌==◌, length}
use Rattle.law_family.specs.model_device.specs.Limits.{most_static}
use Rattle.law_family.specs.model_device.specs.Bytes.{up}
use Rattle.law_family.specs.model_card.specs.Units.{UnitParts}
use Rattle.law_family.specs.model_card.specs.Manager.{Route, WrongLength, WrongClass, ToSelect, ToManager, ToApplication, route}
use Rattle.law_family.specs.model_play.specs.DeckGrammar.{DeckLine}
use Rattle.law_family.specs.model_play.specs.DeckGrammar as line

-- the most device writes of a power-up: 65 of a recovery, and 6 of the migration
abbrev pub most_of_power : ℕ
most_of_power = 71

-- the most of an instruction, counted over a run: an atomic write of 33 words. A commit of 64 words takes 147 device
-- writes, but the instructions that made these words pending took none
abbrev pub most_of_instruction : ℕ
most_of_instruction = 78

-- the most of a piece of n bytes: one for each word that it touches, wherever it begins
abbrev pub most_of_piece : ℕ → ℕ
most_of_piece n = up (n + 7) 8

-- the most of a creation with this number of static bytes: the words of the zeros after the data, four words of the
-- record, and an atomic write of three header words
abbrev pub most_of_creation : ℕ → ℕ
most_of_creation fixed = up fixed 8 + 4 + 10

-- the most of a deletion: an atomic write of two header words
abbrev pub most_of_deletion : ℕ
most_of_deletion = 8

-- the most of a load: the words of each section that is sent, and the creation
abbrev pub most_of_load : UnitParts → ℕ → ℕ
most_of_load u fixed =
    up (length u.code) 8 + up (length u.init) 8 + up (length u.dir) 8 + up (length u.fci) 8 + most_of_creation fixed

-- the most of a command of class BE, by its INS and its number of data bytes
abbrev pub most_of_manager : ℕ → ℕ → ℕ
most_of_manager ins n =
    cond (ins == 0x24) (most_of_piece n) (
    cond (ins == 0x26) (most_of_piece n) (
    cond (ins == 0x20) (most_of_piece n) (
    cond (ins == 0x22) (most_of_piece n) (cond (ins == 0x16) (most_of_creation most_static) (cond (ins == 0x18) most_of_deletion 0))
    )
    )
    )

-- the most of a command that runs n instructions, by its route
abbrev pub most_of_route : ℕ → Route → ℕ
most_of_route n WrongLength = 0
most_of_route n WrongClass = 0
most_of_route n (ToSelect a) = 0
most_of_route n (ToManager a) = most_of_manager a.ins (length a.body)
most_of_route n (ToApplication a) = most_of_instruction * n

-- the most of a line that runs n instructions
abbrev pub most_writes : ℕ → DeckLine → ℕ
most_writes n line.Power = most_of_power
most_writes n (line.Sent (line.Load u fixed session)) = most_of_load u fixed
most_writes n (line.Sent (line.Select a)) = 0
most_writes n (line.Sent (line.Delete a)) = most_of_deletion
most_writes n (line.Sent (line.Apdu b)) = most_of_route n (route b)
most_writes n _ = 0

-- ---- atomic writes, each of which writes the gate twice

-- the most atomic writes of a command of class BE, by its INS: one of a creation, and one of a deletion
abbrev pub most_atomic_of_manager : ℕ → ℕ
most_atomic_of_manager ins = cond (ins == 0x16) 1 (cond (ins == 0x18) 1 0)

-- the most atomic writes of a command that runs n instructions, by its route: one for each of them
abbrev pub most_atomic_of_route : ℕ → Route → ℕ
most_atomic_of_route n WrongLength = 0
most_atomic_of_route n WrongClass = 0
most_atomic_of_route n (ToSelect a) = 0
most_atomic_of_route n (ToManager a) = most_atomic_of_manager a.ins
most_atomic_of_route n (ToApplication a) = n

-- the most atomic writes of a line that runs n instructions
abbrev pub most_atomic : ℕ → DeckLine → ℕ
most_atomic n (line.Sent (line.Load u fixed session)) = 1
most_atomic n (line.Sent (line.Delete a)) = 1
most_atomic n (line.Sent (line.Apdu b)) = most_atomic_of_route n (route b)
most_atomic n _ = 0
