-- What of a row's shape matters to what follows it. Of the bytes that a row copies, or that have no fact, the number
-- alone does, and so of bytes behind a first one, their number; of those that it works on digit by digit or searches,
-- and of the flags that it then sets, nothing.
use Rattle.std.specs.Prelude.{◌≡◌, ℕ, Bool, List, [], ◌∷◌, length, Option, None}
use Rattle.model_machine.specs.declared.instruction.Ins.{Ins}
use Rattle.model_machine.specs.model_device.specs.Bytes.{zeros}
use Rattle.model_machine.specs.Primitives.{Then, Goes, Exits, Delegates}
use Rattle.model_machine.specs.Shapes.{Act, Stays, Answers, Jumps, Calls, Returns, Pushes, Replaces, Writes, Protects, Shape}
use Rattle.model_machine.specs.declared.machine.Abend.{Abend}
use Rattle.model_prove.specs.Work.{Work, AsShaped, Copies, Works, Searches, AnyZ, Counted, NoFact}
use Rattle.model_prove.specs.Arrivals.{Setting}
use Rattle.model_prove.specs.Steps.{Spot, caused}

-- the bytes of a row that matter
abbrev pub outlined_bytes : Work → List ℕ → List ℕ
outlined_bytes AsShaped b = b
outlined_bytes (Copies from) b = zeros (length b)
outlined_bytes (Works d) b = []
outlined_bytes (Searches value table n) b = []
outlined_bytes AnyZ b = []
outlined_bytes Counted [] = []
outlined_bytes Counted (n ∷ b) = n ∷ zeros (length b)
outlined_bytes NoFact b = zeros (length b)

-- the flags of a row that matter
abbrev pub outlined_flags : Work → Option (Bool × Bool) → Option (Bool × Bool)
outlined_flags AsShaped flags = flags
outlined_flags (Copies from) flags = flags
outlined_flags (Works d) flags = None
outlined_flags (Searches value table n) flags = None
outlined_flags AnyZ flags = None
outlined_flags Counted flags = flags
outlined_flags NoFact flags = flags

-- an act with the bytes that matter
abbrev pub outlined_act : Work → Act → Act
outlined_act w Stays = Stays
outlined_act w (Answers sw la) = Answers sw la
outlined_act w (Jumps taken to) = Jumps taken to
outlined_act w (Calls taken to) = Calls taken to
outlined_act w (Returns less more) = Returns less more
outlined_act w (Pushes b) = Pushes (outlined_bytes w b)
outlined_act w (Replaces b) = Replaces (outlined_bytes w b)
outlined_act w (Writes a n b) = Writes a n (outlined_bytes w b)
outlined_act w (Protects mode) = Protects mode

-- what comes next, without the name of who is delegated to
abbrev pub outlined_next : Then → Then
outlined_next Goes = Goes
outlined_next Exits = Exits
outlined_next (Delegates name) = Delegates []

-- what of a shape matters
abbrev pub outlined : Work → Shape → Shape
outlined w h =
    record {
      dt = h.dt;
      act = outlined_act w h.act;
      flags = outlined_flags w h.flags;
      next = outlined_next h.next;
    }

-- what follows a row follows from what of its shape matters
abbrev pub OutlineLaw : Type 0
OutlineLaw = (cause : Option Abend) (s : Setting) (i : Ins) (h : Shape) (w : Work) (p q : Spot) → caused cause s i (outlined w h) w p q ≡ caused cause s i h w p q
