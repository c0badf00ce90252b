-- What a watcher sees of a turn: the operand's place before it, and the operand's bytes and the stack after it.
use Rattle.std.specs.Prelude.{◌≡◌, ℕ, ◌+◌, ◌-◌, ◌≤◌, cond, List, [], length, take, bytes_eq, slice_get, Option, Some, None, option_and_then, option_map, IfSome, Result, Ok, Err}
use Rattle.mc_words.specs.model_device.specs.Device.{DeviceState}
use Rattle.mc_arith.specs.model_machine.specs.declared.instruction.Ins.{Ins}
use Rattle.mc_arith.specs.model_machine.specs.declared.instruction.DecodeFault.{DecodeFault}
use Rattle.mc_arith.specs.model_machine.specs.Code.{instruction_at}
use Rattle.mc_arith.specs.model_machine.specs.Frame.{Frame, Place, Static, Dynamic, Public, bytes_in, dynamic_end, floor, resolve, where_is}
use Rattle.mc_arith.specs.model_machine.specs.Chain.{Follows, Continues, Ends}
use Rattle.desk_draft.specs.FullTurns.{Span, span_of, stack_of}
use Rattle.desk_draft.specs.Listings.{Source}
use Rattle.mc_segs.specs.declared.access.Place.{Place as CodePlace}
use Rattle.mc_segs.specs.Places.{place_value}
use Rattle.mc_card.specs.declared.card.Card.{Card}
use Rattle.mc_card.specs.Parts.{RunsChain}
use Rattle.desk_cover.specs.declared.span.Span.{Span as CodeSpan}
use Rattle.desk_cover.specs.declared.looking.Scene.{Scene}

-- ---- before a turn

-- the section with an index, if there is one
abbrev pub section_at : List Source → Option ℕ → Option Source
section_at ss None = None
section_at ss (Some i) = slice_get ss i

-- the operand of a decoded instruction
abbrev pub span_decoded : Result (Ins × ℕ) DecodeFault → Option Span
span_decoded (Ok i) = span_of i.0
span_decoded (Err e) = None

-- the operand of the instruction that a frame runs next in some code
abbrev pub span_in : Frame → List ℕ → Option Span
span_in f code = span_decoded (instruction_at code f.at)

-- the place of an operand in a frame, and its number of bytes
abbrev pub place_in : Frame → Option Span → Option (Place × ℕ)
place_in f None = None
place_in f (Some s) = option_map (λ p. (p, s.size)) (option_and_then (λ a. where_is f a s.size) (resolve f s.tag s.offset))

-- ---- after it

-- the bytes at a place
abbrev pub bytes_there : Frame → List ℕ → Option (Place × ℕ) → List ℕ
bytes_there f public None = []
bytes_there f public (Some p) = bytes_in f public p.1 (Some p.0)

-- the stack of a frame that runs no more, up to its DT
abbrev pub cut_stack : Frame → ℕ → List ℕ
cut_stack f dt = take (dt - floor f) (stack_of f)

-- the bytes of an operand of a frame, which goes on if the running frame has its name
abbrev pub operand_after : Frame → Option (Place × ℕ) → Follows → List ℕ
operand_after f place (Ends o) = []
operand_after f place (Continues ch) = cond (bytes_eq ch.frame.name f.name) (bytes_there ch.frame ch.public place) []

-- the stack of a frame
abbrev pub stack_after : Frame → ℕ → Follows → List ℕ
stack_after f dt (Ends o) = cut_stack f dt
stack_after f dt (Continues ch) = cond (bytes_eq ch.frame.name f.name) (stack_of ch.frame) (cut_stack f dt)

-- a place has n bytes whole in its segment
abbrev pub Lies : Frame → List ℕ → Place → ℕ → Type 0
Lies f public (Static i) n = i + n ≤ length f.fixed
Lies f public (Dynamic i) n = i + n ≤ length f.dyn
Lies f public (Public i) n = i + n ≤ length public

-- a place, if there is one, has its bytes in the frame that runs after a turn
abbrev pub LiesAfter : Option (Place × ℕ) → Follows → Type 0
LiesAfter place (Ends o) = Unit {0}
LiesAfter place (Continues ch) = IfSome place (λ p. Lies ch.frame ch.public p.0 p.1)

-- ---- what the code keeps

-- a span in the code's type
abbrev pub span_value : CodeSpan → Span
span_value s = record { tag = s.tag; offset = s.off; size = s.size }

-- a place in the code's type, and its number of bytes
abbrev pub place_pair : CodePlace × ℕ → Place × ℕ
place_pair p = (place_value p.0, p.1)

-- the place of an operand, if the code is known
abbrev pub IsPlace : Option (CodePlace × ℕ) → Frame → Option (List ℕ) → Type 0
IsPlace o f None = Unit {0}
IsPlace o f (Some code) = option_map place_pair o ≡ place_in f (span_in f code)

-- what is kept of a frame before a turn; DT is at most the end of the dynamic segment
pub record IsScene (s : Scene) (f : Frame) (code : Option (List ℕ)) : Type 0 where
  pub name : s.name.items ≡ f.name
  pub floor : s.floor ≡ floor f
  pub stack : s.stack.items ≡ stack_of f
  pub place : IsPlace s.place f code
  pub high : f.dt ≤ dynamic_end

-- what follows a turn is what a card runs after it
abbrev pub Shows : {N : Type 0} → (N → DeviceState) → Card N → Follows → Type 0
Shows state c (Ends o) = c.chain ≡ None
Shows state c (Continues ch) = (left : ℕ) × RunsChain state c ch left
