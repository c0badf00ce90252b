-- A frame that runs accepted code: its place and its stack, and its open calls.
use Rattle.std.specs.Prelude.{◌≡◌, ◌≤◌, ◌+◌, ◌-◌, ℕ, List, length, take, drop, Some}
use Rattle.law_family.specs.model_machine.specs.declared.instruction.Ins.{Ins}
use Rattle.law_family.specs.model_device.specs.Bytes.{bytes2}
use Rattle.law_family.specs.model_machine.specs.Frame.{Frame, floor, dynamic_base}
use Rattle.model_stack.specs.StackRows.{call_target}
use Rattle.model_stack.specs.StackShape.{Routine, Main, At, fact, Reached, Gives}

-- a frame with `size` session bytes, whose DT is `height` bytes above LB, and LB `base` bytes above the floor
pub record StandsAt (len size base height : ℕ) (f : Frame) : Type 0 where
  pub session : f.session ≡ size
  pub code_len : f.code_len ≡ len
  pub dyn : length f.dyn ≡ 512
  pub fixed : length f.fixed ≤ dynamic_base
  pub lb : f.lb ≡ dynamic_base + size + base
  pub dt : f.dt ≡ f.lb + height
  pub room : size + base + height ≤ 512

-- the bytes of the stack below LB
abbrev pub calls_of : Frame → List ℕ
calls_of f = take (f.lb - floor f) (drop f.session f.dyn)

-- The open calls of a routine, whose LB is the given number of bytes above the floor, in the bytes of the stack from
-- the floor on: a CALL of each routine, the first one of main, with the LB and the return address that it pushed.
pub data OpenCalls (code : List ℕ) (session : ℕ) (bytes : List ℕ) : Routine → ℕ → Type 0 where
  none : OpenCalls code session bytes Main 0
  call : {r : Routine} {p h b q : ℕ} (i : Ins) (next : ℕ) → OpenCalls code session bytes r b → Reached code (fact r p h) → Gives code (fact r p h) i next
      → call_target i ≡ Some q → take 2 (drop (b + h) bytes) ≡ bytes2 (dynamic_base + session + b) → take 2 (drop (b + h + 2) bytes) ≡ bytes2 next
      → OpenCalls code session bytes (At q) (b + h + 4)
