-- The facts of a row of accepted code: the causes that it never has, and what it leaves of its frame.
use Rattle.std.specs.Prelude.{◌≡◌, ◌⊎◌, ◌≤◌, ◌+◌, ◌-◌, ℕ, true, false, List, length, Some, None}
use Rattle.law_family.specs.model_machine.specs.declared.instruction.Ins.{Ins}
use Rattle.law_family.specs.model_machine.specs.declared.machine.Abend.{Abend}
use Rattle.law_family.specs.model_machine.specs.Code.{Shaped}
use Rattle.law_family.specs.model_machine.specs.Frame.{Frame, dynamic_base, public_base, public_end}
use Rattle.law_family.specs.model_machine.specs.Primitives.{Around, Then, Goes, Exits, Delegates, Done}
use Rattle.law_family.specs.model_machine.specs.Row.{causes, first_cause, row, Does}
use Rattle.law_family.specs.model_machine.specs.Chain.{frame_at}
use Rattle.model_stack.specs.StackRows.{need, height_after, always_abends, writing, is_plain, is_indirect, counts, goes_on, jump_target, call_target, places_inside}
use Rattle.mc_check.specs.Checked.{is_excluded}
use Rattle.mc_check.specs.Standing.{StandsAt, calls_of}

-- the place of a frame that goes on: after its instruction, or at its target
abbrev pub GoesTo : Ins → ℕ → ℕ → Then → Type 0
GoesTo i next at Exits = Unit {0}
GoesTo i next at Goes = ((at ≡ next) × (goes_on i ≡ true)) ⊎ (jump_target i next ≡ Some (Some at))
GoesTo i next at (Delegates n) = ((at ≡ next) × (goes_on i ≡ true)) ⊎ (jump_target i next ≡ Some (Some at))

-- the frame after an instruction that is no call and no return
pub record RowStays (len size base h : ℕ) (i : Ins) (next : ℕ) (f : Frame) (d : Done) : Type 0 where
  pub name : d.effect.frame.name ≡ f.name
  pub stands : length d.effect.frame.fixed ≤ dynamic_base → StandsAt len size base (height_after i h) d.effect.frame
  pub calls : ((is_plain size h (writing i) ≡ true) ⊎ (base ≡ 0)) → calls_of d.effect.frame ≡ calls_of f
  pub place : GoesTo i next d.effect.frame.at d.next

-- The facts of every row: its causes and its frame, if the public segment that it may load from is whole; and no row
-- makes that segment shorter.
pub record RowsAreCalm : Type 0 where
  pub calm : (len size base h : ℕ) (i : Ins) (next : ℕ) (f : Frame) (public : List ℕ) (x : Around) (c : Abend) → Shaped i → StandsAt len size base h f
      → need i ≤ h → is_indirect i ≡ false → places_inside len i next ≡ true → counts i ≡ None
      → (always_abends i ≡ false → size + base + height_after i h ≤ 512) → ((q : ℕ) → call_target i ≡ Some q → size + base + h + 4 ≤ 512)
      → first_cause (causes i (frame_at f next) public x) ≡ Some c → is_excluded c ≡ false
  pub stays : (len size base h : ℕ) (i : Ins) (next : ℕ) (f : Frame) (public : List ℕ) (x : Around) (d : Done) → Shaped i → StandsAt len size base h f
      → need i ≤ h → is_indirect i ≡ false → counts i ≡ None → call_target i ≡ None
      → (always_abends i ≡ false → size + base + height_after i h ≤ 512) → public_end - public_base ≤ length public
      → row i (frame_at f next) public x ≡ Does d → RowStays len size base h i next f d
  pub grows : (i : Ins) (f : Frame) (public : List ℕ) (x : Around) (d : Done) → row i f public x ≡ Does d → length public ≤ length d.effect.public
