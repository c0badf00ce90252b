-- What the frame that ran a turn reads after it, by what the turn and the chain after it show.
use Rattle.std.specs.Prelude.{◌≡◌, ◌⊎◌, ℕ, ◌-◌, Bool, true, false, cond, List, take, bytes_eq, Some}
use Rattle.law_family.specs.model_machine.specs.declared.instruction.Ins.{Ins}
use Rattle.law_family.specs.model_machine.specs.declared.instruction.Ins.TheVariants as ins
use Rattle.law_family.specs.model_machine.specs.declared.machine.Abend.{Abend}
use Rattle.law_family.specs.model_machine.specs.Frame.{dynamic_base, with_la, with_sw}
use Rattle.law_family.specs.model_machine.specs.Chain.{Abended, Follows, Continues, Ends, Turn}
use Rattle.law_steps.specs.Readings.{Reading, reading_of}

-- whether an instruction exits its frame
abbrev pub is_exit_of : Ins → Bool
is_exit_of ins.Exit = true
is_exit_of (ins.Exitsw sw) = true
is_exit_of (ins.Exitla la) = true
is_exit_of (ins.Exitswla sw la) = true
is_exit_of i = false

-- a turn that ends its frame: it abends, or exits
abbrev pub EndsFrame : Turn → Type 0
EndsFrame t = ((cause : Abend) × (t.end ≡ Some (Abended cause))) ⊎ ((i : Ins) × (t.ins ≡ Some i) × (is_exit_of i ≡ true))

-- the public bytes after an instruction that exits
abbrev pub exit_public : Ins → List ℕ → List ℕ
exit_public (ins.Exitsw sw) public = with_sw public sw
exit_public (ins.Exitla la) public = with_la public la
exit_public (ins.Exitswla sw la) public = with_la (with_sw public sw) la
exit_public i public = public

-- what the frame of a name reads after a turn that did not end it, with DT after it: if the running frame has another
-- name, it was called, and the frame that called it reads what it read, below its DT
abbrev pub shown_reading : Follows → List ℕ → Reading → ℕ → Reading
shown_reading (Ends o) name r dt = r
shown_reading (Continues ch) name r dt = cond (bytes_eq ch.frame.name name) (reading_of ch.frame ch.public) (record r { dynamic = take (dt - dynamic_base) r.dynamic })
