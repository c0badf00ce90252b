-- The bytes of a shot, and what differs between two of them.
use Rattle.std.specs.Prelude.{ℕ, ◌+◌, ◌-◌, ◌*◌, min, Bool, cond, nat_le, nat_lt, List, [], ◌++◌, get_or, take, Option, Some, None}
use Rattle.mc_text.specs.model_machine.specs.declared.instruction.Ins.{Ins}
use Rattle.mc_text.specs.model_machine.specs.Frame.{dynamic_base, public_base}
use Rattle.law_steps.specs.Runs.{changes}
use Rattle.law_steps.specs.Readings.{Reading, no_reading, sets_between}
use Rattle.law_steps.specs.Spans.{Look, static_only, target}
use Rattle.desk_steps.specs.declared.shot.Shot.{Shot}

-- the static bytes
abbrev pub statics : Shot → List ℕ
statics s = take (min s.fixed_len 4096) s.fixed

-- the dynamic bytes below DT
abbrev pub dynamics : Shot → List ℕ
dynamics s = take (min (s.dt - dynamic_base) 512) s.dynamic

-- what a shot has of what its frame reads
abbrev pub shot_reading : Shot → Reading
shot_reading s = record { fixed = statics s; dynamic = dynamics s; public = s.public }

-- the runs of static bytes that differ
abbrev pub static_changes : Shot → Shot → List (ℕ × List ℕ)
static_changes old new = changes 0 (statics old) (statics new)

-- the runs of dynamic bytes that differ
abbrev pub dynamic_changes : Shot → Shot → List (ℕ × List ℕ)
dynamic_changes old new = changes dynamic_base (dynamics old) (dynamics new)

-- the runs of public bytes that differ
abbrev pub public_changes : Shot → Shot → List (ℕ × List ℕ)
public_changes old new = changes public_base old.public new.public

-- the runs of bytes that differ
abbrev pub shot_changes : Shot → Shot → List (ℕ × List ℕ)
shot_changes old new = static_changes old new ++ dynamic_changes old new ++ public_changes old new

-- the public bytes of a shot, unless they are left out
abbrev pub shown_public : Bool → Shot → List ℕ
shown_public with_public s = cond with_public s.public []

-- the runs of the bytes of a frame that begins which are not zero
abbrev pub frame_changes : Bool → Shot → List (ℕ × List ℕ)
frame_changes with_public s = sets_between no_reading (record (shot_reading s) { public = shown_public with_public s })

-- ---- addresses

-- the byte at an address, 0 if no segment has it
abbrev pub shot_byte : Shot → ℕ → ℕ
shot_byte s a =
    cond (nat_lt a s.fixed_len) (get_or s.fixed (min a 4095) 0) (
    cond (nat_le public_base a) (get_or s.public (min (a - public_base) 1040) 0) (
    cond (nat_le dynamic_base a) (get_or s.dynamic (min (a - dynamic_base) 511) 0) 0
    )
    )

-- the number in the two bytes at an address
abbrev pub shot_number : Shot → ℕ → ℕ
shot_number s a = shot_byte s a * 256 + shot_byte s (min (a + 1) 65535)

-- what is seen of the frame
abbrev pub look_of : Shot → Look
look_of s = record { size = s.fixed_len; lb = s.lb; dt = s.dt; number = λ a. shot_number s a }

-- the length of a name at the address on top of the stack, as it is read after a turn, if a frame delegated
abbrev pub name_seen : Bool → Shot → Shot → Option ℕ
name_seen deep before after = cond deep (Some (shot_byte after (shot_number before (before.dt - 2)))) None

-- the static bytes that an instruction writes, by the shots before and after it
abbrev pub span_seen : Shot → Shot → Bool → Ins → Option (ℕ × ℕ)
span_seen before after deep i = static_only before.fixed_len (target i (look_of before) (name_seen deep before after))
