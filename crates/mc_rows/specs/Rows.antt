-- How the rows of a family end, for each operation and length of their operands.
use Rattle.std.specs.Prelude.{◌≡◌, ℕ, ◌+◌, ◌*◌, Bool, true, false, not, ◌==◌, ℤ, List, ◌∷◌, length, Option, Some, None, Result, Ok, Err}
use Rattle.model_machine.specs.declared.machine.Abend.{Abend}
use Rattle.model_machine.specs.declared.machine.Abend.TheVariants.{A02, A03, A04, A06}
use Rattle.model_machine.specs.Blocks.{Worked, add_blocks, sub_blocks, inc_block, dec_block, and_blocks, or_blocks, xor_blocks, not_block, is_zero}
use Rattle.model_machine.specs.Frame.{Frame, address_at, bytes_at, is_outside, no_access, write_effect, is_under, top}
use Rattle.model_machine.specs.Primitives.{Around, Done, effect_and_next, in_range}
use Rattle.model_machine.specs.Row.{RowEnd, first_cause, row_end, operand, on_stack, immediate_reads, immediate_writes, pair_writes, becomes, flags_of, place_of, value_of, first_of}
use Rattle.mc_segs.specs.declared.ends.Halt.{Halt}
use Rattle.mc_segs.specs.declared.ends.Next.{Next}
use Rattle.mc_segs.specs.declared.ends.Next.TheVariants.{Go, Exit}
use Rattle.mc_rows.specs.declared.registers.Flow.{Flow}
use Rattle.mc_rows.specs.declared.registers.Flow.TheVariants as flow
use Rattle.mc_rows.specs.declared.operations.Binary.{Binary}
use Rattle.mc_rows.specs.declared.operations.Binary.TheVariants.{Add, Sub, And, Or, Xor}
use Rattle.mc_rows.specs.declared.operations.Unary.{Unary}
use Rattle.mc_rows.specs.declared.operations.Unary.TheVariants.{Inc, Dec, Not}

-- some surroundings of a frame, on which only primitives depend
abbrev pub alone : Around
alone = record { case = 0; delegator = None }

-- the result of a row that goes on with the next instruction, as that of any row
abbrev pub onward : Result (Unit {0}) Halt → Result Next Halt
onward (Ok u) = Ok Go
onward (Err halt) = Err halt

-- the result of an instruction other than PRIM, as that of any instruction
abbrev pub row_result : Result Flow Halt → Result Next Halt
row_result (Ok flow.Go) = Ok Go
row_result (Ok flow.Exit) = Ok Exit
row_result (Err halt) = Err halt

-- the address of an operand: 04 if the stack is too short, else 03 if there is no such address
abbrev pub OperandPlaced : Result ℕ Abend → Bool → Option ℕ → Type 0
OperandPlaced (Ok a) under place = (under ≡ false) × (place ≡ Some a)
OperandPlaced (Err A04) under place = under ≡ true
OperandPlaced (Err A03) under place = (under ≡ false) × (place ≡ None)
OperandPlaced (Err _) under place = ⊥

-- the target of a branch: 02 if there is no such address
abbrev pub Led : Result ℕ Abend → Option ℕ → Type 0
Led (Ok a) to = to ≡ Some a
Led (Err b) to = (to ≡ None) × (b ≡ A02)

-- the address to which STOREI writes the top n bytes: 04 if the stack is too short, else 03 if the place that holds the
-- address lies in no segment
abbrev pub AddressUnder : Result ℕ Abend → Frame → List ℕ → ℕ → ℤ → ℕ → Type 0
AddressUnder (Ok a) f public tag off n =
    (is_under f (on_stack tag (n + 2) n) ≡ false) × (no_access f (operand f tag off (n + 2)) 2 ≡ false) × (a ≡ address_at f public (place_of f tag off (n + 2)))
AddressUnder (Err A04) f public tag off n = is_under f (on_stack tag (n + 2) n) ≡ true
AddressUnder (Err A03) f public tag off n = (is_under f (on_stack tag (n + 2) n) ≡ false) × (no_access f (operand f tag off (n + 2)) 2 ≡ true)
AddressUnder (Err _) f public tag off n = ⊥

-- the first of a pair of operands of n bytes: 04 if the stack is too short, else 03 if it lies in no segment, else its
-- address and its value
abbrev pub FirstRead : Result ℕ Abend → Frame → List ℕ → ℕ → ℤ → ℕ → List ℕ → Type 0
FirstRead (Ok a) f public tag off n value =
    (is_under f (on_stack tag (2 * n) n) ≡ false) × (operand f tag off (2 * n) ≡ Some a) × (is_outside f a n ≡ false) × (value ≡ bytes_at f public a n)
FirstRead (Err A04) f public tag off n value = is_under f (on_stack tag (2 * n) n) ≡ true
FirstRead (Err A03) f public tag off n value = (is_under f (on_stack tag (2 * n) n) ≡ false) × (no_access f (operand f tag off (2 * n)) n ≡ true)
FirstRead (Err _) f public tag off n value = ⊥

-- the end of a row: the abend of the first cause that holds, else its effect
abbrev pub end_of_row : List (Abend × Bool) → Done → RowEnd
end_of_row causes done = row_end (first_cause causes) done

-- ---- operations

-- the result b of a bitwise operation, which keeps C
abbrev pub bits : Bool → List ℕ → Worked
bits c b = record { value = b; c = c; z = is_zero b }

-- the result and the flags of an operation on two blocks, if C was c
abbrev pub binary_result : Binary → Bool → List ℕ → List ℕ → Worked
binary_result Add c a b = add_blocks a b
binary_result Sub c a b = sub_blocks a b
binary_result And c a b = bits c (and_blocks a b)
binary_result Or c a b = bits c (or_blocks a b)
binary_result Xor c a b = bits c (xor_blocks a b)

-- the result and the flags of an operation on one block, if C was c
abbrev pub unary_result : Unary → Bool → List ℕ → Worked
unary_result Inc c a = inc_block a
unary_result Dec c a = dec_block a
unary_result Not c a = bits c (not_block a)

-- the greatest length in bytes of two operands
abbrev pub most_binary : Binary → ℕ
most_binary Add = 16
most_binary Sub = 16
most_binary And = 255
most_binary Or = 255
most_binary Xor = 255

-- whether two operands of n bytes have a bad length, which is abend 06
abbrev pub bad_binary : Binary → ℕ → Bool
bad_binary Add n = not (in_range 1 16 n)
bad_binary Sub n = not (in_range 1 16 n)
bad_binary And n = n == 0
bad_binary Or n = n == 0
bad_binary Xor n = n == 0

-- the greatest length in bytes of one operand
abbrev pub most_unary : Unary → ℕ
most_unary Inc = 16
most_unary Dec = 16
most_unary Not = 255

-- whether an operand of n bytes has a bad length, which is abend 06
abbrev pub bad_unary : Unary → ℕ → Bool
bad_unary Inc n = not (in_range 1 16 n)
bad_unary Dec n = not (in_range 1 16 n)
bad_unary Not n = n == 0

-- ---- families of rows

-- the rows that set the bytes at a place
abbrev pub set_end : Frame → List ℕ → ℕ → ℤ → List ℕ → RowEnd
set_end f public tag off b = end_of_row (immediate_writes f tag off (length b)) (effect_and_next (write_effect f public (place_of f tag off (length b)) b))

-- the rows that compare the bytes at a place with an immediate
abbrev pub compare_end : Frame → List ℕ → ℕ → ℤ → List ℕ → RowEnd
compare_end f public tag off b = end_of_row (immediate_reads f tag off (length b)) (flags_of f public (sub_blocks (value_of f public tag off (length b)) b))

-- the rows that combine the bytes at a place with an immediate
abbrev pub combine_end : Binary → Frame → List ℕ → ℕ → ℤ → List ℕ → RowEnd
combine_end w f public tag off b =
    end_of_row (immediate_writes f tag off (length b))
    (becomes f public (place_of f tag off (length b)) (binary_result w f.c (value_of f public tag off (length b)) b))

-- the effect of a change of n bytes at a place
abbrev pub change_done : Unary → Frame → List ℕ → ℕ → ℤ → ℕ → Done
change_done w f public tag off n = becomes f public (place_of f tag off n) (unary_result w f.c (value_of f public tag off n))

-- the rows that change n bytes at a place, if n is a good length
abbrev pub changed_end : Unary → Frame → List ℕ → ℕ → ℤ → ℕ → RowEnd
changed_end w f public tag off n = end_of_row (immediate_writes f tag off n) (change_done w f public tag off n)

-- the rows that change n bytes at a place
abbrev pub change_end : Unary → Frame → List ℕ → ℕ → ℤ → ℕ → RowEnd
change_end w f public tag off n = end_of_row ((A06, bad_unary w n) ∷ immediate_writes f tag off n) (change_done w f public tag off n)

-- the effect of combining n bytes at a place with the top n bytes
abbrev pub pair_done : Binary → Frame → List ℕ → ℕ → ℤ → ℕ → Done
pair_done w f public tag off n = becomes f public (place_of f tag off (2 * n)) (binary_result w f.c (first_of f public tag off n) (top f n))

-- the rows that combine n bytes at a place with the top n bytes, if n is a good length
abbrev pub paired_end : Binary → Frame → List ℕ → ℕ → ℤ → ℕ → RowEnd
paired_end w f public tag off n = end_of_row (pair_writes f tag off n) (pair_done w f public tag off n)

-- the rows that combine n bytes at a place with the top n bytes
abbrev pub pair_end : Binary → Frame → List ℕ → ℕ → ℤ → ℕ → RowEnd
pair_end w f public tag off n = end_of_row ((A06, bad_binary w n) ∷ pair_writes f tag off n) (pair_done w f public tag off n)
