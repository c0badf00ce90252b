-- Each instruction has its law.
use Rattle.std.proofs.Common.{◌≡◌, ℕ, Bool, true, false, cond, List, [], ◌∷◌, Option, Some, None, refl, sym, ap, subst, ◌∙◌}
use Rattle.std.specs.Prelude.{◌==◌, slice_index, ⊤}
use Rattle.std.proofs.lemmas.Bool.{eqb-true}
use Rattle.law_sums.specs.model_machine.specs.declared.instruction.Ins.{Ins}
use Rattle.law_sums.specs.model_machine.specs.declared.instruction.Ins.TheVariants as ins
use Rattle.law_sums.specs.model_machine.specs.Frame.{Frame}
use Rattle.law_sums.specs.model_machine.specs.Primitives.{Goes, Des, TripleDes, Aes, Primitive, entry_of_number, primitives, primitive, prim_causes}
use Rattle.law_sums.specs.model_machine.specs.Row.{causes}
use Rattle.law_sums.specs.model_machine.specs.Shapes.{Stays, shape, pair_shape}
use Rattle.law_sums.specs.model_rules.specs.Keeping.{mode_of_primitive}
use Rattle.law_prove_closed.specs.law_prove.proofs.Turns.{NoCause}
use Rattle.law_sums.specs.TurnLaws.{row_sums}
use Rattle.law_sum_plays.specs.Rows.{AllSumRowsLaw}
use Rattle.law_sum_plays.proofs.Scenes.{fetched}
use Rattle.law_sum_plays.proofs.Rows.{unprotected, row_done, StepCase, law_of}
use Rattle.law_sum_plays.proofs.Plain.{nop_case, popn_case, popb_case, popw_case, setsw_case, setla_case, setswla_case, exit_case, exitsw_case, exitla_case, exitswla_case, branch_case, jump_case, call_case, pushz_case, pushb_case, pushw_case, loada_case, return_cases}
use Rattle.law_sum_plays.proofs.Copied.{load_case, store_case, setb_case, setw_case}
use Rattle.law_sum_plays.proofs.Sums.{addb_case, subb_case, addw_case, subw_case, incn_case, decn_case, addn_case, subn_case, clearn_case, notn_case, andn_case, orn_case, xorn_case, cmpb_case, cmpw_case, cmpn_case, testn_case}
use Rattle.law_sum_plays.proofs.Addresses.{loadi_case, storei_case, index_case}
use Rattle.law_sum_plays.proofs.Prims.{check_case, load_ccr_case, store_ccr_case, lookup_case, compare_case, compare_fixed_case, delegate_case, protection_case, shift_left_case, shift_right_case}
use Rattle.law_sum_plays.proofs.Targets.{jump_target_case, call_target_case}
use Rattle.law_sum_plays.proofs.Masks.{bit_byte_case, bit_word_case}
use Rattle.law_sum_plays.proofs.Blocks.{copy_case, copy_fixed_case, digest_case}
use Rattle.law_sum_plays.proofs.Ciphers.{encipher_case, decipher_case, sign_case}
use Rattle.law_sum_plays.proofs.Delegators.{delegator_case}

-- ---- jumps and calls, by their condition

jump_row : (b : Bool) (k to : ℕ) → (k == 0) ≡ b → StepCase (ins.Jump k to)
jump_row true k to e = subst (λ (n : ℕ). StepCase (ins.Jump n to)) (sym (eqb-true k 0 e)) (jump_target_case to)
jump_row false k to e = jump_case k to e

call_row : (b : Bool) (k to : ℕ) → (k == 0) ≡ b → StepCase (ins.Call k to)
call_row true k to e = subst (λ (n : ℕ). StepCase (ins.Call n to)) (sym (eqb-true k 0 e)) (call_target_case to)
call_row false k to e = call_case k to e

-- ---- primitives, by their table

-- a pair that is no primitive is not done
no_primitive : (set number : ℕ) (args : List ℕ) → primitive set number ≡ None → StepCase (ins.Prim set number args)
unfolding causes shape
no_primitive set number args e s t u step static =
    let i : Ins = ins.Prim set number args in
    let f : Frame = fetched s t u i step in
    row_done s t u i step static step.frame.dt Stays None Goes (ap (λ (z : Option Primitive). pair_shape z args f step.public step.around) e)
    (sym (ap (λ (z : Option Primitive). row_sums step.frame.protected (mode_of_primitive z (slice_index args 0)) step.place.standing) e ∙ unprotected step.frame.protected step.place.standing))
    (λ free. let clear : NoCause (prim_causes None args f step.public step.around) = subst (λ (z : Option Primitive). NoCause (prim_causes z args f step.public step.around)) e free in absurd (cc clear.0))

-- the rows of the numbers of a table
abbrev TableRows : ℕ → List (ℕ × Primitive) → Type 0
TableRows set [] = ⊤
TableRows set (e ∷ es) = ((args : List ℕ) → StepCase (ins.Prim set e.0 args)) × TableRows set es

entry_row : (b : Bool) (set number n : ℕ) (args : List ℕ) (p : Primitive) (rest : Option Primitive) → (n == number) ≡ b → StepCase (ins.Prim set n args)
    → ((rest ≡ None → StepCase (ins.Prim set number args)) → StepCase (ins.Prim set number args)) → (cond b (Some p) rest ≡ None → StepCase (ins.Prim set number args)) → StepCase (ins.Prim set number args)
entry_row true set number n args p rest e this others none = subst (λ (k : ℕ). StepCase (ins.Prim set k args)) (eqb-true n number e) this
entry_row false set number n args p rest e this others none = others none

-- a number has the row of its entry, or none
table_row : (set number : ℕ) (args : List ℕ) (es : List (ℕ × Primitive)) → TableRows set es → (entry_of_number number es ≡ None → StepCase (ins.Prim set number args)) → StepCase (ins.Prim set number args)
table_row set number args [] rows none = none refl
table_row set number args (e ∷ es) rows none =
    entry_row (e.0 == number) set number e.0 args e.1 (entry_of_number number es) refl (rows.0 args) (λ more. table_row set number args es rows.1 more) none

no_set : (number : ℕ) (args : List ℕ) → StepCase (ins.Prim 0 number args)
no_set number args =
    table_row 0 number args (primitives 0) (check_case, (load_ccr_case, (store_ccr_case, (lookup_case, (compare_case, (copy_case, (delegate_case, (delegator_case, (digest_case, tt)))))))))
    (λ none. no_primitive 0 number args none)

first_set : (number : ℕ) (args : List ℕ) → StepCase (ins.Prim 1 number args)
first_set number args =
    table_row 1 number args (primitives 1)
    (compare_fixed_case, (copy_fixed_case, (protection_case, (encipher_case 4 Des refl, (decipher_case 5 Des refl, (encipher_case 6 TripleDes refl, (decipher_case 7 TripleDes refl, (sign_case 8 Des refl, (sign_case 9 TripleDes refl, (encipher_case 10 Aes refl, (decipher_case 11 Aes refl, (sign_case 12 Aes refl, tt))))))))))))
    (λ none. no_primitive 1 number args none)

second_set : (number : ℕ) (args : List ℕ) → StepCase (ins.Prim 2 number args)
second_set number args = table_row 2 number args (primitives 2) (bit_byte_case, (shift_left_case, (shift_right_case, tt))) (λ none. no_primitive 2 number args none)

third_set : (number : ℕ) (args : List ℕ) → StepCase (ins.Prim 3 number args)
third_set number args = table_row 3 number args (primitives 3) (bit_word_case, tt) (λ none. no_primitive 3 number args none)

row_of_set : (set n : ℕ) → (set == n) ≡ true → (number : ℕ) (args : List ℕ) → StepCase (ins.Prim n number args) → StepCase (ins.Prim set number args)
row_of_set set n e number args law = subst (λ (k : ℕ). StepCase (ins.Prim k number args)) (sym (eqb-true set n e)) law

set_row : (p q r u : Bool) (set number : ℕ) (args : List ℕ) → (set == 0) ≡ p → (set == 1) ≡ q → (set == 2) ≡ r → (set == 3) ≡ u
    → (entry_of_number number (cond p (primitives 0) (cond q (primitives 1) (cond r (primitives 2) (cond u (primitives 3) [])))) ≡ None → StepCase (ins.Prim set number args)) → StepCase (ins.Prim set number args)
set_row true q r u set number args a b c d none = row_of_set set 0 a number args (no_set number args)
set_row false true r u set number args a b c d none = row_of_set set 1 b number args (first_set number args)
set_row false false true u set number args a b c d none = row_of_set set 2 c number args (second_set number args)
set_row false false false true set number args a b c d none = row_of_set set 3 d number args (third_set number args)
set_row false false false false set number args a b c d none = none refl

primitive_row : (set number : ℕ) (args : List ℕ) → StepCase (ins.Prim set number args)
primitive_row set number args = set_row (set == 0) (set == 1) (set == 2) (set == 3) set number args refl refl refl refl (λ none. no_primitive set number args none)

-- ---- all rows

-- what is known for sums holds after each instruction
pub all_cases : (i : Ins) → StepCase i
all_cases ins.Nop = nop_case
all_cases (ins.Setsw sw) = setsw_case sw
all_cases (ins.Setla la) = setla_case la
all_cases (ins.Setswla sw la) = setswla_case sw la
all_cases ins.Exit = exit_case
all_cases (ins.Exitsw sw) = exitsw_case sw
all_cases (ins.Exitla la) = exitla_case la
all_cases (ins.Exitswla sw la) = exitswla_case sw la
all_cases (ins.Branch k d) = branch_case k d
all_cases (ins.Jump k to) = jump_row (k == 0) k to refl
all_cases (ins.Call k to) = call_row (k == 0) k to refl
all_cases (ins.Pushz n) = pushz_case n
all_cases (ins.Pushb b) = pushb_case b
all_cases (ins.Pushw w) = pushw_case w
all_cases (ins.Popn n) = popn_case n
all_cases ins.Popb = popb_case
all_cases ins.Popw = popw_case
all_cases (ins.Prim set number args) = primitive_row set number args
all_cases ins.Ret = return_cases.0
all_cases (ins.Reti less) = return_cases.1 less
all_cases (ins.Reto more) = return_cases.2 more
all_cases (ins.Retio less more) = return_cases.3 less more
all_cases (ins.Load tag off n) = load_case tag off n
all_cases (ins.Store tag off n) = store_case tag off n
all_cases (ins.Loadi tag off n) = loadi_case tag off n
all_cases (ins.Storei tag off n) = storei_case tag off n
all_cases (ins.Loada tag off) = loada_case tag off
all_cases (ins.Index tag off size) = index_case tag off size
all_cases (ins.Setb tag off b) = setb_case tag off b
all_cases (ins.Cmpb tag off b) = cmpb_case tag off b
all_cases (ins.Addb tag off b) = addb_case tag off b
all_cases (ins.Subb tag off b) = subb_case tag off b
all_cases (ins.Setw tag off w) = setw_case tag off w
all_cases (ins.Cmpw tag off w) = cmpw_case tag off w
all_cases (ins.Addw tag off w) = addw_case tag off w
all_cases (ins.Subw tag off w) = subw_case tag off w
all_cases (ins.Clearn tag off n) = clearn_case tag off n
all_cases (ins.Testn tag off n) = testn_case tag off n
all_cases (ins.Incn tag off n) = incn_case tag off n
all_cases (ins.Decn tag off n) = decn_case tag off n
all_cases (ins.Notn tag off n) = notn_case tag off n
all_cases (ins.Cmpn tag off n) = cmpn_case tag off n
all_cases (ins.Addn tag off n) = addn_case tag off n
all_cases (ins.Subn tag off n) = subn_case tag off n
all_cases (ins.Andn tag off n) = andn_case tag off n
all_cases (ins.Orn tag off n) = orn_case tag off n
all_cases (ins.Xorn tag off n) = xorn_case tag off n

-- the law of each instruction
pub all_rows : AllSumRowsLaw
all_rows i = law_of i (all_cases i)
