-- Each instruction has its law.
use Rattle.std.proofs.Common.{◌≡◌, ℕ, Bool, true, false, cond, List, [], ◌∷◌, Option, Some, None, refl, sym, subst}
use Rattle.std.specs.Prelude.{◌==◌, ⊤}
use Rattle.std.proofs.lemmas.Bool.{eqb-true}
use Rattle.law_prove.specs.model_machine.specs.declared.instruction.Ins.TheVariants as ins
use Rattle.law_prove.specs.model_machine.specs.Primitives.{Primitive, entry_of_number, primitives}
use Rattle.law_prove_closed.specs.ClosedLaw.{ClosedLaw}
use Rattle.law_prove.specs.Laws.{LeadLaw}
use Rattle.law_prove.proofs.Places.{of_closed}
use Rattle.law_prove.proofs.Plain.{nop_law, pop_laws, status_laws, jump_laws, push_laws}
use Rattle.law_prove.proofs.Moves.{move_laws}
use Rattle.law_prove.proofs.Numbers.{compare_laws, sum_laws, bit_laws}
use Rattle.law_prove.proofs.Prims.{primitive_laws}
use Rattle.law_prove.proofs.Masks.{mask_laws}
use Rattle.law_prove.proofs.Returns.{return_laws}
use Rattle.law_prove_closed.proofs.Exits.{exit_laws}
use Rattle.law_prove.proofs.Targets.{target_laws}
use Rattle.law_prove_closed.proofs.Address.{address_laws}
use Rattle.law_prove_closed.proofs.Compared.{block_laws}
use Rattle.law_prove_closed.proofs.Pairs.{unknown_laws}
use Rattle.law_prove_closed.proofs.Searches.{search_laws}
use Rattle.law_prove_closed.proofs.Shifts.{shift_laws}
use Rattle.law_prove_closed.proofs.Tops.{flag_laws}
use Rattle.law_prove.proofs.Delegators.{delegator_law}
use Rattle.law_prove.proofs.FixedCopies.{copy_laws}
use Rattle.law_prove.proofs.Signatures.{result_laws}
use Rattle.law_prove.proofs.Stores.{store_law}
use Rattle.law_prove_closed.specs.Laws.{AllLeadsLaw, AllRowsLaw}
use Rattle.law_prove_closed.proofs.Delegations.{delegate_lead}
use Rattle.law_prove_closed.proofs.Sound.{kept_by_rows}

-- ---- jumps and calls, by their condition

jump_row : (b : Bool) (k to : ℕ) → (k == 0) ≡ b → LeadLaw (ins.Jump k to)
jump_row true k to e = subst (λ (n : ℕ). LeadLaw (ins.Jump n to)) (sym (eqb-true k 0 e)) (target_laws.0 to)
jump_row false k to e = jump_laws.1 k to e

call_row : (b : Bool) (k to : ℕ) → (k == 0) ≡ b → LeadLaw (ins.Call k to)
call_row true k to e = subst (λ (n : ℕ). LeadLaw (ins.Call n to)) (sym (eqb-true k 0 e)) (target_laws.1 to)
call_row false k to e = jump_laws.2 k to e

-- ---- primitives, by their table

-- the rows of the numbers of a table
abbrev TableRows : ℕ → List (ℕ × Primitive) → Type 0
TableRows set [] = ⊤
TableRows set (e ∷ es) = ((args : List ℕ) → LeadLaw (ins.Prim set e.0 args)) × TableRows set es

entry_row : (b : Bool) (set number n : ℕ) (args : List ℕ) (p : Primitive) (rest : Option Primitive) → (n == number) ≡ b → LeadLaw (ins.Prim set n args)
    → ((rest ≡ None → LeadLaw (ins.Prim set number args)) → LeadLaw (ins.Prim set number args)) → (cond b (Some p) rest ≡ None → LeadLaw (ins.Prim set number args)) → LeadLaw (ins.Prim set number args)
entry_row true set number n args p rest e this others none = subst (λ (k : ℕ). LeadLaw (ins.Prim set k args)) (eqb-true n number e) this
entry_row false set number n args p rest e this others none = others none

-- a number has the row of its entry, or none
table_row : (set number : ℕ) (args : List ℕ) (es : List (ℕ × Primitive)) → TableRows set es → (entry_of_number number es ≡ None → LeadLaw (ins.Prim set number args)) → LeadLaw (ins.Prim set number args)
table_row set number args [] rows none = none refl
table_row set number args (e ∷ es) rows none =
    entry_row (e.0 == number) set number e.0 args e.1 (entry_of_number number es) refl (rows.0 args) (λ more. table_row set number args es rows.1 more) none

no_set : (number : ℕ) (args : List ℕ) → LeadLaw (ins.Prim 0 number args)
no_set number args =
    table_row 0 number args (primitives 0)
    (flag_laws.0, (primitive_laws.0, (flag_laws.1, (search_laws, (block_laws.0, (copy_laws.0, (delegate_lead, (delegator_law, (result_laws.0, tt)))))))))
    (λ none. unknown_laws 0 number args none)

first_set : (number : ℕ) (args : List ℕ) → LeadLaw (ins.Prim 1 number args)
first_set number args =
    table_row 1 number args (primitives 1)
    (block_laws.1, (copy_laws.1, (primitive_laws.1, (result_laws.1, (result_laws.2, (result_laws.3, (result_laws.4, (result_laws.5, (result_laws.6, (result_laws.7, (result_laws.8, (result_laws.9, tt))))))))))))
    (λ none. unknown_laws 1 number args none)

second_set : (number : ℕ) (args : List ℕ) → LeadLaw (ins.Prim 2 number args)
second_set number args = table_row 2 number args (primitives 2) (mask_laws.0, (shift_laws.0, (shift_laws.1, tt))) (λ none. unknown_laws 2 number args none)

third_set : (number : ℕ) (args : List ℕ) → LeadLaw (ins.Prim 3 number args)
third_set number args = table_row 3 number args (primitives 3) (mask_laws.1, tt) (λ none. unknown_laws 3 number args none)

row_of_set : (set n : ℕ) → (set == n) ≡ true → (number : ℕ) (args : List ℕ) → LeadLaw (ins.Prim n number args) → LeadLaw (ins.Prim set number args)
row_of_set set n e number args law = subst (λ (k : ℕ). LeadLaw (ins.Prim k number args)) (sym (eqb-true set n e)) law

set_row : (p q r u : Bool) (set number : ℕ) (args : List ℕ) → (set == 0) ≡ p → (set == 1) ≡ q → (set == 2) ≡ r → (set == 3) ≡ u
    → (entry_of_number number (cond p (primitives 0) (cond q (primitives 1) (cond r (primitives 2) (cond u (primitives 3) [])))) ≡ None → LeadLaw (ins.Prim set number args)) → LeadLaw (ins.Prim set number args)
set_row true q r u set number args a b c d none = row_of_set set 0 a number args (no_set number args)
set_row false true r u set number args a b c d none = row_of_set set 1 b number args (first_set number args)
set_row false false true u set number args a b c d none = row_of_set set 2 c number args (second_set number args)
set_row false false false true set number args a b c d none = row_of_set set 3 d number args (third_set number args)
set_row false false false false set number args a b c d none = none refl

primitive_row : (set number : ℕ) (args : List ℕ) → LeadLaw (ins.Prim set number args)
primitive_row set number args = set_row (set == 0) (set == 1) (set == 2) (set == 3) set number args refl refl refl refl (λ none. unknown_laws set number args none)

-- ---- all rows

-- each row leads from covered places into the tables that others lead into
pub all_leads : AllLeadsLaw
all_leads ins.Nop = nop_law
all_leads (ins.Setsw sw) = status_laws.0 sw
all_leads (ins.Setla la) = status_laws.1 la
all_leads (ins.Setswla sw la) = status_laws.2 sw la
all_leads ins.Exit = exit_laws.0
all_leads (ins.Exitsw sw) = exit_laws.1 sw
all_leads (ins.Exitla la) = exit_laws.2 la
all_leads (ins.Exitswla sw la) = exit_laws.3 sw la
all_leads (ins.Branch k d) = jump_laws.0 k d
all_leads (ins.Jump k to) = jump_row (k == 0) k to refl
all_leads (ins.Call k to) = call_row (k == 0) k to refl
all_leads (ins.Pushz n) = push_laws.0 n
all_leads (ins.Pushb b) = push_laws.1 b
all_leads (ins.Pushw w) = push_laws.2 w
all_leads (ins.Popn n) = pop_laws.0 n
all_leads ins.Popb = pop_laws.1
all_leads ins.Popw = pop_laws.2
all_leads (ins.Prim set number args) = primitive_row set number args
all_leads ins.Ret = return_laws.0
all_leads (ins.Reti less) = return_laws.1 less
all_leads (ins.Reto more) = return_laws.2 more
all_leads (ins.Retio less more) = return_laws.3 less more
all_leads (ins.Load tag off n) = move_laws.0 tag off n
all_leads (ins.Store tag off n) = move_laws.1 tag off n
all_leads (ins.Loadi tag off n) = address_laws.0 tag off n
all_leads (ins.Storei tag off n) = store_law tag off n
all_leads (ins.Loada tag off) = push_laws.3 tag off
all_leads (ins.Index tag off size) = address_laws.1 tag off size
all_leads (ins.Setb tag off b) = move_laws.2 tag off b
all_leads (ins.Cmpb tag off b) = compare_laws.0 tag off b
all_leads (ins.Addb tag off b) = sum_laws.0 tag off b
all_leads (ins.Subb tag off b) = sum_laws.1 tag off b
all_leads (ins.Setw tag off w) = move_laws.3 tag off w
all_leads (ins.Cmpw tag off w) = compare_laws.1 tag off w
all_leads (ins.Addw tag off w) = sum_laws.2 tag off w
all_leads (ins.Subw tag off w) = sum_laws.3 tag off w
all_leads (ins.Clearn tag off n) = bit_laws.0 tag off n
all_leads (ins.Testn tag off n) = compare_laws.3 tag off n
all_leads (ins.Incn tag off n) = sum_laws.4 tag off n
all_leads (ins.Decn tag off n) = sum_laws.5 tag off n
all_leads (ins.Notn tag off n) = bit_laws.1 tag off n
all_leads (ins.Cmpn tag off n) = compare_laws.2 tag off n
all_leads (ins.Addn tag off n) = sum_laws.6 tag off n
all_leads (ins.Subn tag off n) = sum_laws.7 tag off n
all_leads (ins.Andn tag off n) = bit_laws.2 tag off n
all_leads (ins.Orn tag off n) = bit_laws.3 tag off n
all_leads (ins.Xorn tag off n) = bit_laws.4 tag off n

-- so of closed tables
pub all_rows : AllRowsLaw
all_rows i = of_closed i (all_leads i)

-- closed tables keep the rules in every play
pub closed_law : ClosedLaw
closed_law = kept_by_rows all_rows
