-- What a row of accepted code leaves of its frame, and the place that it goes to: the facts of all rows.
use Rattle.std.proofs.Common.{◌≡◌, ◌⊎◌, ℕ, ◌+◌, ◌-◌, ◌≤◌, ℤ, Bool, true, false, cond, List, length, Option, Some, None, refl, sym, ap, subst, ◌∙◌, inl, inr, arith}
use Rattle.std.specs.Prelude.{◌==◌, ◌&&◌, ◌||◌, not}
use Rattle.std.proofs.lemmas.Bool.{true≢false, eqb-true, false_from_ne_true, not_from_false}
use Rattle.law_family.specs.model_machine.specs.declared.instruction.Ins.{Ins}
use Rattle.law_family.specs.model_machine.specs.declared.instruction.Ins.TheVariants as ins
use Rattle.law_family.specs.model_machine.specs.declared.machine.Abend.{Abend}
use Rattle.law_family.specs.model_machine.specs.Code.{Shaped}
use Rattle.law_family.specs.model_machine.specs.Frame.{Frame, public_base, public_end, moved_address}
use Rattle.law_family.specs.model_machine.specs.Primitives.{Around, Then, Done}
use Rattle.law_family.specs.model_machine.specs.Chain.{frame_at}
use Rattle.law_family.specs.model_machine.specs.Row.{causes, first_cause, effect, holds, no_place, address_or_zero, row_end, row, Does}
use Rattle.model_stack.specs.StackRows.{need, height_after, row_uses, WritesNothing, row_writing, always_abends, is_indirect, counts, goes_on, call_target}
use Rattle.law_family.specs.law_rows.proofs.Keeping.{effect_keeps}
use Rattle.law_family.specs.law_machine.proofs.RowWords.{none_holds}
use Rattle.mc_check.specs.Standing.{StandsAt}
use Rattle.mc_check.proofs.RowFacts.{GoesTo, RowStays, RowsAreCalm}
use Rattle.mc_check.proofs.CalmAddresses.{IsSafe}
use Rattle.mc_check.proofs.CalmCauses.{always_first, stepped_stands, need_few, row_pops, rows_calm}
use Rattle.mc_check.proofs.CalmEffects.{RunsPlainRow, place_after, effect_kept, no_call}

-- ---- the place at which a frame goes on

-- a frame that goes on at the place after the instruction
goes_behind : (i : Ins) (next at : ℕ) (t : Then) → at ≡ next → goes_on i ≡ true → GoesTo i next at t
goes_behind i next at t is on = grind arith

-- an instruction that may run, and is no return, goes on
on_from : (b : Bool) → b ≡ false → (not b && true) ≡ true
on_from true h = absurd (cc h)
on_from false h = refl

-- a condition that does not hold is not the one that always does
not_all : (k : ℕ) (f : Frame) → holds k f ≡ false → (k == 7) ≡ false
not_all k f h = false_from_ne_true (k == 7) (λ is. true≢false (subst (λ (n : ℕ). holds n f ≡ false) (eqb-true k 7 is) h))

-- a place that may be gone to is an address
there : (f : Frame) (o : Option ℕ) → no_place f o ≡ false → o ≡ Some (address_or_zero o)
there f None h = absurd (cc h)
there f (Some p) h = refl

-- a branch, by whether its condition holds
branch_goes : (b : Bool) (k next at : ℕ) (o : Option ℕ) (f : Frame) → holds k f ≡ b → at ≡ cond b (address_or_zero o) next → (b && no_place f o) ≡ false
    → ((at ≡ next) × (not (k == 7) ≡ true)) ⊎ (Some o ≡ Some (Some at))
branch_goes true k next at o f held is inside = inr (ap Some (there f o inside ∙ ap Some (sym is)))
branch_goes false k next at o f held is inside = inl (is, not_from_false (k == 7) (not_all k f held))

-- a jump whose address is not on the stack
not_either : (a b : Bool) → a ≡ false → b ≡ false → not (a || b) ≡ true
not_either a b ha hb = grind arith

jump_goes : (b on : Bool) (k next at to : ℕ) (f : Frame) → on ≡ false → holds k f ≡ b → at ≡ cond b to next → ((at ≡ next) × (not ((k == 7) || on) ≡ true)) ⊎ (cond on None (Some (Some to)) ≡ Some (Some at))
jump_goes b on k next at to f direct held is = grind (arith, not_either, not_all)

branch_inside : (k : ℕ) (d : ℤ) (f : Frame) (public : List ℕ) (x : Around) → first_cause (causes (ins.Branch k d) f public x) ≡ None → (holds k f && no_place f (moved_address f.at d)) ≡ false
unfolding causes
branch_inside k d f public x e = (none_holds (causes (ins.Branch k d) f public x) e).0

-- the place after a row that is no call and no return
row_goes : (i : Ins) (h : ℕ) (f : Frame) (public : List ℕ) (x : Around) (at : ℕ) → always_abends i ≡ false → RunsPlainRow h i f public x → at ≡ place_after i f → GoesTo i f.at at (effect i f public x).next
unfolding effect
row_goes ins.Exit h f public x at runs y is = tt
row_goes (ins.Exitsw sw) h f public x at runs y is = tt
row_goes (ins.Exitla la) h f public x at runs y is = tt
row_goes (ins.Exitswla sw la) h f public x at runs y is = tt
row_goes (ins.Branch k d) h f public x at runs y is = branch_goes (holds k f) k f.at at (moved_address f.at d) f refl is (branch_inside k d f public x y.no_cause)
row_goes (ins.Jump k to) h f public x at runs y is = jump_goes (holds k f) (k == 0) k f.at at to f y.direct refl is
row_goes (ins.Call k to) h f public x at runs y is = absurd (no_call (k == 0) to y.direct y.no_call)
row_goes ins.Ret h f public x at runs y is = absurd (cc y.no_return)
row_goes (ins.Reti i) h f public x at runs y is = absurd (cc y.no_return)
row_goes (ins.Reto o) h f public x at runs y is = absurd (cc y.no_return)
row_goes (ins.Retio i o) h f public x at runs y is = absurd (cc y.no_return)
row_goes i h f public x at runs y is = goes_behind i f.at at (effect i f public x).next is (on_from (always_abends i) runs)

-- ---- what a row leaves

-- a row that is done has no cause, and its effect
done_parts : (o : Option Abend) (d e : Done) → row_end o d ≡ Does e → (o ≡ None) × (d ≡ e)
done_parts (Some a) d e is = absurd (cc is)
done_parts None d e is = (refl, cc is)

-- an instruction without a cause does not always abend
runs_from : (b : Bool) (i : Ins) (f : Frame) (public : List ℕ) (x : Around) → always_abends i ≡ b → first_cause (causes i f public x) ≡ None → b ≡ false
runs_from true i f public x is none = absurd (cc (always_first i f public x is, none))
runs_from false i f public x is none = refl

-- the effect of a row that is no call and no return
effect_stays : (len size base h : ℕ) (i : Ins) (next : ℕ) (f : Frame) (public : List ℕ) (x : Around) → StandsAt len size base h f → always_abends i ≡ false → RunsPlainRow h i (frame_at f next) public x
    → size + base + height_after i h ≤ 512 → RowStays len size base h i next f (effect i (frame_at f next) public x)
effect_stays len size base h i next f public x s runs y room =
    let g = frame_at f next in
    let k = effect_kept len size base h g public (stepped_stands len size base h f next s) i x y in
    record {
      name = k.name;
      stands = grind arith;
      calls = λ safe. k.calls (subst (λ (b : Bool). IsSafe size base h (cond b WritesNothing (row_writing i))) runs safe);
      place = row_goes i h g public x (effect i g public x).effect.frame.at runs y k.at;
    }

rows_stay : (len size base h : ℕ) (i : Ins) (next : ℕ) (f : Frame) (public : List ℕ) (x : Around) (d : Done) → Shaped i → StandsAt len size base h f
    → need i ≤ h → is_indirect i ≡ false → counts i ≡ None → call_target i ≡ None
    → (always_abends i ≡ false → size + base + height_after i h ≤ 512) → public_end - public_base ≤ length public
    → row i (frame_at f next) public x ≡ Does d → RowStays len size base h i next f d
unfolding row
rows_stay len size base h i next f public x d shaped s few direct no_return no_call room whole e =
    let g = frame_at f next in
    let parts = done_parts (first_cause (causes i g public x)) (effect i g public x) d e in
    let runs : always_abends i ≡ false = runs_from (always_abends i) i g public x refl parts.0 in
    let few_bytes : (row_uses i).needs ≤ h = need_few i h few runs in
    let y : RunsPlainRow h i g public x = record {
      shaped = shaped;
      few = few_bytes;
      direct = direct;
      no_return = no_return;
      no_call = no_call;
      room = omega (arith, row_pops i, room runs);
      whole = whole;
      no_cause = parts.0;
    } in
    subst (λ (done : Done). RowStays len size base h i next f done) parts.1 (effect_stays len size base h i next f public x s runs y (room runs))

-- ---- the public segment

rows_grow : (i : Ins) (f : Frame) (public : List ℕ) (x : Around) (d : Done) → row i f public x ≡ Does d → length public ≤ length d.effect.public
unfolding row
rows_grow i f public x d e =
    let parts = done_parts (first_cause (causes i f public x)) (effect i f public x) d e in
    subst (λ (done : Done). length public ≤ length done.effect.public) parts.1 (effect_keeps i f public x).public

-- the facts of every row of accepted code
pub row_facts : RowsAreCalm
row_facts = record {
  calm = λ len size base h i next f public x c shaped. rows_calm len size base h i next f public x c;
  stays = rows_stay;
  grows = rows_grow;
}
