-- Each cipher, one by one.
use Rattle.std.proofs.Common.{◌≡◌, ℕ, List, Option, Some, refl, sym, ap, subst, arith}
use Rattle.std.specs.Prelude.{slice_index}
use Rattle.law_sums.specs.model_machine.specs.declared.instruction.Ins.TheVariants as ins
use Rattle.law_sums.specs.model_machine.specs.Primitives.{Cipher, Primitive, Encipher, Decipher, Sign, primitive, later_causes, prim_causes, encipherment, decipherment}
use Rattle.law_sums.specs.model_machine.specs.Row.{causes}
use Rattle.law_sums.specs.model_machine.specs.Shapes.{shape, prim_shape, pair_shape}
use Rattle.law_sums.specs.model_rules.specs.Keeping.{mode_of_primitive}
use Rattle.law_sums.specs.model_prove.specs.Keys.{Start}
use Rattle.law_sums.specs.model_prove.specs.Laws.{Among}
use Rattle.law_sums.specs.model_prove.specs.Splits.{pair_deciders}
use Rattle.law_sums.specs.model_prove.specs.Reach.{pair_coarse}
use Rattle.law_sums.specs.model_prove.specs.Work.{pair_work}
use Rattle.law_sums.specs.model_prove.specs.Steps.{arounds}
use Rattle.law_prove_closed.specs.law_prove.proofs.Turns.{NoCause, nobody}
use Rattle.law_sums.specs.law_machine.proofs.BlockSizes.{enciphered_blocks, deciphered_blocks}
use Rattle.law_sum_plays.proofs.Rows.{StepCase}
use Rattle.law_sum_plays.proofs.Prims.{alone}
use Rattle.law_sum_plays.proofs.Blocks.{cipher_row, sign_row}

-- what is known for sums holds after an encipherment
pub encipher_case : (number : ℕ) (c : Cipher) → primitive 1 number ≡ Some (Encipher c) → (args : List ℕ) → StepCase (ins.Prim 1 number args)
unfolding causes shape later_causes prim_shape
encipher_case number c e args =
    let n = slice_index args 0 in
    cipher_row (ins.Prim 1 number args) c (encipherment c) n (enciphered_blocks c)
    (record {
      form = λ f public x. ap (λ (z : Option Primitive). pair_shape z args f public x) e;
      works = λ f public. ap (λ (z : Option Primitive). pair_work z args f public) e;
      places = λ f. ap (λ (z : Option Primitive). pair_deciders z args f) e;
      rough = λ f k. ap (λ (z : Option Primitive). pair_coarse z args f k) e;
      alone = subst (λ (z : Option Primitive). (st : Start) → Among nobody (arounds st z)) (sym e) (alone (Some (Encipher c)) refl);
      takes = refl;
      mode = ap (λ (z : Option Primitive). mode_of_primitive z n) e;
      least = omega arith;
      most = omega arith;
    })
    (λ f public x none.
    let clear : NoCause (prim_causes (Some (Encipher c)) args f public x) = subst (λ (z : Option Primitive). NoCause (prim_causes z args f public x)) e none in
    (clear.0, clear.1.1.0, clear.1.1.1.0))

-- what is known for sums holds after a decipherment
pub decipher_case : (number : ℕ) (c : Cipher) → primitive 1 number ≡ Some (Decipher c) → (args : List ℕ) → StepCase (ins.Prim 1 number args)
unfolding causes shape later_causes prim_shape
decipher_case number c e args =
    let n = slice_index args 0 in
    cipher_row (ins.Prim 1 number args) c (decipherment c) n (deciphered_blocks c)
    (record {
      form = λ f public x. ap (λ (z : Option Primitive). pair_shape z args f public x) e;
      works = λ f public. ap (λ (z : Option Primitive). pair_work z args f public) e;
      places = λ f. ap (λ (z : Option Primitive). pair_deciders z args f) e;
      rough = λ f k. ap (λ (z : Option Primitive). pair_coarse z args f k) e;
      alone = subst (λ (z : Option Primitive). (st : Start) → Among nobody (arounds st z)) (sym e) (alone (Some (Decipher c)) refl);
      takes = refl;
      mode = ap (λ (z : Option Primitive). mode_of_primitive z n) e;
      least = omega arith;
      most = omega arith;
    })
    (λ f public x none.
    let clear : NoCause (prim_causes (Some (Decipher c)) args f public x) = subst (λ (z : Option Primitive). NoCause (prim_causes z args f public x)) e none in
    (clear.0, clear.1.1.0, clear.1.1.1.0))

-- what is known for sums holds after a signature
pub sign_case : (number : ℕ) (c : Cipher) → primitive 1 number ≡ Some (Sign c) → (args : List ℕ) → StepCase (ins.Prim 1 number args)
unfolding causes shape later_causes prim_shape
sign_case number c e args =
    let n = slice_index args 0 in
    sign_row (ins.Prim 1 number args) c n
    (record {
      form = λ f public x. ap (λ (z : Option Primitive). pair_shape z args f public x) e;
      works = λ f public. ap (λ (z : Option Primitive). pair_work z args f public) e;
      places = λ f. ap (λ (z : Option Primitive). pair_deciders z args f) e;
      rough = λ f k. ap (λ (z : Option Primitive). pair_coarse z args f k) e;
      alone = subst (λ (z : Option Primitive). (st : Start) → Among nobody (arounds st z)) (sym e) (alone (Some (Sign c)) refl);
      takes = refl;
      mode = ap (λ (z : Option Primitive). mode_of_primitive z n) e;
      least = omega arith;
      most = omega arith;
    })
    (λ f public x none.
    let clear : NoCause (prim_causes (Some (Sign c)) args f public x) = subst (λ (z : Option Primitive). NoCause (prim_causes z args f public x)) e none in
    (clear.1.1.0, clear.1.1.1.0))
