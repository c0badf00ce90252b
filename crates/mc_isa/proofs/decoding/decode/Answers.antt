-- That the result holds at the place follows from its being the computed one, since the code consists of bytes.
use Rattle.std.proofs.Common.{arith, ◌≡◌, ℕ, ◌+◌, ◌-◌, ◌≤◌, sym, ◌∙◌, subst, length, take, drop, get_or, length-take, Result, Ok}
use Rattle.std.proofs.lemmas.Grind.{common_steps}
use Rattle.model_text.specs.model_machine.specs.Code.{instruction_at, form, DecodesTo}
use Rattle.model_text.specs.model_machine.specs.declared.instruction.DecodeFault.{DecodeFault}
use Rattle.model_text.specs.model_machine.specs.declared.instruction.Ins.{Ins}
use Rattle.law_rows.proofs.PlaceLemmas.{decoded_stands}
use Rattle.law_rows.proofs.ReadingLemmas.{made_of_inside}
use Rattle.model_text.specs.model_device.proofs.ListLemmas.{all_bytes}
use Rattle.mc_isa.proofs.decoding.decode.Goals as goal

pub overflow_add-result : goal.overflow_add-result
overflow_add-result c =
    let rest = take (length c.args.code.now - (c.args.at + 1)) (drop (c.args.at + 1) c.args.code.now) in
    let h = made_of_inside (form (get_or c.args.code.now c.args.at 0)) rest c.in_ok-ins.ins c.in_ok-ins.size (sym c.instruction.ensures ∙ c.in_ok-ins.was) in
    let l : length rest ≤ length c.args.code.now - (c.args.at + 1) = simp length-take (omega arith) in
    omega (arith, h, l)

pub returns-in_err-ins-clause-stands : goal.returns-in_err-ins-clause-stands
returns-in_err-ins-clause-stands c =
    let e : instruction_at c.args.code.now c.args.at ≡ c.from_residual.result = grind (arith, common_steps) in
    subst (λ (r : Result (Ins × ℕ) DecodeFault). DecodesTo c.args.code.now c.args.at r) e (decoded_stands c.args.code.now c.args.at (all_bytes c.args.code.now c.type_inv.code))

pub returns-clause-stands : goal.returns-clause-stands
returns-clause-stands c =
    let answer : Result (Ins × ℕ) DecodeFault = Ok (c.in_ok-ins.ins, c.args.at + c.in_ok-ins.size) in
    let e : instruction_at c.args.code.now c.args.at ≡ answer = grind (arith, common_steps) in
    subst (λ (r : Result (Ins × ℕ) DecodeFault). DecodesTo c.args.code.now c.args.at r) e (decoded_stands c.args.code.now c.args.at (all_bytes c.args.code.now c.type_inv.code))
