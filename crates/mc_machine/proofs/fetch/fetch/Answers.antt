-- The instruction at the front of the bytes that were read is the one at the code address, unless it is longer than the
-- code that is left; so it is the one that is decoded there.
use Rattle.std.proofs.Common.{◌≡◌, ℕ, ◌+◌, ◌-◌, ◌<◌, arith, sym, subst, List, length, drop, take, Ok, Err}
use Rattle.std.specs.Prelude.{min}
use Rattle.std.proofs.lemmas.Result.{err_from_is_err_and}
use Rattle.law_machine.specs.model_machine.specs.declared.instruction.DecodeFault.TheVariants.{Past}
use Rattle.law_machine.specs.model_machine.specs.Code.{DecodesTo}
use Rattle.mc_segs.specs.HeldFrames.{app_under}
use Rattle.law_machine.specs.law_rows.proofs.PlaceLemmas.{decoded_only}
use Rattle.mc_machine.proofs.FetchLemmas.{IsWindow, fault_there, past_there, stands_there}
use Rattle.mc_machine.proofs.fetch.fetch.Goals as goal

window_of : (code window : List ℕ) (a at e code_len : ℕ) → a ≡ at → e ≡ code_len → code_len ≡ length code → a < e → length window ≡ 6 → take (min (e - a) 6) window ≡ take (min (e - a) 6) (drop at code) → IsWindow code window at (e - a)
window_of code window a at e code_len here last len some six front = record { end = omega (arith, here, last, len, some); some = omega (arith, some); six = six; front = front }

pub returns-in_err-ins-clause-stands : goal.returns-in_err-ins-clause-stands
returns-in_err-ins-clause-stands g c =
    let code = (app_under (g.B.Bank.state c.args.bank.now) (g.B.Bank.named c.args.bank.now) c.args.frame.now).code in
    let at = c.args.frame.now.frame.at in
    let left = c.code_len-end.result - c.at-at.result in
    let bytes = c.read_code.new.into in
    let window = window_of code bytes c.at-at.result at c.code_len-end.result c.args.frame.now.frame.code_len c.at-at.ensures c.code_len-end.ensures c.requires.fits.code c.if-at-end.false c.read_code.array_long c.read_code.ensures in
    let p = err_from_is_err_and c.from_residual.result c.from_residual.ensures.1 in
    rw (p.1, p.2) (fault_there code bytes at left c.in_err-ins.field-0.0 window c.in_err-ins.ensures.stands)

pub returns-in_err-ins-clause-exact : goal.returns-in_err-ins-clause-exact
returns-in_err-ins-clause-exact g c =
    let code = (app_under (g.B.Bank.state c.args.bank.now) (g.B.Bank.named c.args.bank.now) c.args.frame.now).code in
    let at = c.args.frame.now.frame.at in
    let left = c.code_len-end.result - c.at-at.result in
    let bytes = c.read_code.new.into in
    let window = window_of code bytes c.at-at.result at c.code_len-end.result c.args.frame.now.frame.code_len c.at-at.ensures c.code_len-end.ensures c.requires.fits.code c.if-at-end.false c.read_code.array_long c.read_code.ensures in
    let p = err_from_is_err_and c.from_residual.result c.from_residual.ensures.1 in
    rw (p.1, p.2) (sym (decoded_only code at (Err c.in_err-ins.field-0.0) (fault_there code bytes at left c.in_err-ins.field-0.0 window c.in_err-ins.ensures.stands)))

pub returns-then-size-left-clause-stands : goal.returns-then-size-left-clause-stands
returns-then-size-left-clause-stands g c =
    let code = (app_under (g.B.Bank.state c.args.bank.now) (g.B.Bank.named c.args.bank.now) c.args.frame.now).code in
    let at = c.args.frame.now.frame.at in
    let left = c.code_len-end.result - c.at-at.result in
    let bytes = c.read_code.new.into in
    let window = window_of code bytes c.at-at.result at c.code_len-end.result c.args.frame.now.frame.code_len c.at-at.ensures c.code_len-end.ensures c.requires.fits.code c.if-at-end.false c.read_code.array_long c.read_code.ensures in
    past_there code bytes at left c.in_ok-ins.ins c.in_ok-ins.size window c.in_ok-ins.ensures.stands c.if-size-left.true

pub returns-then-size-left-clause-exact : goal.returns-then-size-left-clause-exact
returns-then-size-left-clause-exact g c =
    let code = (app_under (g.B.Bank.state c.args.bank.now) (g.B.Bank.named c.args.bank.now) c.args.frame.now).code in
    let at = c.args.frame.now.frame.at in
    let left = c.code_len-end.result - c.at-at.result in
    let bytes = c.read_code.new.into in
    let window = window_of code bytes c.at-at.result at c.code_len-end.result c.args.frame.now.frame.code_len c.at-at.ensures c.code_len-end.ensures c.requires.fits.code c.if-at-end.false c.read_code.array_long c.read_code.ensures in
    sym (decoded_only code at (Err Past) (past_there code bytes at left c.in_ok-ins.ins c.in_ok-ins.size window c.in_ok-ins.ensures.stands c.if-size-left.true))

pub returns-clause-stands : goal.returns-clause-stands
returns-clause-stands g c =
    let code = (app_under (g.B.Bank.state c.args.bank.now) (g.B.Bank.named c.args.bank.now) c.args.frame.now).code in
    let at = c.args.frame.now.frame.at in
    let left = c.code_len-end.result - c.at-at.result in
    let bytes = c.read_code.new.into in
    let window = window_of code bytes c.at-at.result at c.code_len-end.result c.args.frame.now.frame.code_len c.at-at.ensures c.code_len-end.ensures c.requires.fits.code c.if-at-end.false c.read_code.array_long c.read_code.ensures in
    subst (λ (a : ℕ). DecodesTo code at (Ok (c.in_ok-ins.ins, a + c.in_ok-ins.size))) (sym c.at-at.ensures) (stands_there code bytes at left c.in_ok-ins.ins c.in_ok-ins.size window c.in_ok-ins.ensures.stands c.if-size-left.false)

pub returns-clause-exact : goal.returns-clause-exact
returns-clause-exact g c =
    let code = (app_under (g.B.Bank.state c.args.bank.now) (g.B.Bank.named c.args.bank.now) c.args.frame.now).code in
    let at = c.args.frame.now.frame.at in
    let left = c.code_len-end.result - c.at-at.result in
    let bytes = c.read_code.new.into in
    let window = window_of code bytes c.at-at.result at c.code_len-end.result c.args.frame.now.frame.code_len c.at-at.ensures c.code_len-end.ensures c.requires.fits.code c.if-at-end.false c.read_code.array_long c.read_code.ensures in
    sym (decoded_only code at (Ok (c.in_ok-ins.ins, c.at-at.result + c.in_ok-ins.size)) (subst (λ (a : ℕ). DecodesTo code at (Ok (c.in_ok-ins.ins, a + c.in_ok-ins.size))) (sym c.at-at.ensures) (stands_there code bytes at left c.in_ok-ins.ins c.in_ok-ins.size window c.in_ok-ins.ensures.stands c.if-size-left.false)))
