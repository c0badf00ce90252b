use Rattle.std.proofs.Common.{◌<◌, ◌≤◌, arith, length, Some, None}
use Rattle.std.proofs.lemmas.Result.{err_from_is_err_and}
use Rattle.melcard.proofs.CodeLemmas.{digits_refused, code_odd, code_large, code_fits, bytes_found}
use Rattle.mc_base.specs.mc_words.specs.model_device.specs.Limits.{most_code}
use Rattle.melcard.proofs.code.read_code.Goals as goal

pub returns-in_err-digits-clause-refused : goal.returns-in_err-digits-clause-refused
returns-in_err-digits-clause-refused c =
    let p = err_from_is_err_and c.from_residual.result c.from_residual.ensures.1 in
    rw (p.1, p.2) (digits_refused c.args.text.now c.in_err-digits.field-0.0 c.in_err-digits.ensures.refused)

pub returns-in_default-clause-refused : goal.returns-in_default-clause-refused
returns-in_default-clause-refused c =
    let bytes = bytes_found (λ v. v.items) c.bytes_of.result None c.as_slice.result.now c.in_ok-digits.digits.items c.in_default.is c.as_slice.ensures.value c.bytes_of.ensures in
    code_odd c.args.text.now c.in_ok-digits.digits.items c.in_ok-digits.lines c.in_ok-digits.ensures.digits c.in_ok-digits.ensures.lines bytes

pub returns-then-len-gt-MOST_CODE-clause-refused : goal.returns-then-len-gt-MOST_CODE-clause-refused
returns-then-len-gt-MOST_CODE-clause-refused c =
    let bytes = bytes_found (λ v. v.items) c.bytes_of.result (Some c.in-Some.code) c.as_slice.result.now c.in_ok-digits.digits.items c.in-Some.is c.as_slice.ensures.value c.bytes_of.ensures in
    let over : most_code < length c.in-Some.code.items = omega arith in
    code_large c.args.text.now c.in_ok-digits.digits.items c.in_ok-digits.lines c.in_ok-digits.ensures.digits c.in_ok-digits.ensures.lines c.in-Some.code.items bytes over

pub returns-clause-code : goal.returns-clause-code
returns-clause-code c =
    let bytes = bytes_found (λ v. v.items) c.bytes_of.result (Some c.in-Some.code) c.as_slice.result.now c.in_ok-digits.digits.items c.in-Some.is c.as_slice.ensures.value c.bytes_of.ensures in
    let fits : length c.in-Some.code.items ≤ most_code = omega arith in
    code_fits c.args.text.now c.in_ok-digits.digits.items c.in_ok-digits.lines c.in_ok-digits.ensures.digits c.in_ok-digits.ensures.lines c.in-Some.code.items bytes fits
