use Rattle.std.proofs.Common.{◌≡◌, ◌/◌, length, arith}
use Rattle.melcard.proofs.CodeLemmas.{decoded_whole, refused_whole}
use Rattle.melcard.proofs.code.bytes_of.Goals as goal

pub returns-in-Ok : goal.returns-in-Ok
returns-in-Ok c =
    let digits = c.args.digits.now in
    let code = c.sized-code.result in
    let out = c.decode_to_slice.new.out in
    let size = c.as_mut_slice.ensures.len in
    decoded_whole digits out c.as_mut_slice.result.now code.items code.len c.decode_to_slice.result c.in-Ok.field-0 c.in-Ok.is
    (omega (arith, c.sized-code.ensures)) size (omega (arith, size, c.decode_to_slice.auto.out)) c.decode_to_slice.ensures.value

pub returns-in-Err : goal.returns-in-Err
returns-in-Err c =
    refused_whole c.args.digits.now c.decode_to_slice.new.out c.as_mut_slice.result.now c.decode_to_slice.result c.in-Err.field-0 c.in-Err.is
    (omega (arith, c.as_mut_slice.ensures.len, c.sized-code.ensures)) c.decode_to_slice.ensures.value
