use Rattle.std.proofs.Common.{arith}
use Rattle.std.proofs.lemmas.Result.{err_from_is_err_and}
use Rattle.std.proofs.Math.ListN.{drop_of_length-le}
use Rattle.melcard.proofs.CodeLemmas.{character_read, character_refused, line_read}
use Rattle.melcard.proofs.code.push_line.Goals as goal

pub loop-character-preserved : goal.loop-character-preserved
loop-character-preserved c =
    let before = c.loop-character.invariant.len in
    let added = c.push_digit.ensures.len in
    let grew = c.push_digit.ensures.room in
    let room = c.loop-character.invariant.room in
    record {
      leads = character_read c.args.number c.args.line.now c.loop-character.character-index c.loop-character.digits.items c.args.digits.now.items c.loop-character.invariant.leads c.push_digit.new.digits.items (omega arith) c.in_ok-push_digit.ensures.ok;
      len = omega (arith, before, added);
      room = omega (arith, room, grew);
    }

pub returns-in_err-push_digit-clause-refused : goal.returns-in_err-push_digit-clause-refused
returns-in_err-push_digit-clause-refused c =
    let p = err_from_is_err_and c.from_residual.result c.from_residual.ensures.1 in
    rw (p.1, p.2) (character_refused c.args.number c.args.line.now c.loop-character.character-index c.loop-character.digits.items c.args.digits.now.items c.loop-character.invariant.leads c.in_err-push_digit.field-0.0 (omega arith) c.in_err-push_digit.ensures.refused)

pub returns-clause-ok : goal.returns-clause-ok
returns-clause-ok c =
    line_read c.args.number c.args.line.now c.loop-character.character-index c.loop-character.digits.items c.args.digits.now.items c.loop-character.invariant.leads (drop_of_length-le c.args.line.now (omega arith))
