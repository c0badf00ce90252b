use Rattle.std.proofs.Common.{length}
use Rattle.mc_deck.proofs.HexLemmas.{spelled, some_bytes, sized_spelled, sized_misspelled}
use Rattle.mc_deck.proofs.field.spell.Goals as goal

pub returns-in-Ok-clause-value : goal.returns-in-Ok-clause-value
returns-in-Ok-clause-value c =
    let out = c.decode_to_slice.new.out in
    spelled c.args.text.now out (sized_spelled c.args.text.now out (length c.args.into.now) c.in-Ok.field-0 c.decode_to_slice.result c.requires c.decode_to_slice.ensures.value c.in-Ok.is)

pub returns-in-Ok-clause-some : goal.returns-in-Ok-clause-some
returns-in-Ok-clause-some c =
    let out = c.decode_to_slice.new.out in
    some_bytes c.args.text.now out (sized_spelled c.args.text.now out (length c.args.into.now) c.in-Ok.field-0 c.decode_to_slice.result c.requires c.decode_to_slice.ensures.value c.in-Ok.is)

pub returns-in-Err-clause-value : goal.returns-in-Err-clause-value
returns-in-Err-clause-value c = sized_misspelled c.args.text.now c.decode_to_slice.new.out (length c.args.into.now) c.in-Err.field-0 c.decode_to_slice.result c.requires c.decode_to_slice.ensures.value c.in-Err.is
