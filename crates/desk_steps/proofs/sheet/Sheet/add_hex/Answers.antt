use Rattle.std.proofs.Common.{◌+◌, drop, get_or, refl}
use Rattle.std.proofs.lemmas.List.{drop_more}
use Rattle.mc_text.specs.model_text.specs.Listing.{hex_text}
use Rattle.desk_steps.proofs.SheetLemmas.{leads_end, leads_on}
use Rattle.desk_steps.proofs.sheet.Sheet.add_hex.Goals as goal

pub loop-byte-preserved : goal.loop-byte-preserved
loop-byte-preserved g c =
    let all = c.args.bytes.now in
    let i = c.loop-byte.byte-index in
    record {
      rest = leads_on g.T.Sink hex_text c.args.self.now c.loop-byte.self c.add_byte.new.self all (drop i all) (drop (i + 1) all) (get_or all i 0) (drop_more all i 0 c.loop-byte-test.true) refl c.add_byte.ensures c.loop-byte.invariant.rest;
    }

pub returns : goal.returns
returns g c = leads_end g.T.Sink hex_text c.args.self.now c.loop-byte.self c.args.bytes.now c.loop-byte.byte-index c.loop-byte-test.false refl c.loop-byte.invariant.rest
