use Rattle.mc_deck.proofs.ReaderLemmas.{stands_unit, named_lines}
use Rattle.mc_deck.proofs.reading.take_unit.Goals as goal

pub returns-clause-took : goal.returns-clause-took
returns-clause-took c = λ d s.
    let old = c.args.reader.now in
    let names = c.give_name.new.names in
    stands_unit old.names.places names.places old.names.units.items names.units.items c.args.unit old.powered old.lines.items c.push_line.new.lines.items d c.args.number c.args.name.now
    c.in_ok-give_name.ensures.units c.in_ok-push_line.ensures.lines c.requires (c.in_ok-give_name.ensures.names d.units s.named) s

pub returns-clause-lines : goal.returns-clause-lines
returns-clause-lines c = λ d s.
    let old = c.args.reader.now in
    named_lines old.names.units.items c.give_name.new.names.units.items c.args.unit old.lines.items c.push_line.new.lines.items c.args.number c.in_ok-give_name.ensures.units c.in_ok-push_line.ensures.lines s.inside
