use Rattle.desk_cover.proofs.KnownLemmas.{known_found}
use Rattle.desk_cover.proofs.known.Known.new.Goals as goal

pub returns-in-Some : goal.returns-in-Some
returns-in-Some g c =
    let h = c.known_of.ensures in
    known_found g.N.Nvm.state c.args.card.now c.args.sections.now c.known_of.result c.in-Some.chain.now c.running.result.now c.in-Some.ensures c.running.ensures (record { name = h.name; section = h.section; short = h.short })
