use Rattle.mc_filter.specs.Inputs.{stream}
use Rattle.std.proofs.Common.{Some}
use Rattle.melreader.proofs.running.melreader.Goals as goal

pub returns-in-Some : goal.returns-in-Some
returns-in-Some g c =
    let before = Some (stream g.D.Source c.in-Some.source.now) in
    let after = Some (stream g.D.Source c.deck_from-found.new.source) in
    rw c.in-Some.is (record { says = (c.session.result, c.number.ensures, c.session.ensures before after c.deck_from-found.ensures) })
