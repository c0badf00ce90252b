use Rattle.mc_text.specs.Texts.{sunk_in}
use Rattle.melreader.proofs.SessionLemmas.{ends_short}
use Rattle.melreader.proofs.running.fail.Goals as goal

pub returns-in-Short : goal.returns-in-Short
returns-in-Short g c =
    let at = sunk_in g.E.Sink.taken g.E.Sink.faults in
    let put = c.put_short in
    ends_short (at c.args.err.now) (at put.new.err) put.result c.ended.result c.args.error c.in-Short.number c.ended.ensures c.in-Short.is put.ensures
