use Rattle.desk_cover.proofs.KnownLemmas.{known_followed}
use Rattle.desk_cover.proofs.known.Known.follow.Goals as goal

pub returns-in-Some : goal.returns-in-Some
returns-in-Some g c =
    known_followed g.N.Nvm.state c.args.card.now c.args.sections.now c.args.self.now c.follow_frame.new.self c.in-Some.chain.now c.running.result.now c.in-Some.ensures c.running.ensures c.follow_frame.ensures
