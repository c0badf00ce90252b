use Rattle.std.proofs.Common.{rules}
use Rattle.mc_card.proofs.SavedLemmas.{ready_as}
use Rattle.mc_card.proofs.card.Card.put_saved.Goals as goal

pub returns-clause-ready : goal.returns-clause-ready
returns-clause-ready g c ready = ready_as g.N.Nvm.state c.args.self.now c.of-self-2.result c.of-self.result c.args.saved.now (search rules) (search rules) ready c.requires.fits
