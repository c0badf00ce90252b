use Rattle.mc_card.proofs.SavedLemmas.{fits_words}
use Rattle.mc_card.proofs.card.Card.saved.Goals as goal

pub returns-in_err-bytes_of-clause-fits : goal.returns-in_err-bytes_of-clause-fits
returns-in_err-bytes_of-clause-fits g c ready = fits_words g.N.Nvm.state c.args.self.now ready

pub returns-clause-fits : goal.returns-clause-fits
returns-clause-fits g c ready = fits_words g.N.Nvm.state c.args.self.now ready
