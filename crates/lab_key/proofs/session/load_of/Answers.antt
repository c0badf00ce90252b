use Rattle.std.proofs.Common.{sym}
use Rattle.lab_key.proofs.session.load_of.Goals as goal

pub read-requires-clause-fits : goal.read-requires-clause-fits
read-requires-clause-fits g c = c.requires.fits.manager.load c.in-Some.load.now (sym c.in-Some.ensures)
