use Rattle.prove_sums.proofs.ValueLemmas.{as_written}
use Rattle.prove_sums.proofs.values.Sums.fits.Goals as goal

pub returns : goal.returns
returns c = as_written c.args.self.now
