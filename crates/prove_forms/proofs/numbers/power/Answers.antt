use Rattle.prove_forms.proofs.NumberLemmas.{power_fits}
use Rattle.prove_forms.proofs.numbers.power.Goals as goal

pub pow-requires : goal.pow-requires
pow-requires c = power_fits c.args.n c.requires
