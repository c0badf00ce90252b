use Rattle.std.proofs.Common.{refl}
use Rattle.mc_filter.specs.declared.status.Status.TheVariants.{NoForm}
use Rattle.melreader.proofs.selecting.usage.Goals as goal

pub returns : goal.returns
returns g c = (NoForm, c.number.ensures, record { is = refl; input = refl; out = refl; result = c.put-written.result; written = c.put-written.ensures })
