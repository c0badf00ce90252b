use Rattle.std.proofs.Common.{refl}
use Rattle.mc_filter.specs.declared.status.Status.TheVariants.{NoForm}
use Rattle.melreader.proofs.selecting.refuse_path.Goals as goal

pub returns : goal.returns
returns g c = (NoForm, c.number.ensures, record { is = refl; input = refl; out = refl; result = c.put_unopened-written.result; written = c.put_unopened-written.ensures })
