use Rattle.std.proofs.Common.{arith}
use Rattle.prove_forms.specs.Origins.{origins_value}
use Rattle.prove_sums.proofs.OriginLemmas.{from_length}
use Rattle.prove_sums.proofs.acts.origins_from.Goals as goal

pub returns-clause-length : goal.returns-clause-length
returns-clause-length c =
    omega (arith, from_length (origins_value c.args.origins.now) c.args.at c.args.n c.in_ok-bytes.bytes.items c.in_ok-bytes.ensures, c.in_ok-bytes.bytes.ok.0)
