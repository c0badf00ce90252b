use Rattle.std.specs.Prelude.{◌%◌}
use Rattle.prove_facts.specs.model_prove.specs.Sets.{is_in}
use Rattle.prove_facts.specs.Sets.{set_of}
use Rattle.prove_works.proofs.ReachLemmas.{no_address}
use Rattle.prove_works.proofs.reach.is_start.Goals as goal

pub returns-then-at-ge65536 : goal.returns-then-at-ge65536
returns-then-at-ge65536 c = no_address c.args.reach.now.high c.args.at (is_in (c.args.at % 256) (set_of c.args.reach.now.low)) c.if-at-ge65536.true
