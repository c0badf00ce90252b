use Rattle.prove_rules.proofs.AlwaysLemmas.{names_start}
use Rattle.prove_rules.proofs.always.check_names.Goals as goal

pub loop-signed-init : goal.loop-signed-init
loop-signed-init c = names_start c.args.names.now
