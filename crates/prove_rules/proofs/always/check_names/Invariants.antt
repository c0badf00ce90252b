use Rattle.std.proofs.Common.{drop}
use Rattle.prove_rules.proofs.AlwaysLemmas.{NamesLeft}
use Rattle.prove_rules.proofs.always.check_names.Given as goal

-- if the terms that are left are names, all are
abbrev pub invariant-loop-signed : goal.invariant-loop-signed
invariant-loop-signed l = NamesLeft l.fn.names (drop l.signed-index l.names)
