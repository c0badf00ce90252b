use Rattle.std.proofs.Common.{◌≡◌}
use Rattle.prove_forms.specs.model_sums.specs.Origins as origins
use Rattle.prove_forms.specs.Origins.{origin_values}
use Rattle.prove_sums.proofs.writes.unknowns.Given as goal

-- there are as many as turns
abbrev pub invariant-loop-i : goal.invariant-loop-i
invariant-loop-i l = origin_values l.bytes.items ≡ origins.unknowns l._i
