use Rattle.std.proofs.Common.{◌≡◌, ◌+◌, ◌-◌, ◌++◌}
use Rattle.model_sums.specs.Origins as origins
use Rattle.prove_forms.specs.Origins.{origin_values, origins_value}
use Rattle.prove_forms.proofs.origins.Origins.from.Given as goal

-- the origins so far and those of what is left are all
abbrev pub invariant-loop-i : goal.invariant-loop-i
invariant-loop-i l =
    origin_values l.bytes.items ++ origins.origins_from (origins_value l.self) (l.at + l.i) (l.n - l.i) ≡ origins.origins_from (origins_value l.self) l.at l.n
