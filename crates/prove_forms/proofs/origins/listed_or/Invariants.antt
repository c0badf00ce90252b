use Rattle.std.proofs.Common.{◌≡◌, drop}
use Rattle.model_sums.specs.Origins as origins
use Rattle.prove_forms.specs.Origins.{origin_value, listed_values}
use Rattle.prove_forms.proofs.origins.listed_or.Given as goal

-- what is left of the list decides
abbrev pub invariant-loop-listed : goal.invariant-loop-listed
invariant-loop-listed l =
    origins.listed_or (origin_value l.other) (listed_values l.list) l.at ≡ origins.listed_or (origin_value l.other) (listed_values (drop l.listed-index l.list)) l.at
