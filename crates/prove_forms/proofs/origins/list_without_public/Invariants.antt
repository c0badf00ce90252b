use Rattle.std.proofs.Common.{◌≡◌, ◌++◌, drop}
use Rattle.std.specs.Prelude.{nat_lt, filter}
use Rattle.model_sums.specs.model_machine.specs.Frame.{public_base}
use Rattle.prove_forms.specs.Origins.{listed_values}
use Rattle.prove_forms.proofs.origins.list_without_public.Given as goal

-- what is kept so far, and what is kept of what is left, are all
abbrev pub invariant-loop-listed : goal.invariant-loop-listed
invariant-loop-listed l =
    listed_values l.kept.items ++ filter (λ e. nat_lt e.0 public_base) (listed_values (drop l.listed-index l.list))
    ≡ filter (λ e. nat_lt e.0 public_base) (listed_values l.list)
