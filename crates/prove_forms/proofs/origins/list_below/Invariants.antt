use Rattle.std.proofs.Common.{◌≡◌, ◌++◌, drop}
use Rattle.std.specs.Prelude.{◌||◌, nat_lt, nat_le, filter}
use Rattle.model_sums.specs.model_machine.specs.Frame.{public_base}
use Rattle.prove_forms.specs.Origins.{listed_values}
use Rattle.prove_forms.proofs.origins.list_below.Given as goal

-- what is kept so far, and what is kept of what is left, are all
abbrev pub invariant-loop-listed : goal.invariant-loop-listed
invariant-loop-listed l =
    listed_values l.kept.items ++ filter (λ e. nat_lt e.0 l.dt || nat_le public_base e.0) (listed_values (drop l.listed-index l.list))
    ≡ filter (λ e. nat_lt e.0 l.dt || nat_le public_base e.0) (listed_values l.list)
