use Rattle.std.proofs.Common.{◌≡◌, ◌+◌, drop}
use Rattle.std.specs.Prelude.{option_map}
use Rattle.lab_rules.specs.Meanings.{allowance_values, place_of}
use Rattle.lab_rules.proofs.rules.place_of.Given as goal

-- the place among the allowances that are left is the place among all
abbrev pub invariant-loop-place : goal.invariant-loop-place
invariant-loop-place l = option_map (λ i. i + l.place) (place_of (allowance_values (drop l.place l.allowances)) l.name) ≡ place_of (allowance_values l.fn.allowances) l.name
