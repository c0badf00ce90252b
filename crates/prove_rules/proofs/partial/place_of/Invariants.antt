use Rattle.std.proofs.Common.{◌≡◌, ◌+◌, drop, map}
use Rattle.std.specs.Prelude.{option_map}
use Rattle.lab_app_rules.specs.Rules.{allowance_of}
use Rattle.prove_rules.specs.Partials.{place_of}
use Rattle.prove_rules.proofs.partial.place_of.Given as goal

-- the place among those that are left is the place among all
abbrev pub invariant-loop-place : goal.invariant-loop-place
invariant-loop-place l = option_map (λ i. i + l.place) (place_of (map allowance_of (drop l.place l.list)) l.name) ≡ place_of (map allowance_of l.fn.list) l.name
