-- Amounts of allowances by their places.
use Rattle.std.specs.Prelude.{ℕ, ◌-◌, cond, nat_le, List, option_map, slice_get, slice_set, Option, Some, None}
use Rattle.lab_app_rules.specs.declared.rules.Effect.{Effect}
use Rattle.lab_app_rules.specs.declared.rules.Effect.TheVariants as effect

-- an amount after an effect, or none if it breaks the rule; an effect on a sum leaves it
abbrev pub amount_after : Effect → ℕ → Option ℕ
amount_after (effect.Allow k) n = Some k
amount_after (effect.Spend k) n = cond (nat_le k n) (Some (n - k)) None
amount_after (effect.Need k) n = cond (nat_le k n) (Some n) None
amount_after (effect.Add a) n = Some n
amount_after (effect.Take a) n = Some n

-- the amounts after an effect on the one at a place, which leaves them if there is none
abbrev pub amounts_at : Effect → ℕ → Option ℕ → List ℕ → Option (List ℕ)
amounts_at e place None amounts = Some amounts
amounts_at e place (Some n) amounts = option_map (λ k. slice_set amounts place k) (amount_after e n)

-- the amounts after an effect on the one at a place
abbrev pub amounts_after : Effect → ℕ → List ℕ → Option (List ℕ)
amounts_after e place amounts = amounts_at e place (slice_get amounts place) amounts
