-- What the terms of a block add to it and take from it.
use Rattle.std.specs.Prelude.{ℕ, ◌+◌, Bool, not, cond, ◌&&◌, ◌==◌, List, [], ◌∷◌, slice_get, unwrap_or, option_map}
use Rattle.lab_app_rules.specs.declared.rules.Named.{Named}
use Rattle.lab_app_rules.specs.declared.rules.SignedSum.{SignedSum}

-- two signs are the same
abbrev pub is_same : Bool → Bool → Bool
is_same a b = cond a b (not b)

-- how many terms add where a sum is moved up (false), or down (true)
abbrev pub count_of_added : List SignedSum → ℕ → Bool → ℕ
count_of_added [] sum takes = 0
count_of_added (t ∷ ts) sum takes = cond (t.sum == sum && is_same t.minus takes) 1 0 + count_of_added ts sum takes

-- how many take
abbrev pub count_of_taken : List SignedSum → ℕ → Bool → ℕ
count_of_taken [] sum takes = 0
count_of_taken (t ∷ ts) sum takes = cond (t.sum == sum && not (is_same t.minus takes)) 1 0 + count_of_taken ts sum takes

-- the amount of a sum as the application is created, 0 if there is none
abbrev pub first_amount : List Named → ℕ → ℕ
first_amount sums sum = unwrap_or (option_map (λ s. s.amount) (slice_get sums sum)) 0

-- what the terms of a block add as the application is created
abbrev pub added_by : List Named → List SignedSum → ℕ
added_by sums [] = 0
added_by sums (t ∷ ts) = cond t.minus 0 (first_amount sums t.sum) + added_by sums ts

-- what they take
abbrev pub taken_by : List Named → List SignedSum → ℕ
taken_by sums [] = 0
taken_by sums (t ∷ ts) = cond t.minus (first_amount sums t.sum) 0 + taken_by sums ts
