-- The rounds, from the columns that the code computes.
use Rattle.std.proofs.Common.{◌≡◌, ℕ, List, ◌++◌, map, refl, ap, ◌∙◌}
use Rattle.model_machine.specs.Modes.{bit_sum}
use Rattle.model_machine.specs.Aes.{sub_back, times_matrix, round, last_round, mix_columns_back, shift_rows_back, round_back, last_round_back}
use Rattle.mc_aes.specs.State.{word, state_bytes, substitutes_of, bytes_back_of}
use Rattle.mc_aes.specs.declared.state.State.{State}

columns_are : (r : State) (a b c d : List ℕ) → word r.first ≡ a → word r.second ≡ b → word r.third ≡ c → word r.fourth ≡ d → state_bytes r ≡ a ++ b ++ c ++ d
unfolding state_bytes
columns_are r a b c d ea eb ec ed = rw (ea, eb, ec, ed) refl

module _ (s k r : State) where
  round_columns : bit_sum (times_matrix 2 3 1 1 (substitutes_of s.first s.second s.third s.fourth)) (word k.first)
      ++ bit_sum (times_matrix 2 3 1 1 (substitutes_of s.second s.third s.fourth s.first)) (word k.second)
      ++ bit_sum (times_matrix 2 3 1 1 (substitutes_of s.third s.fourth s.first s.second)) (word k.third)
      ++ bit_sum (times_matrix 2 3 1 1 (substitutes_of s.fourth s.first s.second s.third)) (word k.fourth)
      ≡ round (state_bytes k) (state_bytes s)
  unfolding word state_bytes round
  round_columns = refl

  pub round_is : word r.first ≡ bit_sum (times_matrix 2 3 1 1 (substitutes_of s.first s.second s.third s.fourth)) (word k.first)
      → word r.second ≡ bit_sum (times_matrix 2 3 1 1 (substitutes_of s.second s.third s.fourth s.first)) (word k.second)
      → word r.third ≡ bit_sum (times_matrix 2 3 1 1 (substitutes_of s.third s.fourth s.first s.second)) (word k.third)
      → word r.fourth ≡ bit_sum (times_matrix 2 3 1 1 (substitutes_of s.fourth s.first s.second s.third)) (word k.fourth)
      → state_bytes r ≡ round (state_bytes k) (state_bytes s)
  round_is ea eb ec ed = columns_are r _ _ _ _ ea eb ec ed ∙ round_columns

  last_columns : bit_sum (substitutes_of s.first s.second s.third s.fourth) (word k.first)
      ++ bit_sum (substitutes_of s.second s.third s.fourth s.first) (word k.second)
      ++ bit_sum (substitutes_of s.third s.fourth s.first s.second) (word k.third)
      ++ bit_sum (substitutes_of s.fourth s.first s.second s.third) (word k.fourth)
      ≡ last_round (state_bytes k) (state_bytes s)
  unfolding word state_bytes last_round
  last_columns = refl

  pub last_round_is : word r.first ≡ bit_sum (substitutes_of s.first s.second s.third s.fourth) (word k.first)
      → word r.second ≡ bit_sum (substitutes_of s.second s.third s.fourth s.first) (word k.second)
      → word r.third ≡ bit_sum (substitutes_of s.third s.fourth s.first s.second) (word k.third)
      → word r.fourth ≡ bit_sum (substitutes_of s.fourth s.first s.second s.third) (word k.fourth)
      → state_bytes r ≡ last_round (state_bytes k) (state_bytes s)
  last_round_is ea eb ec ed = columns_are r _ _ _ _ ea eb ec ed ∙ last_columns

  rows_columns : bytes_back_of s.first s.fourth s.third s.second
      ++ bytes_back_of s.second s.first s.fourth s.third
      ++ bytes_back_of s.third s.second s.first s.fourth
      ++ bytes_back_of s.fourth s.third s.second s.first
      ≡ map sub_back (shift_rows_back (state_bytes s))
  unfolding word state_bytes
  rows_columns = refl

  pub rows_back_is : word r.first ≡ bytes_back_of s.first s.fourth s.third s.second
      → word r.second ≡ bytes_back_of s.second s.first s.fourth s.third
      → word r.third ≡ bytes_back_of s.third s.second s.first s.fourth
      → word r.fourth ≡ bytes_back_of s.fourth s.third s.second s.first
      → state_bytes r ≡ map sub_back (shift_rows_back (state_bytes s))
  rows_back_is ea eb ec ed = columns_are r _ _ _ _ ea eb ec ed ∙ rows_columns

  mixed_columns : times_matrix 14 11 13 9 (word s.first) ++ times_matrix 14 11 13 9 (word s.second)
      ++ times_matrix 14 11 13 9 (word s.third) ++ times_matrix 14 11 13 9 (word s.fourth)
      ≡ mix_columns_back (state_bytes s)
  unfolding word state_bytes mix_columns_back
  mixed_columns = refl

  pub mixed_back_is : word r.first ≡ times_matrix 14 11 13 9 (word s.first)
      → word r.second ≡ times_matrix 14 11 13 9 (word s.second)
      → word r.third ≡ times_matrix 14 11 13 9 (word s.third)
      → word r.fourth ≡ times_matrix 14 11 13 9 (word s.fourth)
      → state_bytes r ≡ mix_columns_back (state_bytes s)
  mixed_back_is ea eb ec ed = columns_are r _ _ _ _ ea eb ec ed ∙ mixed_columns

-- the inverse rounds, unfolded
pub last_round_back_is : (s k : State) (sum r : List ℕ) → sum ≡ bit_sum (state_bytes s) (state_bytes k) → r ≡ map sub_back (shift_rows_back sum)
    → r ≡ last_round_back (state_bytes k) (state_bytes s)
unfolding last_round_back
last_round_back_is s k sum r es er = er ∙ ap (λ (l : List ℕ). map sub_back (shift_rows_back l)) es

pub round_back_is : (s k : State) (sum mixed r : List ℕ) → sum ≡ bit_sum (state_bytes s) (state_bytes k) → mixed ≡ mix_columns_back sum → r ≡ map sub_back (shift_rows_back mixed)
    → r ≡ round_back (state_bytes k) (state_bytes s)
unfolding round_back
round_back_is s k sum mixed r es em er = er ∙ ap (λ (l : List ℕ). map sub_back (shift_rows_back l)) (em ∙ ap mix_columns_back es)
