-- The state of FIPS 197, 16 bytes, as four words, one for each column.
use Rattle.std.specs.Prelude.{ℕ, ◌/◌, ◌%◌, ◌^◌, List, [], ◌∷◌, ◌++◌}
use Rattle.model_machine.specs.Aes.{sub, sub_back}
use Rattle.mc_aes.specs.declared.state.State.{State}

-- the four bytes of a word, the highest first
unfoldable pub word : ℕ → List ℕ
word w = (w / 2 ^ 24 % 256) ∷ (w / 2 ^ 16 % 256) ∷ (w / 2 ^ 8 % 256) ∷ (w % 256) ∷ []

-- the bytes of the state, column by column
unfoldable pub state_bytes : State → List ℕ
state_bytes s = word s.first ++ word s.second ++ word s.third ++ word s.fourth

-- the S-box values of the byte in row 0 of the first word, in row 1 of the second, and so on: a column after SubBytes
-- and ShiftRows
abbrev pub substitutes_of : ℕ → ℕ → ℕ → ℕ → List ℕ
substitutes_of a b c d = sub (a / 2 ^ 24 % 256) ∷ sub (b / 2 ^ 16 % 256) ∷ sub (c / 2 ^ 8 % 256) ∷ sub (d % 256) ∷ []

-- the inverse S-box values of the byte in row 0 of the first word, in row 1 of the second, and so on
abbrev pub bytes_back_of : ℕ → ℕ → ℕ → ℕ → List ℕ
bytes_back_of a b c d = sub_back (a / 2 ^ 24 % 256) ∷ sub_back (b / 2 ^ 16 % 256) ∷ sub_back (c / 2 ^ 8 % 256) ∷ sub_back (d % 256) ∷ []
