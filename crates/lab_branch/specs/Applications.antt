-- Applications in the order of their names, as they are read block by block.
use Rattle.std.specs.Prelude.{ℕ, suc, Bool, true, false, cond, List, [], ◌∷◌}
use Rattle.mc_words.specs.model_device.specs.Bytes.{insert, name_before}
use Rattle.mc_words.specs.model_device.specs.Card.{App, name_at, app_at}

-- the number of entries before the first whose name comes after a name
abbrev pub place_of_name : List (List ℕ × App) → List ℕ → ℕ
place_of_name [] n = 0
place_of_name (e ∷ es) n = cond (name_before n e.0) 0 (suc (place_of_name es n))

-- entries with the application of the block at a place, if the block is used
abbrev pub with_block : List (List ℕ) → Bool → ℕ → List (List ℕ × App) → List (List ℕ × App)
with_block m true p es = insert es (name_at m p) (app_at m p)
with_block m false p es = es
