-- What rules compare and count: the line of an executed instruction, and amounts under names.
use Rattle.std.specs.Prelude.{ℕ, cond, ◌==◌, List, drop, map, bytes_eq, unwrap_or}
use Rattle.model_text.specs.model_device.specs.Bytes.{lookup}
use Rattle.model_text.specs.Text.{first_cut}
use Rattle.model_text.specs.model_machine.specs.Chain.{Turn}
use Rattle.model_text.specs.TurnText.{turn_line}

-- the line of an executed instruction without its `>`
abbrev pub turn_text : Turn → List ℕ
turn_text t = drop 1 (first_cut (λ c. c == 10) (turn_line t)).0

-- what is left of an allowance
abbrev pub amount_of : List (List ℕ × ℕ) → List ℕ → ℕ
amount_of a name = unwrap_or (lookup a name) 0

-- the allowances with another amount under a name
abbrev pub with_amount : List ℕ → ℕ → List (List ℕ × ℕ) → List (List ℕ × ℕ)
with_amount name k a = map (λ e. cond (bytes_eq e.0 name) (e.0, k) e) a
