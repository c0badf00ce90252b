-- The causes of the rows between the stack and a segment.
use Rattle.std.specs.Prelude.{ℕ, ◌+◌, ◌*◌, Bool, ◌&&◌, ◌||◌, ◌==◌, ℤ, List, [], ◌∷◌, is_none}
use Rattle.model_machine.specs.declared.machine.Abend.{Abend}
use Rattle.model_machine.specs.declared.machine.Abend.TheVariants.{A03, A04, A05, A06, A08}
use Rattle.model_machine.specs.Frame.{Frame, address_at, is_outside, no_access, too_many, is_under, is_over, frame_after_pop}
use Rattle.model_machine.specs.Row.{operand, address_or_zero, on_stack, writes, indexed_address}

-- those of LOAD
abbrev pub load_causes : Frame → ℕ → ℤ → ℕ → List (Abend × Bool)
load_causes f tag off n =
    (A06, n == 0) ∷ (A04, tag == 0 && is_under f n) ∷ (A03, no_access f (operand f tag off n) n) ∷ (A05, is_over f n) ∷ []

-- those of STORE
abbrev pub store_causes : Frame → ℕ → ℤ → ℕ → List (Abend × Bool)
store_causes f tag off n =
    (A06, n == 0) ∷ (A04, is_under f (on_stack tag (2 * n) n)) ∷ writes (frame_after_pop f n) (operand f tag off (2 * n)) n

-- those of LOADI
abbrev pub loadi_causes : Frame → List ℕ → ℕ → ℤ → ℕ → List (Abend × Bool)
loadi_causes f public tag off n =
    let a = operand f tag off 2 in
    (A06, n == 0) ∷ (A04, tag == 0 && is_under f 2) ∷ (A03, no_access f a 2 || is_outside f (address_at f public (address_or_zero a)) n) ∷ (A05, is_over f n) ∷ []

-- those of STOREI
abbrev pub storei_causes : Frame → List ℕ → ℕ → ℤ → ℕ → List (Abend × Bool)
storei_causes f public tag off n =
    let a = operand f tag off (n + 2) in
    let to = address_at f public (address_or_zero a) in
    (A06, n == 0) ∷ (A04, is_under f (on_stack tag (n + 2) n)) ∷ (A03, no_access f a 2 || is_outside (frame_after_pop f n) to n) ∷ (A08, too_many (frame_after_pop f n) to n) ∷ []

-- those of INDEX
abbrev pub index_causes : Frame → ℕ → ℤ → ℕ → List (Abend × Bool)
index_causes f tag off size =
    (A04, is_under f (on_stack tag 3 1)) ∷ (A03, is_none (indexed_address f tag off size)) ∷ (A05, is_over (frame_after_pop f (on_stack tag 3 1)) 2) ∷ []
