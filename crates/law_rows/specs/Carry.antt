-- The number of a carry or borrow.
use Rattle.std.specs.Prelude.{ℕ, Bool, cond}

-- a carry or borrow as a number, 0 or 1
abbrev pub carry_of : Bool → ℕ
carry_of c = cond c 1 0
