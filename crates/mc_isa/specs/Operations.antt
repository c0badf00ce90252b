-- The ops whose instructions have an operand before their offset.
use Rattle.std.specs.Prelude.{◌≢◌, ◌≤◌, ℕ}

-- the ops with a word
pub record TakesWord (op : ℕ) : Type 0 where
  pub low : 0x11 ≤ op
  pub high : op ≤ 0x14

-- the ops with a byte
pub record TakesByte (op : ℕ) : Type 0 where
  pub low : 7 ≤ op
  pub high : op ≤ 0x1F
  pub address : op ≢ 0x0B
  pub word : TakesWord op → ⊥
