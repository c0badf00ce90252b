-- The bytes of a session.
use Rattle.std.specs.Prelude.{◌≡◌, ℕ, ◌-◌, ◌≤◌, List, ◌++◌, length, take, replicate}
use Rattle.mc_segs.specs.declared.session.Session.TheInside.{Inside}

-- the session bytes: the first `len` of the array
abbrev pub session_bytes : Inside → List ℕ
session_bytes s = take s.len s.bytes

-- the invariant of session bytes: an array of 256 bytes, of which at most 256 count and the others are zero
pub record KeepsSession (s : Inside) : Type 0 where
  pub room : length s.bytes ≡ 256
  pub high : s.len ≤ 256
  pub behind : s.bytes ≡ take s.len s.bytes ++ replicate (256 - s.len) 0
