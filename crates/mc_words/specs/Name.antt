-- The bytes of a name, the application identifier (AID).
-- ISO/IEC 7816-4 (application identifiers).
use Rattle.std.specs.Prelude.{◌≡◌, ℕ, ◌-◌, ◌≤◌, List, ◌++◌, length, take, replicate}
use Rattle.mc_words.specs.declared.aid.Aid.TheInside.{Inside}

-- a list has the length of a name: 5 to 16 bytes
abbrev pub IsName : List ℕ → Type 0
IsName n = (5 ≤ length n) × (length n ≤ 16)

-- the bytes of a name, without the zeros of its field
abbrev pub name_bytes : Inside → List ℕ
name_bytes a = take a.len a.bytes

-- a name has 5 to 16 bytes, and zeros follow them in its field
pub record KeepsName (a : Inside) : Type 0 where
  pub room : length a.bytes ≡ 16
  pub low : 5 ≤ a.len
  pub high : a.len ≤ 16
  pub behind : a.bytes ≡ take a.len a.bytes ++ replicate (16 - a.len) 0
