-- The tests of a record in three parts: its name, the lengths of its sections, its session size and access list.
use Rattle.std.specs.Prelude.{ℕ, ◌-◌, Bool, ◌&&◌, nat_le, ◌==◌, List, take, drop, slice_index, bytes_eq}
use Rattle.mc_words.specs.model_device.specs.Limits.{most_code}
use Rattle.mc_words.specs.model_device.specs.Bytes.{be2, zeros}

-- whether the name has 5 to 16 bytes, with zeros after it
abbrev pub has_valid_name : List ℕ → Bool
has_valid_name r =
    let n = slice_index r 16 in
    nat_le 5 n && nat_le n 16 && bytes_eq (take (16 - n) (drop n r)) (zeros (16 - n))

-- whether the lengths of the sections are within the limits
abbrev pub has_valid_lengths : List ℕ → Bool
has_valid_lengths r =
    nat_le (slice_index r 17) 128 && nat_le (slice_index r 18) 128 && slice_index r 19 == 0
    && nat_le 1 (be2 r 20) && nat_le (be2 r 20) most_code && nat_le (be2 r 22) 4096

-- whether the session size and the access list are within the limits, with zeros after them
abbrev pub has_valid_access : List ℕ → Bool
has_valid_access r = nat_le (be2 r 24) 256 && nat_le (be2 r 26) 15 && bytes_eq (drop 28 r) (zeros 4)
